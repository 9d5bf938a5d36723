use Rattle.std.proofs.Common.{length, le-leb}
use Rattle.std.proofs.lemmas.Bool.{lt-leb}
use Rattle.pmb_keys.proofs.Arrays.{item_count-view}
use Rattle.pmb_table.proofs.bus_profile.array_rule.Goals as goal

pub returns-then-values-le-MAX_DEVICES-clause-read : goal.returns-then-values-le-MAX_DEVICES-clause-read
returns-then-values-le-MAX_DEVICES-clause-read c =
    let vs = c.in_ok-values.values.now in
    rw (← c.in_ok-values.ensures, item_count-view vs, le-leb (length vs) 64 c.if-values-le-MAX_DEVICES.true)

pub returns-else-values-le-MAX_DEVICES-clause-read : goal.returns-else-values-le-MAX_DEVICES-clause-read
returns-else-values-le-MAX_DEVICES-clause-read c =
    let vs = c.in_ok-values.values.now in
    rw (← c.in_ok-values.ensures, item_count-view vs, lt-leb (length vs) 64 c.if-values-le-MAX_DEVICES.false)
