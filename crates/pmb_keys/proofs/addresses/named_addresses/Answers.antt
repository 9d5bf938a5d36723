use Rattle.std.proofs.Common.{◌≤◌, ◌∙◌, arith, length, sym}
use Rattle.std.proofs.lemmas.List.{at_drop_all}
use Rattle.toml.specs.View.{items_view}
use Rattle.pmb_keys.specs.Addresses.{each_named}
use Rattle.pmb_keys.specs.machine.Addresses.{marked, marking}
use Rattle.pmb_keys.proofs.AddressFlags.{marked_all}
use Rattle.pmb_keys.proofs.addresses.named_addresses.Goals as goal

-- no tables are left, and the flags of all are those of the addresses among them
pub returns : goal.returns
returns c =
    let values = c.args.values.now in
    let i = c.loop-value.value-index in
    let past : length values ≤ i = omega arith in
    let ended = at_drop_all (λ vs. marked (marking c.loop-value.flags (each_named (items_view vs)))) values i past in
    sym ended ∙ c.loop-value.invariant.named ∙ marked_all (each_named (items_view values))
