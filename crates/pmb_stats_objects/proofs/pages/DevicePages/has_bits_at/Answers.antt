use Rattle.std.proofs.Common.{ap, sym}
use Rattle.pmb_observed.specs.Observing.{observations}
use Rattle.pmb_observed.specs.Spot.{command_on, spot_at}
use Rattle.pmb_stats_objects.specs.machine.Written.{has_any}
use Rattle.pmb_stats_objects.proofs.Spots.{any_register, no_register}
use Rattle.pmb_stats_objects.proofs.pages.DevicePages.has_bits_at.Goals as goal

pub returns-in-Some : goal.returns-in-Some
returns-in-Some c = λ setting facts stands.
    let spot = spot_at c.args.self.now.addr c.args.code c.args.page c.args.phase in
    let there = rw c.spot.ensures at (c.in-Some.ensures setting facts stands.stats) in
    any_register (observations setting facts) spot (command_on setting.profile spot) c.has_bit.result there.0
    (λ command. c.has_bit.ensures c.args.page c.args.phase command _ there.1 there.2)

pub returns-in-None : goal.returns-in-None
returns-in-None c = λ setting facts stands.
    let spot = spot_at c.args.self.now.addr c.args.code c.args.page c.args.phase in
    let lacks = rw c.spot.ensures at (c.in-None.ensures setting facts stands.stats) in
    sym (ap has_any (no_register (observations setting facts) spot (command_on setting.profile spot) lacks))
