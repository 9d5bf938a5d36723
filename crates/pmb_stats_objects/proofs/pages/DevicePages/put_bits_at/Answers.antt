use Rattle.std.proofs.Common.{ap, map, sym}
use Rattle.pmb_keys.specs.CommandView.{command_parts}
use Rattle.pmb_observed.specs.Observing.{observations}
use Rattle.pmb_observed.specs.Spot.{command_on, is_register, spot_at}
use Rattle.pmb_stats_objects.specs.Pages.{bit_item}
use Rattle.pmb_stats_objects.proofs.Putting.{called_items, none_put, on_ok}
use Rattle.pmb_stats_objects.proofs.Spots.{command_is, no_register, some_register}
use Rattle.pmb_stats_objects.proofs.pages.DevicePages.put_bits_at.Goals as goal

-- the profile has none there
pub returns-in_default-clause-puts : goal.returns-in_default-clause-puts
returns-in_default-clause-puts g c = λ setting facts stands.
    let spot = spot_at c.args.self.now.addr c.args.code c.args.page c.args.phase in
    let lacks = rw c.spot.ensures at (c.in_default.ensures setting facts stands.stats) in
    called_items (sym (ap (map bit_item) (no_register (observations setting facts) spot
    (command_on setting.profile spot) lacks)))
    (none_put c.args.place.now (c.texts_add_up.ensures.nothing _ _))

pub returns-clause-puts : goal.returns-clause-puts
returns-clause-puts g c = λ setting facts stands.
    let spot = spot_at c.args.self.now.addr c.args.code c.args.page c.args.phase in
    let told = observations setting facts in
    let there = rw c.spot.ensures at (c.in-Some.ensures setting facts stands.stats) in
    let command = command_parts c.in-Some-command.command.now in
    let is = command_is setting.profile c.args.self.now.profile.now spot stands.device command is_register
    (sym c.in-Some-command.ensures) there.0 in
    on_ok c.put_bits.result (λ puts.
    called_items (sym (ap (map bit_item) (some_register told spot
    (command_on setting.profile spot) command there.0 is))) puts)
    (c.put_bits.ensures.puts c.args.page _ there.1 there.2)
