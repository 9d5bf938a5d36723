use Rattle.std.proofs.Common.{◌<◌, ◌≤◌, ◌∙◌, ap, arith, length}
use Rattle.std.specs.Prelude.{slice_set}
use Rattle.pmb_keys.specs.CommandView.{command_parts}
use Rattle.pmb_table.specs.Profile.{put}
use Rattle.pmb_table.specs.machine.CommandMap.{IsFoundByCode, commands_view}
use Rattle.pmb_table.proofs.CommandMaps.{HaveOwnCodes-from_keys, few, found_put, put-insert_entry}
use Rattle.pmb_table.proofs.command_map.CommandMap.put.Goals.{In_ok-place}
use Rattle.pmb_table.proofs.command_map.CommandMap.put.Goals as goal

-- the command that was put is found
is_found : (c : In_ok-place) → IsFoundByCode c.insert_full.new.self.entries
    (slice_set c.self.inside.places c.args.command.entry.code c.in_ok-place.place)
is_found c =
    let small : c.args.command.entry.code < 256 = omega arith in
    let within : c.args.command.entry.code < length c.self.inside.places = omega arith in
    found_put c.args.command c.self.inside.commands.entries c.insert_full.new.self.entries c.self.inside.places
    c.in_ok-place.place c.self.invariant small within
    c.in_ok-place.ensures.entries c.in_ok-place.ensures.unique c.in_ok-place.ensures.index

pub overflow_cast-self : goal.overflow_cast-self
overflow_cast-self c =
    let all : length c.insert_full.new.self.entries ≤ 256 = few c.insert_full.new.self.entries _
    (is_found (goal.at.overflow_cast-self c).In_ok-place) in
    omega (arith, all, c.in_ok-place.ensures.within)

pub invariant_of-self-2 : goal.invariant_of-self-2
invariant_of-self-2 c = is_found (goal.at.invariant_of-self-2 c).In_ok-place

pub returns-clause-ok : goal.returns-clause-ok
returns-clause-ok c =
    ap commands_view c.in_ok-place.ensures.entries
    ∙ put-insert_entry c.args.command c.self.inside.commands.entries c.self.invariant.held
    ∙ ap (put (command_parts c.args.command)) c.self.view_is

pub returns-clause-own_codes : goal.returns-clause-own_codes
returns-clause-own_codes c =
    let at = (goal.at.returns-clause-own_codes c).In_ok-place in
    HaveOwnCodes-from_keys c.insert_full.new.self.entries (is_found at).held c.in_ok-place.ensures.unique
