use Rattle.std.proofs.Common.{◌≡◌, ◌∙◌, None, Some, map, rules, sym}
use Rattle.std.specs.Prelude.{slice_get, slice_index}
use Rattle.pmb_command.specs.Parts.{HaveOwnCodes, command_with}
use Rattle.pmb_keys.specs.CommandView.{command_parts}
use Rattle.pmb_table.specs.machine.Places.{ArePlaces}
use Rattle.pmb_table.proofs.Places.{find-at, find-new, new_elsewhere, new_past, number_at}
use Rattle.pmb_table.proofs.command_map.CommandMap.get.Goals as goal

-- nothing stands at the place of the code
pub returns-in_err-command : goal.returns-in_err-command
returns-in_err-command c =
    let at : ArePlaces c.self.inside.places (map (λ x. x.entry.code) c.args.self.now) =
    rw (← c.self.view_is) c.self.invariant.places in
    let none : command_with c.args.code c.args.self.now ≡ None =
    find-new (λ x. x.entry.code) c.args.self.now c.args.code
    (new_past (λ x. x.entry.code) c.args.self.now c.self.inside.places c.args.code at c.in_err-command.ensures) in
    rw none (search rules)

-- its command does
pub returns-then-command-code : goal.returns-then-command-code
returns-then-command-code c =
    let place = slice_index c.self.inside.places c.args.code in
    let own : HaveOwnCodes c.args.self.now = rw (← c.self.view_is) c.self.invariant.taken.0 in
    let here : slice_get (map (λ x. x.entry.code) c.args.self.now) place ≡ Some c.args.code =
    number_at (λ x. x.entry.code) c.args.self.now place c.args.code (command_parts c.in_ok-command.command.now)
    c.in_ok-command.ensures c.if-command-code.true in
    c.in_ok-command.ensures ∙ sym (find-at (λ x. x.entry.code) c.args.self.now place c.args.code own here)

-- the command of another code does
pub returns-else-command-code : goal.returns-else-command-code
returns-else-command-code c =
    let at : ArePlaces c.self.inside.places (map (λ x. x.entry.code) c.args.self.now) =
    rw (← c.self.view_is) c.self.invariant.places in
    sym (find-new (λ x. x.entry.code) c.args.self.now c.args.code
    (new_elsewhere (λ x. x.entry.code) c.args.self.now c.self.inside.places c.args.code
    (command_parts c.in_ok-command.command.now) at c.in_ok-command.ensures c.if-command-code.false))
