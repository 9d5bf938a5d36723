use Rattle.std.proofs.Common.{lit<}
use Rattle.pmb_command.specs.Parts.{IsNew}
use Rattle.pmb_keys.specs.CommandView.{command_parts}
use Rattle.pmb_table.specs.machine.CommandMap.{AreTaken, IsCommandOf}
use Rattle.pmb_table.proofs.Accepted.{All-put}
use Rattle.pmb_table.proofs.TakenCodes.{AreTaken-push, room}
use Rattle.pmb_table.proofs.device_commands.read_next.Goals as goal
use Rattle.pmb_table.proofs.device_commands.read_next.Goals.{After-code_of-code, After-push}

-- the code of the command that was read is none of those before it
is_new : (c : After-code_of-code) → IsNew c.code_of-code.result c.args.taken.now.items
is_new c = rw (c.code_of-code.ensures, ← c.as_slice.ensures.value) c.in-Ok.ensures.own_code

pub push-requires : goal.push-requires
push-requires c =
    let before = (goal.at.push-requires c).After-code_of-code in
    (lit< tt, room c.args.taken.now.items c.code_of-code.result c.requires (is_new before) c.code_of-code.type_inv)

-- and all are taken after it
are_taken : (c : After-push) → IsNew c.code_of-code.result c.args.taken.now.items → AreTaken c.push.new.self.items
are_taken c new = rw c.push.ensures.items
    (AreTaken-push c.args.taken.now.items c.code_of-code.result c.requires new c.code_of-code.type_inv)

pub returns-in-Ok-put-clause-taken : goal.returns-in-Ok-put-clause-taken
returns-in-Ok-put-clause-taken c =
    let at = goal.at.returns-in-Ok-put-clause-taken c in
    are_taken at.After-push (is_new at.After-code_of-code)

pub returns-in-Err-put-clause-taken : goal.returns-in-Err-put-clause-taken
returns-in-Err-put-clause-taken c =
    let at = goal.at.returns-in-Err-put-clause-taken c in
    are_taken at.After-push (is_new at.After-code_of-code)

-- and the commands are ones that a device may have
pub returns-in-Ok-put-clause-accepted : goal.returns-in-Ok-put-clause-accepted
returns-in-Ok-put-clause-accepted c = λ all. rw c.in-Ok-put.ensures.ok
    (All-put (IsCommandOf c.args.pages) (command_parts c.in-Ok.command) c.args.commands.now c.in-Ok.ensures.accepted
    all)
