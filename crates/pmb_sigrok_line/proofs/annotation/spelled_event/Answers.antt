use Rattle.std.proofs.Common.{◌≡◌, ◌∙◌, Some, rules}
use Rattle.pmb_sigrok_line.specs.machine.Shapes.{shaped}
use Rattle.pmb_sigrok_line.proofs.Shapes.{shaped_is}
use Rattle.pmb_sigrok_line.proofs.annotation.spelled_event.Goals as goal

-- what was read by the shapes in turn is the event of the spelling

pub returns-in-Some : goal.returns-in-Some
unfolding shaped
returns-in-Some c =
    let read : c.quoted_event.result ≡ shaped c.args.text.now = search rules in read ∙ shaped_is c.args.text.now

pub returns-in-Some-short_event : goal.returns-in-Some-short_event
unfolding shaped
returns-in-Some-short_event c =
    let read : Some c.in-Some-short_event.event ≡ shaped c.args.text.now = search rules in
    read ∙ shaped_is c.args.text.now

pub returns-in-None : goal.returns-in-None
unfolding shaped
returns-in-None c =
    let read : c.long_event.result ≡ shaped c.args.text.now = search rules in read ∙ shaped_is c.args.text.now
