-- What an engine over a whole input says of a `Capture`, in the words of captures.
use Rattle.std.proofs.Common.{◌∙◌, ap}
use Rattle.pmb_capture.specs.declared.capture.Capture.{Capture}
use Rattle.pmb_capture.specs.machine.Capture.{capture_profile}
use Rattle.pmb_capture.proofs.Running.{capture_wrote}
use Rattle.pmb_capture.proofs.commands.whole.write_whole.Goals as goal

pub returns-in-Ok : goal.returns-in-Ok
returns-in-Ok g c =
    let began = c.in-Some.ensures in
    let lent = c.deref_mut-engine.ensures.value in
    let O = g.row.O.Denot in
    capture_wrote g.O.Output.text g.O.Output.Stands g.W.Sink.told c.deref_mut-engine.result.now
    c.whole_input.new.engine _ _ (ap (λ (e : Capture O). g.O.Output.text e.account.output) lent
    ∙ ap g.O.Output.text began.output)
    (ap (λ (e : Capture O). capture_profile e) lent ∙ began.profile) _ _ _ c.tally.result c.tally.ensures
    c.in-Ok.ensures
