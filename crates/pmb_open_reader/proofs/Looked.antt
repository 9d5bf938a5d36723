-- What is known of a reader that answered when it was looked at.
use Rattle.std.proofs.Common.{◌≡◌, ◌∙◌, Option, Some, None, IfSome, ap, refl, subst, sym}
use Rattle.pmb_capture_reader.specs.Work.{DoesFor, StandsFresh}
use Rattle.pmb_capture_reader.specs.declared.reader.CaptureReader.{CaptureReader}
use Rattle.pmb_capture_reader.specs.declared.reader_ground.ReaderGround.{ReaderGround}
use Rattle.pmb_capture_reader.specs.declared.work.Answer.{Answer}
use Rattle.pmb_capture_reader.specs.declared.work.Task.{Task}
use Rattle.pmb_capture_reader.specs.declared.work.Task.TheVariants as task
use Rattle.pmb_capture_reader.specs.declared.work.Work.{Work}
use Rattle.pmb_open_reader.specs.Acts.{ActsIn}

-- It is there, and nothing was given to it.
pub looked : (before after : Option CaptureReader) (work done : Work) (base : ReaderGround) (answer : Answer)
    → work.task ≡ task.Look → done.answer ≡ Some answer → ActsIn before after work done
    → IfSome before (λ reader. StandsFresh base reader)
    → (reader : CaptureReader) × (after ≡ Some reader) × StandsFresh base reader
looked (Some old) (Some new) work done base answer look is acts fresh =
    let does : DoesFor task.Look old new work.piece.now work.room.now done.room.now acts.answer.moved =
    subst (λ (t : Task). DoesFor t old new work.piece.now work.room.now done.room.now acts.answer.moved) look acts.does
    in
    (new, refl, subst (λ (reader : CaptureReader). StandsFresh base reader) (sym does.0) fresh)
looked (Some old) None work done base answer look is acts fresh = absurd acts
looked None after work done base answer look is acts fresh =
    absurd (cc (sym (ap (λ (w : Work). w.answer) acts.1) ∙ is))
