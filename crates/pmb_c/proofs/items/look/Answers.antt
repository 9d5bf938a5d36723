-- What is answered is what is ready of the reader.
use Rattle.std.proofs.Common.{◌≡◌, ◌∙◌, Option, Some, None, ap, length, subst, sym}
use Rattle.std.specs.Option.{unwrap_or}
use Rattle.pmb_capture_reader.specs.Reader.{reader_ready, reader_tally}
use Rattle.pmb_capture_reader.specs.Work.{DoesFor, ready_for}
use Rattle.pmb_capture_reader.specs.declared.reader.CaptureReader.{CaptureReader}
use Rattle.pmb_capture_reader.specs.declared.work.Answer.{Answer}
use Rattle.pmb_capture_reader.specs.declared.work.Task.{Task}
use Rattle.pmb_capture_reader.specs.declared.work.Task.TheVariants as task
use Rattle.pmb_capture_reader.specs.declared.work.Work.{Work}
use Rattle.pmb_c.specs.Items.{LooksAt}
use Rattle.pmb_c.specs.Reader.{ActsHeld}
use Rattle.pmb_c.specs.declared.held.Held.{Held}
use Rattle.pmb_c.specs.declared.held.ReaderKind.TheVariants.{Items}
use Rattle.pmb_c.proofs.items.look.Goals as goal

looks : (from after : Option Held) (work done : Work) (answer : Option Answer) → work.task ≡ task.Look
    → ActsHeld (Some Items) from work after done answer → LooksAt from after answer
looks from after work done (Some look) is got =
    let acts = got.4 in
    let answered : acts.answer ≡ look = ap (λ (o : Option Answer). unwrap_or o look) (sym acts.answered ∙ got.5) in
    let does = subst (λ (t : Task). DoesFor t got.0 got.1 work.piece.now work.room.now done.room.now acts.answer.moved)
    is acts.does in (
      got.0,
      got.2,
      got.3 ∙ ap (λ (r : CaptureReader). Some r) does.0,
      sym (ap (λ (a : Answer). a.ready) answered) ∙ acts.ready
          ∙ ap (λ (t : Task). length (ready_for t got.0 got.1)) is
          ∙ ap (λ (r : CaptureReader). length (reader_ready r)) does.0,
      sym (ap (λ (a : Answer). a.tally) answered) ∙ acts.tally ∙ ap reader_tally does.0,
    )
looks from after work done None is got = (got.0, got.1)

pub returns : goal.returns
returns c =
    looks c.args.handle.now.held c.act.new.handle.held c.new-work.result c.act.new.work c.act.result
    c.new-work.ensures.task c.act.ensures
