use Rattle.std.proofs.Common.{◌≡◌, ◌∙◌, Option, Some, None, ℤ, refl, ap, sym, subst}
use mir.Syntax.{w32}
use mir.Val.{of_z, to_z}
use Rattle.pmb_capture_reader.specs.Work.{DoesFor}
use Rattle.pmb_capture_reader.specs.declared.reader.Fed.{Fed}
use Rattle.pmb_capture_reader.specs.declared.reader.Fed.TheVariants as fed
use Rattle.pmb_capture_reader.specs.declared.work.Answer.{Answer}
use Rattle.pmb_capture_reader.specs.declared.work.Task.{Task}
use Rattle.pmb_capture_reader.specs.declared.work.Task.TheVariants as task
use Rattle.pmb_capture_reader.specs.declared.work.Work.{Work}
use Rattle.pmb_c.specs.Reader.{ActsHeld, EndsReader, Over, Closed, number_of_answer, number_of_fed}
use Rattle.pmb_c.specs.declared.held.Held.{Held}
use Rattle.pmb_c.proofs.reader.pmb_reader_end.Goals as goal

-- each status is a number of 32 bits
fits_fed : (state : Fed) → to_z w32 (of_z w32 (number_of_fed state)) ≡ number_of_fed state
fits_fed fed.More = refl
fits_fed fed.Ended = refl
fits_fed fed.Memory = refl

fits : (answer : Option Answer) → to_z w32 (of_z w32 (number_of_answer answer)) ≡ number_of_answer answer
fits (Some answer) = fits_fed answer.state
fits None = refl

-- what was asked is to take the end
over : (from after : Option Held) (work done : Work) (answer : Option Answer) → work.task ≡ task.End
    → ActsHeld None from work after done answer → EndsReader from after (number_of_answer answer)
over from after work done (Some answer) is_end got =
    let acts = got.4 in
    let does = subst (λ (t : Task). DoesFor t got.0 got.1 work.piece.now work.room.now done.room.now acts.answer.moved)
    is_end acts.does in
    Over got.0 got.1 got.2 got.3 got.6 does.0
    (ap number_of_answer (sym got.5 ∙ acts.answered) ∙ ap number_of_fed acts.state)
over from after work done None is_end got = Closed got.0 got.1 refl

pub returns : goal.returns
returns c = subst (λ (n : ℤ). EndsReader c.args.reader.now.held c.act.new.handle.held n)
    (sym (ap (λ (n : ℤ). to_z w32 (of_z w32 n)) c.returned.ensures ∙ fits c.act.result))
    (over c.args.reader.now.held c.act.new.handle.held c.new-work.result c.act.new.work c.act.result c.new-work.ensures.task
    c.act.ensures)
