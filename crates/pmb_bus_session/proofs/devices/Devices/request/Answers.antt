use Rattle.std.proofs.Common.{◌≡◌, ◌++◌, [], ◌∙◌, ℕ, List, Some, sym, ap}
use Rattle.pmb_io.specs.Outgoing.{PutsText}
use Rattle.pmb_io.specs.declared.tally.Tally.{Tally}
use Rattle.pmb_run.specs.Answer.{answer_text}
use Rattle.pmb_run.specs.machine.Running.{counted_in}
use Rattle.pmb_bus_session.proofs.devices.Devices.request.Goals as goal

-- A text that was put out where none waited, and of which nothing was sent, waits as a whole.
all_waits : (w0 w1 text : List ℕ) → w0 ≡ [] → PutsText (Some []) w0 (Some []) w1 text → w1 ≡ text
all_waits w0 w1 text none put =
    ap (λ (sent : List ℕ). sent ++ w1) put.appended ∙ (sym put.whole ∙ ap (λ (w : List ℕ). w ++ text) none)

-- The answer waits.
pub returns-clause-runs : goal.returns-clause-runs
returns-clause-runs c members ts stands =
    let taken = c.in_ok-take_next.ensures.takes members ts stands in
    record {
      told = taken.answer;
      said = taken.said;
      said_is = taken.said_is;
      answers = taken.answers;
      text = all_waits c.clear.new.self.items c.take_next.new.waiting.items
          (answer_text c.take_next.new.self.lines taken.answer) c.clear.ensures taken.writes;
      lines = taken.lines;
      tally_is = taken.tally ∙ ap (λ (tally : Tally). counted_in taken.answer tally) c.new-self.ensures;
      profile_is = ap (λ profile. profile.now) taken.same;
      stands = taken.stands;
    }
