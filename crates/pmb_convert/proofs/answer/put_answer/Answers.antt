use Rattle.std.proofs.Common.{◌≡◌, List, ℕ, ◌++◌, codes, append_assoc, refl, subst}
use Rattle.std.proofs.lemmas.Result.{on_ok_weaker}
use Rattle.pmb_io.specs.Outgoing.{PutsText}
use Rattle.pmb_convert.specs.Answer.{answer_line, fault_name}
use Rattle.pmb_convert.specs.machine.Converting.{answer_of, converted_text}
use Rattle.pmb_convert.proofs.answer.put_answer.Goals as goal
use Rattle.pmb_convert.proofs.answer.put_answer.Goals.{in-Ok+in_ok-put_converted-in-Ok, in-Err+in_ok-put_fault-in-Err}

-- what was put out before the LF
pub returns-clause-ok : goal.returns-clause-ok
returns-clause-ok g c =
    let held = (g.W.Sink.told c.args.writer.now).held in
    let waited = c.args.waiting.now.items in
    let Front : List ℕ → Type 0 = λ text. PutsText held waited (g.W.Sink.told c.match-answer.writer).held
    c.match-answer.waiting.items text × (text ++ codes "\n" ≡ answer_line (answer_of c.args.answer.now)) in
    let front : (text : List ℕ) × Front text =
    elim c.match-answer.branch [
      | in-Ok+in_ok-put_converted-in-Ok w ↦ (
        converted_text w.in-Ok.converted,
        (
          rw (w.waiting-is, w.writer-is) w.in_ok-put_converted-in-Ok.ensures.ok,
          rw w.in-Ok.is refl,
        ),
      )
      | in-Err+in_ok-put_fault-in-Err w ↦ (
        codes "! " ++ fault_name w.in-Err.fault,
        (
          rw (w.waiting-is, w.writer-is) w.in_ok-put_fault-in-Err.ensures.ok,
          rw w.in-Err.is (append_assoc (codes "! ") (fault_name w.in-Err.fault) (codes "\n")),
        ),
      )
    ] in
    on_ok_weaker c.put.result
    (λ writes. subst (λ line. PutsText held waited (g.W.Sink.told c.put.new.writer).held c.put.new.waiting.items line)
    front.1.1 (c.texts_add_up.ensures.both _ _ _ _ _ _ _ _ front.1.0 writes))
    c.put.ensures.ok
