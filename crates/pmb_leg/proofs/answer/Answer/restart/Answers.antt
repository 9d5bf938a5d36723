use Rattle.std.proofs.Common.{◌∙◌, ◌++◌, List, ℕ, Some, ap, subst, sym}
use Rattle.std.proofs.lemmas.List.{append-nil}
use Rattle.pmb_bus.specs.Pec.{pec}
use Rattle.pmb_leg.specs.machine.DataLeft.{Leaves, start}
use Rattle.pmb_leg.proofs.Lefts.{started}
use Rattle.pmb_leg.proofs.answer.Answer.restart.Goals as goal

pub invariant_of-self : goal.invariant_of-self
invariant_of-self c =
    let before = c.requires.0 in
    let P : List ℕ → Type 0 = λ (bs : List ℕ). Leaves c.args.form c.args.mode before bs
    (start (Some c.args.form) c.args.mode) in
    record {
      before = before;
      code = c.requires.1;
      alike = λ others more same. c.pec_is_all_that_counts.ensures others before more same;
      crc = ap (λ (bs : List ℕ). pec (before ++ bs)) c.clear.ensures ∙ ap pec (append-nil before) ∙ c.requires.1;
      left = subst (Leaves c.args.form c.args.mode before c.clear.new.self.items) (sym c.start-self-inside.ensures)
          (subst P (sym c.clear.ensures) (started before c.args.form c.args.mode));
    }
