use Rattle.std.proofs.Common.{◌≡◌, ◌++◌, [], inl, inr, List, subst, sym, true, ◌∙◌, ℕ}
use Rattle.pmb_places.specs.declared.short_word.ShortWord.{ShortWord}
use Rattle.pmb_places.specs.ShortWord.{IsShortWord}
use Rattle.pmb_times.specs.declared.times.LineState.{LineState}
use Rattle.pmb_times.specs.declared.times.LineState.TheVariants.{Between}
use Rattle.pmb_times.specs.machine.Standing.{FieldsStandAt, is_between}
use Rattle.pmb_times.proofs.Words.{any_line, stands_one, stands_two}
use Rattle.pmb_times.proofs.times.Times.take.Goals as goal

pub returns-in-One : goal.returns-in-One
returns-in-One c = λ text stands.
    let bytes = c.args.bytes.now in
    let old = c.args.self.now in
    let new = c.take_word.new.self in
    let here : is_between old.state ≡ true = sym c.is_between.ensures ∙ c.if-is_between.true in
    let stood : FieldsStandAt Between old.line.items [] old.gap.items (text ++ bytes) =
    elim c.in-One.is [
      | inl one ↦ stands_one old.state old.line.items old.gap.items old.word.items text bytes here stands
          (subst (λ (word : ShortWord). IsShortWord word bytes) one c.short_word.ensures)
      | inr two ↦ stands_two old.state old.line.items old.gap.items old.word.items text bytes here stands
          (subst (λ (word : ShortWord). IsShortWord word bytes) two c.short_word.ensures)
    ] in
    subst (λ (s : LineState). FieldsStandAt s new.line.items new.gap.items new.word.items (text ++ bytes))
    (sym c.take_word.ensures.state)
    (subst (λ (g : List ℕ). FieldsStandAt Between new.line.items g new.word.items (text ++ bytes))
    (sym c.take_word.ensures.gap)
    (subst (λ (w : List ℕ). FieldsStandAt Between new.line.items [] w (text ++ bytes)) (sym c.take_word.ensures.word)
    (any_line old.line.items new.line.items [] old.gap.items (text ++ bytes) stood)))
