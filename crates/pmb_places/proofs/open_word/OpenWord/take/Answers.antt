use Rattle.std.proofs.Common.{◌≡◌, ℕ, List, false, inl, inr, subst, sym, ap, ◌∙◌, take}
use Rattle.pmb_bus.specs.Text.{ends_in_comment}
use Rattle.pmb_places.specs.declared.short_word.ShortWord.{ShortWord}
use Rattle.pmb_places.specs.ShortWord.{IsShortWord}
use Rattle.pmb_places.proofs.ShortWords.{Closed, closed_one, closed_two}
use Rattle.pmb_places.proofs.open_word.OpenWord.take.Goals as goal

pub returns-in-One : goal.returns-in-One
returns-in-One c = λ text stands.
    let bytes = c.args.bytes.now in
    let out : ends_in_comment text ≡ false = sym stands.comment ∙ c.if-not-self.true in
    let found : Closed text bytes =
    elim c.in-One.is [
      | inl one ↦ closed_one text bytes (subst (λ (word : ShortWord). IsShortWord word bytes) one c.short_word.ensures)
          out
      | inr two ↦ closed_two text bytes (subst (λ (word : ShortWord). IsShortWord word bytes) two c.short_word.ensures)
          out
    ] in record {
      bytes = c.clear.ensures ∙ sym (ap (λ (word : List ℕ). take 32 word) found.opened);
      comment = c.if-not-self.true ∙ sym found.comment;
    }
