-- Texts that end between words, one after the other: for `Places::take_line` and the law
-- `texts_end_between_words`.
use Rattle.std.proofs.Common.{ℕ, Bool, false, List, [], ◌++◌, take, sym, ap, ◌∙◌}
use Rattle.pmb_bus.specs.Text.{EndsBetween, ends_in_comment, ends_in_comment_from, last_run, runs}
use Rattle.pmb_bus.proofs.Splits.{glue, glue-nil}
use Rattle.pmb_bus.proofs.Words.{ends_in_comment_from-append, open_word-append, runs_from}
use Rattle.pmb_places.specs.declared.open_word.OpenWord.{OpenWord}
use Rattle.pmb_places.specs.OpenWord.{OpenWordStandsAt}

-- one after the other
pub both : (front back : List ℕ) → EndsBetween front → EndsBetween back → EndsBetween (front ++ back)
both front back first second = (
  open_word-append front back
      ∙ ap (λ (opened : List ℕ). last_run (glue opened (runs_from (ends_in_comment front) back))) first.0
      ∙ ap (λ (inside : Bool). last_run (glue [] (runs_from inside back))) first.1
      ∙ ap last_run (glue-nil (runs back))
      ∙ second.0,
  ends_in_comment_from-append false front back ∙ ap (λ (inside : Bool). ends_in_comment_from inside back) first.1
      ∙ second.1,
)

-- nothing is kept at their ends
pub kept : (word : OpenWord) (text other : List ℕ) → OpenWordStandsAt word text → EndsBetween text → EndsBetween other
    → OpenWordStandsAt word other
kept word text other stands here there = record {
  bytes = stands.bytes ∙ ap (take 32) (here.0 ∙ sym there.0);
  comment = stands.comment ∙ here.1 ∙ sym there.1;
}
