-- What follows a text reads as what follows its tail: for all steps of `PmbLexer`. A tail has the
-- same word under way and the same comment (`IsTail`), and nothing else of a text matters to what
-- follows.
use Rattle.std.proofs.Common.{◌≡◌, ℕ, Bool, List, [], ◌∷◌, ◌++◌, refl, sym, ap, ◌∙◌}
use Rattle.std.specs.List.{filter}
use Rattle.std.proofs.lemmas.List.{append-nil}
use Rattle.pmb_bus.specs.Text.{EndsBetween, all_but_last, ended_words, ends_in_comment, ends_in_comment_from, is_word}
use Rattle.pmb_bus.specs.Text.{last_run, open_word, words}
use Rattle.pmb_firmware.specs.machine.Standing.{IsTail}
use Rattle.pmb_firmware.proofs.Runs.{ended_append, following, inside_append, open_append, words_append}

module _ (text tail : List ℕ) (is : IsTail text tail) (more : List ℕ) where
  same : following (open_word text) (ends_in_comment text) more ≡ following (open_word tail) (ends_in_comment tail) more
  same =
      ap (λ (word : List ℕ). following word (ends_in_comment text) more) is.word
      ∙ ap (λ (inside : Bool). following (open_word tail) inside more) is.comment

  -- the words of both
  pub tail_words : words (text ++ more) ≡ ended_words text ++ words (tail ++ more)
  tail_words =
      words_append text more
      ∙ ap (λ (all : List (List ℕ)). ended_words text ++ filter is_word all) same
      ∙ ap (λ (front : List (List ℕ)). ended_words text
      ++ (front ++ filter is_word (following (open_word tail) (ends_in_comment tail) more)))
      (sym is.none_ended)
      ∙ ap (λ (all : List (List ℕ)). ended_words text ++ all) (sym (words_append tail more))

  -- those that have ended
  pub tail_ended : ended_words (text ++ more) ≡ ended_words text ++ ended_words (tail ++ more)
  tail_ended =
      ended_append text more
      ∙ ap (λ (all : List (List ℕ)). ended_words text ++ filter is_word (all_but_last all)) same
      ∙ ap (λ (front : List (List ℕ)). ended_words text
      ++ (front ++ filter is_word (all_but_last (following (open_word tail) (ends_in_comment tail) more))))
      (sym is.none_ended)
      ∙ ap (λ (all : List (List ℕ)). ended_words text ++ all) (sym (ended_append tail more))

  -- the word under way
  pub tail_open : open_word (text ++ more) ≡ open_word (tail ++ more)
  tail_open = open_append text more ∙ ap last_run same ∙ sym (open_append tail more)

  -- and whether a comment is open
  pub tail_inside : ends_in_comment (text ++ more) ≡ ends_in_comment (tail ++ more)
  tail_inside =
      inside_append text more ∙ ap (λ (inside : Bool). ends_in_comment_from inside more) is.comment
      ∙ sym (inside_append tail more)

-- after a text that ends between words its tail is empty
pub between_tail : (text : List ℕ) → EndsBetween text → IsTail text []
between_tail text between = record { word = between.0; comment = between.1; none_ended = refl }

-- the words of a text
pub all_words : (text : List ℕ) → words text ≡ ended_words text ++ filter is_word (open_word text ∷ [])
all_words text =
    ap words (sym (append-nil text)) ∙ words_append text []
    ∙ ap (λ (word : List ℕ). ended_words text ++ filter is_word (word ∷ [])) (append-nil (open_word text))

-- where no word is under way they have all ended
pub ended_are_all : (text : List ℕ) → open_word text ≡ [] → words text ≡ ended_words text
ended_are_all text none =
    all_words text
    ∙ ap (λ (word : List ℕ). ended_words text ++ filter is_word (word ∷ [])) none
    ∙ append-nil (ended_words text)
