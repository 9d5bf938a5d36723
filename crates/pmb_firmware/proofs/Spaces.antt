-- A space after a text, as its end counts: for `PmbLexer::feed` and `PmbLexer::finish`. A space
-- (byte 32) ends the word under way and leaves a comment; so all words have ended, and there are
-- as many of them as events. At the end, texts of spaces alone, one of each length: for `Somewhere`.
use Rattle.std.proofs.Common.{◌≡◌, ℕ, zero, suc, Bool, true, false, Some, List, [], ◌∷◌, ◌++◌, codes, length, refl, sym}
use Rattle.std.proofs.Common.{ap, subst}
use Rattle.std.proofs.Common.{◌∙◌, arith}
use Rattle.std.specs.List.{filter}
use Rattle.std.proofs.lemmas.List.{append-nil, length-append, length-map}
use Rattle.pmb_bus.specs.declared.event.Event.{Event}
use Rattle.pmb_bus.specs.Event.{event_of}
use Rattle.pmb_bus.specs.Text.{AreTokens, EndedWordsSpell, EndsBetween, Spells, all_but_last, ended_words}
use Rattle.pmb_bus.specs.Text.{ends_in_comment}
use Rattle.pmb_bus.specs.Text.{in_comment, is_word, open_word, words}
use Rattle.pmb_firmware.proofs.Ends.{cut_separator, inside_by}
use Rattle.pmb_firmware.proofs.Runs.{ended_append, following}
use Rattle.pmb_firmware.proofs.Tails.{all_words, between_tail, ended_are_all, tail_ended}

pub space_cuts : (text : List ℕ) → open_word (text ++ codes " ") ≡ []
space_cuts text = cut_separator text 32 refl

pub space_outside : (text : List ℕ) → ends_in_comment text ≡ false → ends_in_comment (text ++ codes " ") ≡ false
space_outside text outside = inside_by text 32 ∙ ap (λ (v : Bool). in_comment v 32) outside

pub space_inside : (text : List ℕ) → ends_in_comment text ≡ true → ends_in_comment (text ++ codes " ") ≡ true
space_inside text inside = inside_by text 32 ∙ ap (λ (v : Bool). in_comment v 32) inside

-- it ends the word under way, in a comment too, where there is none
one_cut : (word : List ℕ) (inside : Bool) → following word inside (codes " ") ≡ (word ++ []) ∷ [] ∷ []
one_cut word true = refl
one_cut word false = refl

-- so all words have ended
ended_are_words : (text : List ℕ) → ended_words (text ++ codes " ") ≡ words text
ended_are_words text =
    ended_append text (codes " ")
    ∙ ap (λ (all : List (List ℕ)). ended_words text ++ filter is_word (all_but_last all))
    (one_cut (open_word text) (ends_in_comment text))
    ∙ ap (λ (word : List ℕ). ended_words text ++ filter is_word (word ∷ [])) (append-nil (open_word text))
    ∙ sym (all_words text)

pub space_ends : (text : List ℕ) (events : List Event) → Spells text events → EndedWordsSpell (text ++ codes " ") events
space_ends text events spelled = subst (λ (ws : List (List ℕ)). AreTokens ws events)
    (sym (ended_are_words text)) spelled

pub space_spells : (text : List ℕ) (events : List Event) → Spells text events → Spells (text ++ codes " ") events
space_spells text events spelled =
    subst (λ (ws : List (List ℕ)). AreTokens ws events)
    (sym (ended_are_all (text ++ codes " ") (space_cuts text) ∙ ended_are_words text)) spelled

-- ---- how many words have ended

-- a row of tokens has as many words as events
as_many : (ws : List (List ℕ)) (events : List Event) → AreTokens ws events → length ws ≡ length events
as_many ws events tokens = sym (length-map ws event_of) ∙ ap (length {A = _}) tokens ∙ length-map events Some

one_word : (word : List ℕ) → is_word word ≡ true → length (filter is_word (word ∷ [])) ≡ 1
one_word word some = rw some refl

-- with a word under way the words that have ended are not all
pub all_ended : (text : List ℕ) (events : List Event) → Spells text events → EndedWordsSpell text events
    → is_word (open_word text) ≡ true → ⊥
all_ended text events spelled ended some =
    omega (
      arith,
      as_many (words text) events spelled,
      as_many (ended_words text) events ended,
      ap (length {A = List ℕ}) (all_words text),
      length-append (ended_words text) (filter is_word (open_word text ∷ [])),
      one_word (open_word text) some,
    )

-- and without one they are
pub not_all_ended : (text : List ℕ) (events : List Event) (event : Event) → Spells text (events ++ event ∷ [])
    → EndedWordsSpell text events
    → open_word text ≡ [] → ⊥
not_all_ended text events event spelled ended none =
    omega (
      arith,
      as_many (words text) (events ++ event ∷ []) spelled,
      as_many (ended_words text) events ended,
      ap (length {A = List ℕ}) (ended_are_all text none),
      length-append events (event ∷ []),
    )

-- ---- spaces alone

-- a text of so many bytes in which no word and no comment begins
pub record Blank (n : ℕ) : Type 0 where
  pub text : List ℕ
  pub long : n ≡ length text
  pub between : EndsBetween text
  pub none_ended : ended_words text ≡ []

pub spaces : (n : ℕ) → Blank n
spaces zero = record { text = []; long = refl; between = (refl, refl); none_ended = refl }
spaces (suc n) =
    let before = spaces n in
    let tail = between_tail before.text before.between in
    record {
      text = before.text ++ codes " ";
      long = omega (arith, before.long, length-append before.text (codes " "));
      between = (space_cuts before.text, space_outside before.text before.between.1);
      none_ended = tail_ended before.text [] tail (codes " ") ∙ ap (λ (ws : List (List ℕ)). ws ++ []) before.none_ended;
    }
