-- What a text spells with what follows it, and what its tail does: the events of the ended words,
-- and then those of the tail with what follows. For `PmbLexer::feed`, `finish`, `resumed` and
-- `lexer_behind`.
use Rattle.std.proofs.Common.{ℕ, Some, List, [], ◌∷◌, ◌++◌, sym, subst, ◌∙◌}
use Rattle.std.proofs.lemmas.List.{append-nil, append_assoc, map-append}
use Rattle.pmb_bus.specs.declared.event.Event.{Event}
use Rattle.pmb_bus.specs.Event.{event_of}
use Rattle.pmb_bus.specs.Text.{AreTokens, BeginsText, EndedWordsSpell, Spells, ended_words, words}
use Rattle.pmb_firmware.specs.machine.Standing.{IsTail}
use Rattle.pmb_firmware.proofs.Tails.{tail_ended, tail_words}

-- ---- rows of tokens

both : (front back : List (List ℕ)) (events more : List Event) → AreTokens front events → AreTokens back more
    → AreTokens (front ++ back) (events ++ more)
both front back events more first second = map-append event_of front back ∙ cc (first, second)
    ∙ sym (map-append Some events more)

-- the second part of a row of tokens is one
second_part : (front back : List (List ℕ)) (events : List Event) → AreTokens (front ++ back) events
    → (more : List Event) × AreTokens back more
second_part [] back events tokens = (events, tokens)
second_part (word ∷ front) back [] tokens = cc tokens
second_part (word ∷ front) back (event ∷ events) tokens = second_part front back events (cc tokens)

-- ---- texts

-- what begins a text that spells events, so does its front
pub front_begins : (front back : List ℕ) → BeginsText (front ++ back) → BeginsText front
front_begins front back begins = (
  back ++ begins.0,
  begins.1,
  subst (λ (all : List ℕ). Spells all begins.1)
      (append_assoc front back begins.0) begins.2,
)

module _ (text tail : List ℕ) (is : IsTail text tail) (events : List Event) (ended : EndedWordsSpell text events) where
  pub spells : (more : List ℕ) (others : List Event) → Spells (tail ++ more) others
      → Spells (text ++ more) (events ++ others)
  spells more others spelled =
      subst (λ (ws : List (List ℕ)). AreTokens ws (events ++ others)) (sym (tail_words text tail is more))
      (both (ended_words text) (words (tail ++ more)) events others ended spelled)

  pub spells_ended : (more : List ℕ) (others : List Event) → EndedWordsSpell (tail ++ more) others
      → EndedWordsSpell (text ++ more) (events ++ others)
  spells_ended more others spelled =
      subst (λ (ws : List (List ℕ)). AreTokens ws (events ++ others)) (sym (tail_ended text tail is more))
      (both (ended_words text) (ended_words (tail ++ more)) events others ended spelled)

  -- no event more
  pub spells_no_more : (more : List ℕ) → EndedWordsSpell (tail ++ more) [] → EndedWordsSpell (text ++ more) events
  spells_no_more more spelled =
      subst (λ (all : List Event). EndedWordsSpell (text ++ more) all) (append-nil events)
      (spells_ended more [] spelled)

  -- where the text spells events with what follows it, its tail does
  pub tail_spells : (more : List ℕ) (others : List Event) → Spells (text ++ more) others
      → (back : List Event) × Spells (tail ++ more) back
  tail_spells more others spelled =
      second_part (ended_words text) (words (tail ++ more)) others
      (subst (λ (ws : List (List ℕ)). AreTokens ws others) (tail_words text tail is more) spelled)

  pub begins : (more : List ℕ) → BeginsText (tail ++ more) → BeginsText (text ++ more)
  begins more begun = (
    begun.0,
    events ++ begun.1,
    subst (λ (all : List ℕ). Spells all (events ++ begun.1)) (sym (append_assoc text more begun.0))
        (spells (more ++ begun.0) begun.1 (subst (λ (all : List ℕ). Spells all begun.1)
        (append_assoc tail more begun.0) begun.2)),
  )

  pub tail_begins : (more : List ℕ) → BeginsText (text ++ more) → BeginsText (tail ++ more)
  tail_begins more begun =
      let back = tail_spells (more ++ begun.0) begun.1
      (subst (λ (all : List ℕ). Spells all begun.1) (append_assoc text more begun.0) begun.2) in
      (begun.0, back.0, subst (λ (all : List ℕ). Spells all back.0) (sym (append_assoc tail more begun.0)) back.1)
