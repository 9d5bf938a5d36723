-- The lexer of pmb_bus that goes on after the tail of a text: for `PmbLexer::resumed` and
-- `lexer_behind`. Given the bytes of the tail, nothing, `#`, or one or two bytes of a word, a new
-- lexer needs more: no word has ended there, and no fault is met, since the text begins a text of
-- events.
use Rattle.std.proofs.Common.{◌≡◌, ℕ, ◌+◌, ◌<◌, Option, Some, None, List, [], ◌∷◌, ◌++◌, length, take, drop, refl, sym, ap}
use Rattle.std.proofs.Common.{subst, ◌∙◌, arith}
use Rattle.std.proofs.lemmas.List.{append-nil, take-append-drop}
use Rattle.pmb_bus.specs.declared.event.Event.{Event}
use Rattle.pmb_bus.specs.declared.lexer.LexFault.{LexFault}
use Rattle.pmb_bus.specs.declared.lexer.Lexer.{Lexer}
use Rattle.pmb_bus.specs.declared.lexer.Step.{Step}
use Rattle.pmb_bus.specs.declared.lexer.Step.TheVariants as answers
use Rattle.pmb_bus.specs.Lexer.{EndsWord, Feeds, LexerStandsAt, NeedsMore, Refuses}
use Rattle.pmb_bus.specs.Text.{AreTokens, BeginsText, ended_words}
use Rattle.pmb_firmware.specs.declared.lexer.PmbLexer.{PmbLexer}
use Rattle.pmb_firmware.specs.machine.Standing.{IsBehind, IsOpen, IsTail, Resumes, ResumesBehind, StandsAt}
use Rattle.pmb_firmware.specs.machine.Standing.{StandsAtTail, between, comment, one, two, word, hash}
use Rattle.pmb_firmware.proofs.Ends.{open_none}
use Rattle.pmb_firmware.proofs.Runs.{ended_append}
use Rattle.pmb_firmware.proofs.Spelled.{front_begins, tail_begins}

-- ---- bytes given to a new lexer

pub all_needed : (lexer : Lexer) (bytes : List ℕ) (used : ℕ) → NeedsMore 0 [] [] bytes used lexer
    → LexerStandsAt lexer (length bytes) bytes []
all_needed lexer bytes used needs =
    let count : 0 + used ≡ length bytes = omega (arith, needs.all) in
    subst (λ (n : ℕ). LexerStandsAt lexer n bytes []) count needs.stands

-- words that have ended stay
no_ended_word : (first : List (List ℕ)) (more : List (List ℕ)) (event : Event) → AreTokens first (event ∷ [])
    → first ++ more ≡ [] → ⊥
no_ended_word [] more event tokens none = cc tokens
no_ended_word (run ∷ first) more event tokens none = cc none

pub no_event : (lexer : Lexer) (bytes : List ℕ) (used : ℕ) (event : Event) → EndsWord 0 [] [] bytes used lexer event
    → BeginsText bytes → ended_words bytes ≡ [] → ⊥
no_event lexer bytes used event ends begins none =
    let whole : take used bytes ++ drop used bytes ≡ bytes = take-append-drop used bytes in
    let split = ended_append (take used bytes) (drop used bytes) in
    no_ended_word (ended_words (take used bytes)) _ event ends.stands.ended (sym split ∙ ap ended_words whole ∙ none)

pub no_fault : (lexer : Lexer) (bytes : List ℕ) (used : ℕ) (fault : LexFault) → Refuses 0 [] [] bytes used lexer fault
    → BeginsText bytes → ended_words bytes ≡ [] → ⊥
no_fault lexer bytes used fault refuses begins none =
    let whole : take (used + 1) bytes ++ drop (used + 1) bytes ≡ bytes = take-append-drop (used + 1) bytes in
    refuses.stops (front_begins (take (used + 1) bytes) (drop (used + 1) bytes) (subst BeginsText (sym whole) begins))

-- what is not all needed is told, and no text begins so
pub not_needed : (lexer : Lexer) (bytes : List ℕ) (used : ℕ) (step : Step) → Feeds 0 [] [] bytes used step lexer
    → (step ≡ answers.Need → ⊥)
    → BeginsText bytes → ended_words bytes ≡ [] → ⊥
not_needed lexer bytes used answers.Need fed other begins none = other refl
not_needed lexer bytes used (answers.Event event) fed other begins none =
    no_event lexer bytes used event fed begins none
not_needed lexer bytes used (answers.Fault fault) fed other begins none =
    no_fault lexer bytes used fault fed begins none

-- ---- a lexer that stands at a text

module _ (lexer : PmbLexer) (n : ℕ) (text : List ℕ) (events : List Event) (stands : StandsAt lexer n text events) where
  resumes_at : (tail : List ℕ) → IsTail text tail → IsBehind text tail → (found : Option Lexer)
      → ResumesBehind tail found → Resumes lexer text found
  resumes_at tail is from (Some found) resumes =
      record { tail = tail; is_tail = is; is_behind = from; stands = resumes }
  resumes_at tail is from None resumes =
      let begins : BeginsText (tail ++ []) =
      tail_begins text tail is events stands.ended [] (subst BeginsText (sym (append-nil text)) stands.begins) in
      resumes (subst BeginsText (append-nil tail) begins) is.none_ended

  resumes_word : (bytes : List ℕ) → IsOpen text bytes → (found : Option Lexer) → ResumesBehind bytes found
      → Resumes lexer text found
  resumes_word bytes begun found resumes =
      resumes_at bytes (record {
        word = begun.opened ∙ sym begun.alone;
        comment = begun.outside
            ∙ sym begun.clear;
        none_ended = begun.none_ended;
      })
      (word begun.front begun.split begun.between) found resumes

  pub resumes_between : lexer.place ≡ 0 → (found : Lexer) → LexerStandsAt found 0 [] [] → StandsAtTail text found
  resumes_between is found resumes =
      let open_word_none : IsOpen text [] =
      elim stands.place [
        | between place ends ↦ open_none text ends
        | comment place none inside some ↦ absurd (omega (arith, is, place))
        | one place begun begins ↦ absurd (omega (arith, is, place))
        | two place begun begins ↦ absurd (omega (arith, is, place))
      ] in
      resumes_word [] open_word_none (Some found) resumes

  -- a comment's `#` was used
  pub comment_used : lexer.place ≡ 1 → 0 < lexer.used
  comment_used is =
      elim stands.place [
        | between place ends ↦ absurd (omega (arith, is, place))
        | comment place none inside some ↦ omega (arith, some, stands.counted)
        | one place begun begins ↦ absurd (omega (arith, is, place))
        | two place begun begins ↦ absurd (omega (arith, is, place))
      ]

  pub resumes_comment : lexer.place ≡ 1 → (found : Option Lexer) → ResumesBehind (35 ∷ []) found
      → Resumes lexer text found
  resumes_comment is found resumes =
      let is_tail : IsTail text (35 ∷ []) =
      elim stands.place [
        | between place ends ↦ absurd (omega (arith, is, place))
        | comment place none inside some ↦ record { word = none; comment = inside; none_ended = refl }
        | one place begun begins ↦ absurd (omega (arith, is, place))
        | two place begun begins ↦ absurd (omega (arith, is, place))
      ] in
      resumes_at (35 ∷ []) is_tail (hash refl) found resumes

  pub resumes_one : lexer.place ≡ 2 → (found : Option Lexer) → ResumesBehind (lexer.first ∷ []) found
      → Resumes lexer text found
  resumes_one is found resumes =
      let begun_word : IsOpen text (lexer.first ∷ []) =
      elim stands.place [
        | between place ends ↦ absurd (omega (arith, is, place))
        | comment place none inside some ↦ absurd (omega (arith, is, place))
        | one place begun begins ↦ begun
        | two place begun begins ↦ absurd (omega (arith, is, place))
      ] in
      resumes_word (lexer.first ∷ []) begun_word found resumes

  pub resumes_two : lexer.place ≡ 3 → (found : Option Lexer) → ResumesBehind (lexer.first ∷ lexer.second ∷ []) found
      → Resumes lexer text found
  resumes_two is found resumes =
      let begun_word : IsOpen text (lexer.first ∷ lexer.second ∷ []) =
      elim stands.place [
        | between place ends ↦ absurd (omega (arith, is, place))
        | comment place none inside some ↦ absurd (omega (arith, is, place))
        | one place begun begins ↦ absurd (omega (arith, is, place))
        | two place begun begins ↦ begun
      ] in
      resumes_word (lexer.first ∷ lexer.second ∷ []) begun_word found resumes
