-- What one more byte does to a word: it begins a token, is its second digit, or makes the word
-- one with which no token begins. For `LexerState::lengthened`, `Lexer::feed` and
-- `Lexer::feed_acked`.
use Rattle.std.proofs.Common.{◌≡◌, ℕ, Bool, true, false, ◌⊎◌, inl, inr, None, Some, Ok, Err, List, [], ◌∷◌, ◌++◌}
use Rattle.std.proofs.Common.{length, sym, ap, subst, ◌∙◌, arith}
use Rattle.pmb_bus.specs.declared.lexer.LexFault.TheVariants.{BadToken}
use Rattle.pmb_bus.specs.declared.lexer.LexerState.{LexerState}
use Rattle.pmb_bus.specs.declared.lexer.LexerState.TheVariants as places
use Rattle.pmb_bus.specs.declared.event.Event.TheVariants.{Byte}
use Rattle.hex.specs.Hex.{hex_digit_value}
use Rattle.pmb_bus.specs.Event.{event_of, byte_event}
use Rattle.pmb_bus.specs.Text.{in_comment, ends_in_comment, open_word}
use Rattle.pmb_bus.specs.machine.Bytes.{ends_word, starts_token}
use Rattle.pmb_bus.specs.Count.{capped}
use Rattle.pmb_bus.specs.machine.Standing.{IsPlace}
use Rattle.pmb_bus.specs.machine.Steps.{BeginsToken, Lengthens}
use Rattle.pmb_bus.proofs.Words.{longer_by, ends_in_comment_by, word_byte}
use Rattle.pmb_bus.proofs.Tokens.{start, no_start}

-- no word is under way between words and in a comment
pub opens_none : (place : LexerState) (n : ℕ) (text : List ℕ) → (place ≡ places.Between) ⊎ (place ≡ places.Comment)
    → IsPlace place n text
    → open_word text ≡ []
opens_none places.Between n text one is = is.0
opens_none places.Comment n text one is = is.0
opens_none (places.One at first) n text one is = elim one [ inl between ↦ cc between | inr comment ↦ cc comment ]
opens_none (places.Two at byte) n text one is = elim one [ inl between ↦ cc between | inr comment ↦ cc comment ]
opens_none (places.Faulted fault) n text one is = absurd is

-- what is after a byte of a word
record Behind (n : ℕ) (text : List ℕ) (b : ℕ) : Type 0 where
  opened : open_word (text ++ b ∷ []) ≡ open_word text ++ b ∷ []
  outside : ends_in_comment (text ++ b ∷ []) ≡ false

-- a byte that ends no word makes the word under way longer
behind : (n : ℕ) (text : List ℕ) (b : ℕ) → ends_in_comment text ≡ false → ends_word b ≡ false → Behind n text b
behind n text b outside goes_on =
    let byte = word_byte b goes_on in
    let out : in_comment (ends_in_comment text) b ≡ false = ap (λ (v : Bool). in_comment v b) outside ∙ byte.0 in
    record { opened = (longer_by text b out byte.1).opened; outside = ends_in_comment_by text b ∙ out }

-- a byte that starts a token
pub lengthens_first : (n : ℕ) (text : List ℕ) (b used : ℕ) → used ≡ capped n → open_word text ≡ []
    → ends_in_comment text ≡ false
    → ends_word b ≡ false → starts_token b ≡ true → Lengthens n text b (Ok (places.One used b))
lengthens_first n text b used counted none outside goes_on starts =
    let here = behind n text b outside goes_on in
    let opened : open_word (text ++ b ∷ []) ≡ b ∷ [] = here.opened ∙ ap (λ (word : List ℕ). word ++ b ∷ []) none in
    let long : length (open_word (text ++ b ∷ [])) ≡ 1 = ap (length {A = ℕ}) opened in (
      (opened, here.outside, (n, omega (arith, long), counted)),
      subst (λ (word : List ℕ). BeginsToken (word ++ b ∷ [])) (sym none) (start b starts),
    )

-- a byte that starts none
pub lengthens_no_first : (n : ℕ) (text : List ℕ) (b used : ℕ) → used ≡ capped n → open_word text ≡ []
    → starts_token b ≡ false
    → Lengthens n text b (Err (BadToken used))
lengthens_no_first n text b used counted none no_token =
    let long : length (open_word text) ≡ 0 = ap (length {A = ℕ}) none in (
      λ more. subst (λ (word : List ℕ). event_of (word ++ b ∷ more) ≡ None) (sym none) (no_start b no_token more),
      (n, omega (arith, long), counted),
    )

-- a second digit
pub lengthens_digit : (n : ℕ) (text : List ℕ) (b at first value : ℕ) → IsPlace (places.One at first) n text
    → ends_in_comment text ≡ false
    → ends_word b ≡ false → Some (Byte value) ≡ byte_event (hex_digit_value first) (hex_digit_value b)
    → Lengthens n text b (Ok (places.Two at value))
lengthens_digit n text b at first value is outside goes_on digits =
    let here = behind n text b outside goes_on in
    let opened : open_word (text ++ b ∷ []) ≡ first ∷ b ∷ [] = here.opened
    ∙ ap (λ (word : List ℕ). word ++ b ∷ []) is.0 in
    let long : length (open_word (text ++ b ∷ [])) ≡ 2 = ap (length {A = ℕ}) opened in
    let was : length (open_word text) ≡ 1 = ap (length {A = ℕ}) is.0 in (
      (first, b, opened, sym digits, here.outside, (is.2.0, omega (arith, long, was, is.2.1), is.2.2)),
      (
        Byte value,
        inl (subst (λ (word : List ℕ). event_of (word ++ b ∷ []) ≡ Some (Byte value)) (sym is.0)
            (sym digits)),
      ),
    )
