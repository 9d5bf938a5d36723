-- Which words are tokens, and rows of words that are. For the laws on texts and all steps of the
-- lexer. A token is a letter, which starts no other one, or two hexadecimal digits; a row of words
-- spells one row of events, none if one of its words is no token.
use Rattle.std.proofs.Common.{◌≡◌, ℕ, ◌+◌, ◌*◌, Bool, true, false, ◌||◌, ◌⊎◌, inl, inr, Option, Some, None, is_some}
use Rattle.std.proofs.Common.{List, [], ◌∷◌, ◌++◌, map, refl, sym, ap, ◌∙◌, arith}
use Rattle.std.proofs.lemmas.List.{map-append}
use Rattle.std.proofs.lemmas.Bool.{or_cases, or_parts}
use Rattle.hex.specs.Hex.{hex_digit_value, is_hex_digit}
use Rattle.pmb_bus.specs.declared.event.Event.{Event}
use Rattle.pmb_bus.specs.declared.event.Event.TheVariants.{Byte}
use Rattle.pmb_bus.specs.Event.{letter_event, byte_event, event_of}
use Rattle.pmb_bus.specs.Text.{is_word, AreTokens}
use Rattle.pmb_bus.specs.machine.Bytes.{ends_word, starts_token}
use Rattle.pmb_bus.specs.machine.Steps.{BeginsToken}

-- ---- rows of tokens

-- the tokens of two rows of events
pub AreTokens-append : (front back : List (List ℕ)) (events more : List Event) → AreTokens front events
    → AreTokens back more
    → AreTokens (front ++ back) (events ++ more)
AreTokens-append front back events more first second =
    map-append event_of front back ∙ cc (first, second) ∙ sym (map-append Some events more)

-- a row with a word that is no token spells no events
pub no_tokens : (front : List (List ℕ)) (word : List ℕ) (back : List (List ℕ)) (events : List Event)
    → event_of word ≡ None
    → AreTokens (front ++ word ∷ back) events → ⊥
no_tokens [] word back [] none same = cc same
no_tokens [] word back (event ∷ events) none same = cc (none, same)
no_tokens (first ∷ front) word back [] none same = cc same
no_tokens (first ∷ front) word back (event ∷ events) none same = no_tokens front word back events none (cc same)

-- rows are told by their rows of `Some`
same_under_Some : (a b : List Event) → map Some a ≡ map Some b → a ≡ b
same_under_Some [] [] same = refl
same_under_Some [] (y ∷ b) same = cc same
same_under_Some (x ∷ a) [] same = cc same
same_under_Some (x ∷ a) (y ∷ b) same =
    let heads : x ≡ y = cc same in
    let tails : a ≡ b = same_under_Some a b (cc same) in
    cc (heads, tails)

-- a row of words spells one row of events
pub one_row : (ws : List (List ℕ)) (a b : List Event) → AreTokens ws a → AreTokens ws b → a ≡ b
one_row ws a b first second = same_under_Some a b (sym first ∙ second)

-- ---- words

-- an answer is none or some
pub cases_Option : (o : Option Event) → (o ≡ None) ⊎ ((event : Event) × (o ≡ Some event))
cases_Option None = inl refl
cases_Option (Some event) = inr (event, refl)

-- a word is empty or is one
pub cases_word : (word : List ℕ) → (word ≡ []) ⊎ (is_word word ≡ true)
cases_word [] = inl refl
cases_word (b ∷ rest) = inr refl

-- with a byte after it a word is one
pub is_word-append : (word : List ℕ) (b : ℕ) (rest : List ℕ) → is_word (word ++ b ∷ rest) ≡ true
is_word-append [] b rest = refl
is_word-append (a ∷ word) b rest = refl

-- a word that is a token is one
pub is_word-token : (word : List ℕ) (event : Event) → event_of word ≡ Some event → is_word word ≡ true
is_word-token [] event token = cc token
is_word-token (b ∷ rest) event token = refl

-- an answer that is not some is none
not_some : {A : Type 0} (o : Option A) → is_some o ≡ false → o ≡ None
not_some None none = refl
not_some (Some x) none = cc none

-- an answer that is some has a value
has_value : {A : Type 0} (o : Option A) → is_some o ≡ true → (x : A) × (o ≡ Some x)
has_value None some = cc some
has_value (Some x) some = (x, refl)

-- a byte that starts no token
pub no_start : (b : ℕ) → starts_token b ≡ false → (more : List ℕ) → event_of (b ∷ more) ≡ None
no_start b none [] = not_some (letter_event b) (or_parts (is_some (letter_event b)) (is_hex_digit b) none).0
no_start b none (c ∷ []) =
    let digit = not_some (hex_digit_value b) (or_parts (is_some (letter_event b)) (is_hex_digit b) none).1 in
    ap (λ (o : Option ℕ). byte_event o (hex_digit_value c)) digit
no_start b none (c ∷ d ∷ more) = refl

-- a byte that starts one
pub start : (b : ℕ) → starts_token b ≡ true → BeginsToken (b ∷ [])
start b starts =
    elim (or_cases (is_some (letter_event b)) (is_hex_digit b) starts) [
      | inl letter ↦
          let event = has_value (letter_event b) letter in
          (event.0, inl event.1)
      | inr digit ↦
          let value = has_value (hex_digit_value b) digit in
          (Byte (value.0 * 16 + 0), inr (ap (λ (o : Option ℕ). byte_event o (Some 0)) value.1))
    ]

-- ---- the bytes of a token

-- a letter that is a token ends no word
pub letter_goes_on : (b : ℕ) (event : Event) → letter_event b ≡ Some event → ends_word b ≡ false
letter_goes_on b event letter = grind (arith)

-- a digit ends no word
pub digit_goes_on : (b v : ℕ) → hex_digit_value b ≡ Some v → ends_word b ≡ false
digit_goes_on b v digit = grind (arith)

-- a letter that is a token starts one
pub letter_starts : (b : ℕ) (event : Event) → letter_event b ≡ Some event → starts_token b ≡ true
letter_starts b event letter = ap (λ (o : Option Event). is_some o || is_hex_digit b) letter

-- a digit starts a token
pub digit_starts : (b v : ℕ) → hex_digit_value b ≡ Some v → starts_token b ≡ true
digit_starts b v digit =
    elim (is_some (letter_event b)) as (λ (v : Bool). (v || is_hex_digit b) ≡ true)
    [ true ↦ refl | false ↦ ap (is_some {T = ℕ}) digit ]

-- the two digits of a token
pub record AreDigits (high low : Option ℕ) (event : Event) : Type 0 where
  pub first : ℕ
  pub second : ℕ
  pub high_is : high ≡ Some first
  pub low_is : low ≡ Some second
  pub event_is : event ≡ Byte (first * 16 + second)

-- the digits that a byte's event is of
pub digits_of : (high low : Option ℕ) (event : Event) → byte_event high low ≡ Some event → AreDigits high low event
digits_of (Some h) (Some l) event token =
    record { first = h; second = l; high_is = refl; low_is = refl; event_is = cc token }
digits_of (Some h) None event token = cc token
digits_of None low event token = cc token
