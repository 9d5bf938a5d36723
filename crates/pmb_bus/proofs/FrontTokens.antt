-- A token at the front of a piece of text, and its separator, taken at once. For `front_token`,
-- `front_acked`, `Lexer::feed_acked` and `Lexer::feed`. Taking a token at once comes to its two or
-- three steps, byte by byte; a byte with its ACK comes to five.
use Rattle.std.proofs.Common.{◌≡◌, ◌↔◌, ℕ, ◌+◌, ◌-◌, ◌*◌, ◌≤◌, inl, inr, true, false, Option, Some, None, is_some}
use Rattle.std.proofs.Common.{IsSome, IfSome, List, [], ◌∷◌, ◌++◌, length, take, drop, get_or, refl, sym, ap, subst}
use Rattle.std.proofs.Common.{◌∙◌, arith}
use Rattle.std.proofs.lemmas.List.{append_assoc, take_at, length-append}
use Rattle.std.proofs.lemmas.Bool.{cases_eq, ne_eqb}
use Rattle.hex.specs.Hex.{hex_digit_value, is_hex_digit}
use Rattle.pmb_bus.specs.declared.event.Event.{Event}
use Rattle.pmb_bus.specs.declared.event.Event.TheVariants.{Byte, Ack}
use Rattle.pmb_bus.specs.declared.lexer.LexerState.{LexerState}
use Rattle.pmb_bus.specs.declared.lexer.LexerState.TheVariants as places
use Rattle.pmb_bus.specs.declared.lexer.Lexer.{Lexer}
use Rattle.pmb_bus.specs.Count.{capped}
use Rattle.pmb_bus.specs.Event.{letter_event, byte_event, event_of}
use Rattle.pmb_bus.specs.Text.{is_separator, ends_in_comment, open_word, EndsBetween, EndedWordsSpell}
use Rattle.pmb_bus.specs.Lexer.{EndsWord, BeginsAcked, FeedsAcked}
use Rattle.pmb_bus.specs.machine.Bytes.{ends_word, starts_token, option_event, BeginsWithToken}
use Rattle.pmb_bus.specs.machine.Standing.{IsPlace, LexerStandsAt}
use Rattle.pmb_bus.specs.machine.Steps.{place_behind_word}
use Rattle.pmb_bus.proofs.Tokens.{letter_goes_on, digit_goes_on, letter_starts, digit_starts, digits_of}
use Rattle.pmb_bus.proofs.Spelling.{one_word}
use Rattle.pmb_bus.proofs.Stands.{advanced, stands_end, stands_longer}
use Rattle.pmb_bus.proofs.Lengthens.{lengthens_first, lengthens_digit}

-- two digits and a separator
pub front_digits : (text : List ℕ) (byte : ℕ) → 3 ≤ length text
    → byte_event (hex_digit_value (get_or text 0 0)) (hex_digit_value (get_or text 1 0)) ≡ Some (Byte byte)
    → is_separator (get_or text 2 0) ≡ true → BeginsWithToken text (Byte byte) 3
front_digits [] byte long token separates = absurd (omega arith)
front_digits (a ∷ []) byte long token separates = absurd (omega arith)
front_digits (a ∷ b ∷ []) byte long token separates = absurd (omega arith)
front_digits (a ∷ b ∷ c ∷ rest) byte long token separates = record {
  word = a ∷ b ∷ [];
  separator = c;
  rest = rest;
  split = refl;
  token = token;
  separates = separates;
  counted = refl;
}

-- the same, and ACK and a separator after it
pub front_digits_acked : (text : List ℕ) (byte : ℕ) → 5 ≤ length text
    → byte_event (hex_digit_value (get_or text 0 0)) (hex_digit_value (get_or text 1 0)) ≡ Some (Byte byte)
    -- 65 is the letter A, 32 a space
    → is_separator (get_or text 2 0) ≡ true → get_or text 3 0 ≡ 65 → is_separator (get_or text 4 0) ≡ true
    → BeginsWithToken text (Byte byte) 3 × BeginsWithToken (drop 3 text) Ack 2
front_digits_acked [] byte long token separates letter separates_again = absurd (omega arith)
front_digits_acked (a ∷ []) byte long token separates letter separates_again = absurd (omega arith)
front_digits_acked (a ∷ b ∷ []) byte long token separates letter separates_again = absurd (omega arith)
front_digits_acked (a ∷ b ∷ c ∷ []) byte long token separates letter separates_again = absurd (omega arith)
front_digits_acked (a ∷ b ∷ c ∷ d ∷ []) byte long token separates letter separates_again = absurd (omega arith)
front_digits_acked (a ∷ b ∷ c ∷ d ∷ e ∷ rest) byte long token separates letter separates_again =
    let ack : BeginsWithToken (d ∷ e ∷ rest) Ack 2 = record {
      word = d ∷ [];
      separator = e;
      rest = rest;
      split = refl;
      token = ap letter_event letter;
      separates = separates_again;
      counted = refl;
    } in
    (front_digits (a ∷ b ∷ c ∷ d ∷ e ∷ rest) byte (omega arith) token separates, ack)

-- and what is found of the digits
pub front_acked_found : (text : List ℕ) (found : Option ℕ) → 5 ≤ length text
    → option_event found ≡ byte_event (hex_digit_value (get_or text 0 0)) (hex_digit_value (get_or text 1 0))
    → is_separator (get_or text 2 0) ≡ true → get_or text 3 0 ≡ 65 → is_separator (get_or text 4 0) ≡ true
    → IfSome found (λ byte. BeginsWithToken text (Byte byte) 3 × BeginsWithToken (drop 3 text) Ack 2)
front_acked_found text None long token separates letter separates_again = tt
front_acked_found text (Some byte) long token separates letter separates_again =
    front_digits_acked text byte long (sym token) separates letter separates_again

-- the byte of two digits is there
two_digits : (high low : Option ℕ) → is_some high ≡ true → is_some low ≡ true → None ≡ byte_event high low → ⊥
two_digits (Some high) (Some low) first second none = cc none
two_digits (Some high) None first second none = cc second
two_digits None low first second none = cc first

-- what is found of the digits is there exactly where the text begins so
pub front_acked_exactly : (text : List ℕ) (found : Option ℕ) → 5 ≤ length text
    → option_event found ≡ byte_event (hex_digit_value (get_or text 0 0)) (hex_digit_value (get_or text 1 0))
    → get_or text 2 0 ≡ 32 → get_or text 3 0 ≡ 65 → get_or text 4 0 ≡ 32 → IsSome found ↔ BeginsAcked text
-- five bytes are needed
front_acked_exactly [] found long token space letter last = absurd (omega arith)
front_acked_exactly (a ∷ []) found long token space letter last = absurd (omega arith)
front_acked_exactly (a ∷ b ∷ []) found long token space letter last = absurd (omega arith)
front_acked_exactly (a ∷ b ∷ c ∷ []) found long token space letter last = absurd (omega arith)
front_acked_exactly (a ∷ b ∷ c ∷ d ∷ []) found long token space letter last = absurd (omega arith)
-- the digits are there, so the text begins so
front_acked_exactly (a ∷ b ∷ c ∷ d ∷ e ∷ rest) (Some byte) long token space letter last =
    let digits = digits_of (hex_digit_value a) (hex_digit_value b) (Byte byte) (sym token) in
    let begins : BeginsAcked (a ∷ b ∷ c ∷ d ∷ e ∷ rest) = record {
      high = a;
      low = b;
      rest = rest;
      split = cc (space, letter, last);
      high_digit = ap is_some digits.high_is;
      low_digit = ap is_some digits.low_is;
    } in
    ((λ some. begins), (λ begun. refl))
-- one of them is no digit, so it does not
front_acked_exactly (a ∷ b ∷ c ∷ d ∷ e ∷ rest) None long token space letter last = (
  (λ some. cc some),
  (
      λ begun.
      let high : a ≡ begun.high = ap (λ (text : List ℕ). get_or text 0 0) begun.split in
      let low : b ≡ begun.low = ap (λ (text : List ℕ). get_or text 1 0) begun.split in
      absurd
      (two_digits (hex_digit_value a) (hex_digit_value b) (ap is_hex_digit high ∙ begun.high_digit)
      (ap is_hex_digit low ∙ begun.low_digit) token)
      ),
)

-- after a separator is between words
separator_behind : (b : ℕ) → is_separator b ≡ true → place_behind_word b ≡ places.Between
separator_behind b separates =
    elim (cases_eq b 35) [
      | inl hash ↦ cc (sym (ap is_separator hash) ∙ separates)
      | inr other ↦ rw (ne_eqb b 35 other) refl
    ]

-- a separator ends a word
separator_ends : (b : ℕ) → is_separator b ≡ true → ends_word b ≡ true
separator_ends b separates = rw separates refl

-- a lexer stands after a word that is a token, and that no byte has ended
record BehindWord (now : Lexer) (n : ℕ) (text : List ℕ) (events : List Event) (word : List ℕ) (event : Event)
    (used : ℕ) : Type 0 where
  -- the lexer after the word,
  stands : LexerStandsAt now (n + length word) (text ++ word) events
  -- which is in no comment,
  outside : ends_in_comment (text ++ word) ≡ false
  -- is a token,
  token : event_of (open_word (text ++ word)) ≡ Some event
  -- and is counted
  counted : now.used ≡ capped (used + length word)

module _ (before : Lexer) (n : ℕ) (text : List ℕ) (events : List Event) (stands : LexerStandsAt before n text events)
    (between : before.place ≡ places.Between) where
  -- between words
  here : IsPlace places.Between n text
  here = subst (λ (place : LexerState). IsPlace place n text) between stands.place

  -- after the first byte of a token
  behind_first : (b : ℕ) → ends_word b ≡ false → starts_token b ≡ true
      → LexerStandsAt (advanced before (places.One before.used b)) (n + 1) (text ++ b ∷ []) events
  behind_first b goes_on starts =
      stands_longer before (advanced before (places.One before.used b)) n text b events
      (places.One before.used b) stands refl here.1 goes_on
      (lengthens_first n text b before.used stands.counted here.0 here.1 goes_on starts)

  -- after a letter that is a token
  behind_letter : (b : ℕ) (event : Event) → letter_event b ≡ Some event
      → BehindWord (advanced before (places.One before.used b)) n text events (b ∷ []) event before.used
  behind_letter b event letter =
      let first = behind_first b (letter_goes_on b event letter) (letter_starts b event letter) in record {
        stands = first;
        outside = first.place.1;
        token = ap event_of first.place.0 ∙ letter;
        counted = refl;
      }

  -- after the second digit of a token
  behind_second : (a b high low : ℕ) → hex_digit_value a ≡ Some high → hex_digit_value b ≡ Some low
      → LexerStandsAt (advanced (advanced before (places.One before.used a)) (places.Two before.used (high * 16 + low)))
      (n + 2) (text ++ a ∷ b ∷ []) events
  behind_second a b high low is_high is_low =
      -- the value of both digits, and the lexer after each
      let value = high * 16 + low in
      let byte : byte_event (hex_digit_value a) (hex_digit_value b) ≡ Some (Byte value) = cc (is_high, is_low) in
      let one = advanced before (places.One before.used a) in
      let two = advanced one (places.Two before.used value) in
      -- the first digit begins a token, the second makes it longer
      let first = behind_first a (digit_goes_on a high is_high) (digit_starts a high is_high) in
      let goes_on = digit_goes_on b low is_low in
      let second = stands_longer one two (n + 1) (text ++ a ∷ []) b events (places.Two before.used value) first refl
      first.place.1 goes_on
      (lengthens_digit (n + 1) (text ++ a ∷ []) b before.used a value first.place first.place.1 goes_on (sym byte)) in
      -- the two bytes in one piece of text, and counted together
      let whole : (text ++ a ∷ []) ++ b ∷ [] ≡ text ++ a ∷ b ∷ [] = append_assoc text (a ∷ []) (b ∷ []) in
      let count : (n + 1) + 1 ≡ n + 2 = omega arith in
      subst (λ (m : ℕ). LexerStandsAt two m (text ++ a ∷ b ∷ []) events) count
      (subst (λ (all : List ℕ). LexerStandsAt two ((n + 1) + 1) all events) whole second)

  -- after two digits
  behind_digits : (a b high low : ℕ) → hex_digit_value a ≡ Some high → hex_digit_value b ≡ Some low
      → BehindWord (advanced (advanced before (places.One before.used a)) (places.Two before.used (high * 16 + low))) n
      text events (a ∷ b ∷ []) (Byte (high * 16 + low)) before.used
  behind_digits a b high low is_high is_low =
      let second = behind_second a b high low is_high is_low in
      let word = second.place in record {
        stands = second;
        outside = word.4;
        token = ap event_of word.2 ∙ word.3;
        counted = omega arith;
      }

-- ---- a separator after it

-- the token and the separator are what was used
record TookToken (piece word : List ℕ) (separator used : ℕ) : Type 0 where
  word_is : take (used - 1) piece ≡ word
  all_is : take used piece ≡ word ++ separator ∷ []
  within : used ≤ length piece

-- of a piece that begins with a token
took_token : (piece word rest : List ℕ) (separator used : ℕ) → piece ≡ word ++ separator ∷ rest → used ≡ length word + 1
    → TookToken piece word separator used
took_token piece word rest separator used split counted =
    let whole : piece ≡ (word ++ separator ∷ []) ++ rest = split ∙ sym (append_assoc word (separator ∷ []) rest) in
    let long : length (word ++ separator ∷ []) ≡ length word + 1 = length-append word (separator ∷ []) in
    let fits : length piece ≡ length word + length (separator ∷ rest) = ap (length {A = ℕ}) split
    ∙ length-append word (separator ∷ rest) in record {
      word_is = ap (take (used - 1)) split ∙ take_at word (separator ∷ rest) (used - 1) (omega (arith, counted));
      all_is = ap (take used) whole ∙ take_at (word ++ separator ∷ []) rest used (omega (arith, long, counted));
      within = omega (arith, fits, counted);
    }

-- after the separator
ends_behind : (now after : Lexer) (n : ℕ) (text : List ℕ) (events : List Event) (word : List ℕ) (event : Event)
    (start : ℕ) (piece rest : List ℕ) (separator used : ℕ)
    → BehindWord now n text events word event start → is_separator separator ≡ true → piece ≡ word ++ separator ∷ rest
    → used ≡ length word + 1
    → after ≡ record { place = places.Between; used = capped (start + used) }
    → EndsWord n text events piece used after event
ends_behind now after n text events word event start piece rest separator used behind separates split counted is =
    -- the token and the separator in the piece
    let took = took_token piece word rest separator used split counted in
    let count : capped (start + used) ≡ capped (now.used + 1) = omega (arith, behind.counted, counted) in
    -- the count, and the place after the separator
    let lexer : after ≡ advanced now (place_behind_word separator) = is
    ∙ cc (count, separator_behind separator separates) in
    -- the word has ended there
    let stands : LexerStandsAt after ((n + length word) + 1) ((text ++ word) ++ separator ∷ []) (events ++ event ∷ []) =
    stands_end now after (n + length word) (text ++ word) separator events
    (event ∷ []) behind.stands lexer behind.outside
    (separator_ends separator separates) (one_word (text ++ word) event behind.token) in
    let all : (text ++ word) ++ separator ∷ [] ≡ text ++ take used piece =
    append_assoc text word (separator ∷ []) ∙ ap (λ (part : List ℕ). text ++ part) (sym took.all_is) in
    let total : (n + length word) + 1 ≡ n + used = omega (arith, counted) in record {
      some = omega (arith, counted);
      within = took.within;
      before = subst (λ (part : List ℕ). EndedWordsSpell (text ++ part) events) (sym took.word_is) behind.stands.ended;
      stands = subst (λ (m : ℕ). LexerStandsAt after m (text ++ take used piece) (events ++ event ∷ [])) total
          (subst (λ (t : List ℕ). LexerStandsAt after ((n + length word) + 1) t (events ++ event ∷ [])) all stands);
    }

-- A token and a separator at the front of a piece: two or three steps are this one.
pub front_token_ends : (before after : Lexer) (n : ℕ) (text : List ℕ) (events : List Event) (piece : List ℕ) (used : ℕ)
    (event : Event)
    → LexerStandsAt before n text events → before.place ≡ places.Between → BeginsWithToken piece event used
    → after ≡ record { place = places.Between; used = capped (before.used + used) }
    → EndsWord n text events piece used after event
front_token_ends before after n text events piece used event stands between begins is =
    by_word begins.word begins.split begins.token begins.counted
  where
    by_word : (word : List ℕ) → piece ≡ word ++ begins.separator ∷ begins.rest → event_of word ≡ Some event
        → used ≡ length word + 1
        → EndsWord n text events piece used after event
    -- a token has a byte at least
    by_word [] split token counted = cc token
    -- a letter
    by_word (b ∷ []) split token counted =
        ends_behind (advanced before (places.One before.used b)) after n text events
        (b ∷ []) event before.used piece begins.rest begins.separator used
        (behind_letter before n text events stands between b event token) begins.separates split counted is
    -- two digits
    by_word (a ∷ b ∷ []) split token counted =
        let digits = digits_of (hex_digit_value a) (hex_digit_value b) event token in
        let value = digits.first * 16 + digits.second in
        subst (λ (found : Event). EndsWord n text events piece used after found) (sym digits.event_is)
        (
        ends_behind (advanced (advanced before (places.One before.used a)) (places.Two before.used value)) after n text
        events (a ∷ b ∷ []) (Byte value) before.used
        piece begins.rest begins.separator used (behind_digits before n text events stands between a b digits.first
        digits.second digits.high_is digits.low_is)
        begins.separates split counted is
        )
    -- and two at most
    by_word (a ∷ b ∷ c ∷ more) split token counted = cc token

-- A lexer that stands at a text between words is between words,
pub between_there : (lexer : Lexer) (n : ℕ) (text : List ℕ) (events : List Event) → LexerStandsAt lexer n text events
    → EndsBetween text
    → lexer.place ≡ places.Between
between_there lexer n text events stands between = by_place lexer.place stands.place
  where
    by_place : (place : LexerState) → IsPlace place n text → place ≡ places.Between
    by_place places.Between is = refl
    by_place places.Comment is = cc (is.1, between.1)
    by_place (places.One at first) is = cc (is.0, between.0)
    by_place (places.Two at byte) is = cc (is.2, between.0)
    by_place (places.Faulted fault) is = absurd is

-- and stands at no other text then.
pub ends_between : (lexer : Lexer) (n : ℕ) (text : List ℕ) (events : List Event) → LexerStandsAt lexer n text events
    → lexer.place ≡ places.Between → EndsBetween text
ends_between lexer n text events stands between =
    subst (λ (place : LexerState). IsPlace place n text) between stands.place

-- A byte, ACK and a separator after each at the front of a piece: five steps are these two.
pub front_acked_feeds : (before after : Lexer) (n : ℕ) (text : List ℕ) (events : List Event) (piece : List ℕ) (byte : ℕ)
    → LexerStandsAt before n text events → before.place ≡ places.Between → BeginsWithToken piece (Byte byte) 3
    × BeginsWithToken (drop 3 piece) Ack 2
    → after ≡ record { place = places.Between; used = capped (before.used + 5) }
    → FeedsAcked n text events piece byte after
front_acked_feeds before after n text events piece byte stands between begins is =
    let middle : Lexer = record { place = places.Between; used = capped (before.used + 3) } in
    let first = front_token_ends before middle n text events piece 3 (Byte byte) stands between begins.0 refl in
    let count : capped (before.used + 5) ≡ capped (middle.used + 2) = omega arith in record {
      between = middle;
      ends_byte = first;
      ends_ack = front_token_ends middle after (n + 3) (text ++ take 3 piece) (events ++ Byte byte ∷ [])
          (drop 3 piece) 2 Ack first.stands refl begins.1
          (is ∙ ap (λ (k : ℕ). record { place = places.Between; used = k }) count);
    }
