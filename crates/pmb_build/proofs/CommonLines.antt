-- The bytes of a line that stands as most do: `write` or `read`, two digits a byte, one space
-- before each word. For `byte_of` and `QuickReader` of `src/common_lines.rt`, which look at single
-- bytes. The first bytes of a text are named one by one, and what follows them is the rest; 32 is a
-- space.
use Rattle.std.proofs.Common.{◌≡◌, ℕ, ◌+◌, ◌-◌, ◌*◌, ◌<◌, ◌≤◌, Bool, true, false, List, [], ◌∷◌, ◌++◌, codes, drop}
use Rattle.std.proofs.Common.{length, map, take, sym, ◌∙◌, ap, append-nil, append_assoc, arith, length-drop}
use Rattle.std.specs.Prelude.{◌/◌, ◌%◌, slice_index}
use Rattle.std.specs.List.{flat_map}
use Rattle.std.proofs.lemmas.Grind.{flat_map-append}
use Rattle.std.proofs.lemmas.List.{drop_more, map-append, take_all}
use Rattle.hex.specs.Hex.{encode_lower, encode_with}
use Rattle.pmb_command.specs.Wire.{AreByteValues}
use Rattle.pmb_transaction.specs.Transaction.{PartData, Read, Write}
use Rattle.pmb_line.specs.declared.token.Token.{Token}
use Rattle.pmb_line.specs.declared.token.Token.TheVariants.{Byte, Pec}
use Rattle.pmb_line.specs.Spelling.{bytes}
use Rattle.pmb_line.specs.Token.{token_text}
use Rattle.pmb_build.specs.machine.CommonLines.{IsData, IsLineOf, IsPart, after_spaces}

-- ---- the first bytes of a text

module _ (text : List ℕ) where
  step : (at : ℕ) → at < length text → drop at text ≡ slice_index text at ∷ drop (at + 1) text
  step at within = drop_more text at 0 within

  -- what follows them is the rest of the text
  pub rest_is : (count : ℕ) → take (length text - count) (drop count text) ≡ drop count text
  rest_is count = take_all (length text - count) (drop count text) (omega (arith, length-drop count text))

  pub first_three : 3 ≤ length text → text ≡ slice_index text 0 ∷ slice_index text 1 ∷ slice_index text 2 ∷ drop 3 text
  first_three long = cc (step 0 (omega (arith, long)), step 1 (omega (arith, long)), step 2 (omega (arith, long)))

  pub first_four : 4 ≤ length text → text ≡ slice_index text 0 ∷ slice_index text 1 ∷ slice_index text 2
      ∷ slice_index text 3 ∷ drop 4 text
  first_four long = cc (first_three (omega (arith, long)), step 3 (omega (arith, long)))

  pub first_five : 5 ≤ length text → text ≡ slice_index text 0 ∷ slice_index text 1 ∷ slice_index text 2
      ∷ slice_index text 3 ∷ slice_index text 4 ∷ drop 5 text
  first_five long = cc (first_four (omega (arith, long)), step 4 (omega (arith, long)))

  pub first_six : 6 ≤ length text
      → text ≡ slice_index text 0 ∷ slice_index text 1 ∷ slice_index text 2 ∷ slice_index text 3 ∷ slice_index text 4
      ∷ slice_index text 5 ∷ drop 6 text
  first_six long = cc (first_five (omega (arith, long)), step 5 (omega (arith, long)))

  pub first_twelve : 12 ≤ length text
      → text ≡ slice_index text 0 ∷ slice_index text 1 ∷ slice_index text 2 ∷ slice_index text 3 ∷ slice_index text 4
      ∷ slice_index text 5
      ∷ slice_index text 6 ∷ slice_index text 7 ∷ slice_index text 8 ∷ slice_index text 9 ∷ slice_index text 10
      ∷ slice_index text 11 ∷ drop 12 text
  first_twelve long =
      cc (
        first_six (omega (arith, long)),
        step 6 (omega (arith, long)),
        step 7 (omega (arith, long)),
        step 8 (omega (arith, long)),
        step 9 (omega (arith, long)),
        step 10 (omega (arith, long)),
        step 11 (omega (arith, long)),
      )

-- a byte from its two digits
pub of_digits : (high low sixteens ones : ℕ) → sixteens < 16 → ones < 16
    → high ≡ slice_index (codes "0123456789abcdef") sixteens → low ≡ slice_index (codes "0123456789abcdef") ones
    → high ∷ low ∷ [] ≡ encode_lower ((16 * sixteens + ones) ∷ [])
unfolding encode_with
of_digits high low sixteens ones small also high_is low_is =
    let first : (16 * sixteens + ones) / 16 ≡ sixteens = omega (arith, small, also) in
    let second : (16 * sixteens + ones) % 16 ≡ ones = omega (arith, small, also) in
    cc (high_is, low_is, first, second)

-- ---- words with a space before each

after_spaces-append : (a b : List Token) → after_spaces (a ++ b) ≡ after_spaces a ++ after_spaces b
after_spaces-append a b =
    ap (λ words. flat_map (λ word. codes " " ++ word) words) (map-append token_text a b)
    ∙ flat_map-append (λ word. codes " " ++ word) (map token_text a) (map token_text b)

-- one word more
after_spaces-one : (tokens : List Token) (token : Token) → after_spaces (tokens ++ token ∷ []) ≡ after_spaces tokens
    ++ (codes " " ++ token_text token)
after_spaces-one tokens token = after_spaces-append tokens (token ∷ []) ∙ ap (λ text. after_spaces tokens ++ text)
    (append-nil (codes " " ++ token_text token))

-- one byte more was read
pub byte_more : (text body rest others : List ℕ) (high low byte : ℕ) → text ≡ after_spaces (bytes body) ++ rest
    → rest ≡ 32 ∷ high ∷ low ∷ others
    → high ∷ low ∷ [] ≡ encode_lower (byte ∷ []) → text ≡ after_spaces (bytes (body ++ byte ∷ [])) ++ others
byte_more text body rest others high low byte so_far rest_is digits =
    so_far ∙ ap (λ r. after_spaces (bytes body) ++ r) (rest_is ∙ ap (λ ds. 32 ∷ ds ++ others) digits)
    ∙ sym (append_assoc (after_spaces (bytes body)) (32 ∷ encode_lower (byte ∷ [])) others)
    ∙ ap (λ t. t ++ others) (sym (ap after_spaces (map-append Byte body (byte ∷ []))
    ∙ after_spaces-one (bytes body) (Byte byte)))

-- the text ends here
pub data_ends : (text body rest : List ℕ) → AreByteValues body → text ≡ after_spaces (bytes body) ++ rest → rest ≡ []
    → IsData text body false
data_ends text body rest small so_far none = record {
  small = small;
  text_is = so_far ∙ ap (λ r. after_spaces (bytes body) ++ r) none ∙ append-nil (after_spaces (bytes body))
      ∙ ap after_spaces (sym (append-nil (bytes body)));
}

-- or with `pec`
pub data_ends_with_pec : (text body rest : List ℕ) → AreByteValues body → text ≡ after_spaces (bytes body) ++ rest
    → rest ≡ codes " pec" → IsData text body true
data_ends_with_pec text body rest small so_far pec = record {
  small = small;
  text_is = so_far ∙ ap (λ r. after_spaces (bytes body) ++ r) pec ∙ sym (after_spaces-one (bytes body) Pec);
}

-- ---- a part, and lines

pub part_is : (text rest body : List ℕ) (a1 a0 c1 c0 addr code : ℕ) (pec : Bool) → text ≡ 32 ∷ a1 ∷ a0 ∷ 32 ∷ c1 ∷ c0
    ∷ rest
    → (addr < 256) × (a1 ∷ a0 ∷ [] ≡ encode_lower (addr ∷ []))
    → (code < 256) × (c1 ∷ c0 ∷ [] ≡ encode_lower (code ∷ [])) → IsData rest body pec
    → IsPart text (record { addr = addr; code = code; bytes = body; pec = pec })
unfolding encode_with
part_is text rest body a1 a0 c1 c0 addr code pec is address command read = record {
  small = (address.0, command.0, read.small);
  text_is = is ∙ ap (λ ds. 32 ∷ ds ++ 32 ∷ c1 ∷ c0 ∷ rest) address.1
      ∙ ap (λ ds. (32 ∷ encode_lower (addr ∷ [])) ++ 32 ∷ ds ++ rest) command.1
      ∙ ap (λ r. (32 ∷ encode_lower (addr ∷ [])) ++ (32 ∷ encode_lower (code ∷ [])) ++ r) read.text_is;
}

pub write_is : (text rest : List ℕ) (p : PartData) → text ≡ codes "write" ++ rest → IsPart rest p
    → IsLineOf text (Write (p ∷ []))
write_is text rest p is read = record {
  has_line = λ none. cc none;
  small = (read.small, tt);
  text_is = is ∙ ap (λ r. codes "write" ++ r) read.text_is;
}

pub read_is : (text rest body : List ℕ) (a1 a0 c1 c0 addr code : ℕ) (pec : Bool) → text ≡ codes "read" ++ 32 ∷ a1 ∷ a0
    ∷ 32 ∷ c1 ∷ c0 ∷ 32 ∷ 58 ∷ rest
    → (addr < 256) × (a1 ∷ a0 ∷ [] ≡ encode_lower (addr ∷ []))
    → (code < 256) × (c1 ∷ c0 ∷ [] ≡ encode_lower (code ∷ [])) → IsData rest body pec
    → IsLineOf text (Read (record { addr = addr; code = code; reply = body; pec = pec }))
unfolding encode_with
read_is text rest body a1 a0 c1 c0 addr code pec is address command read = record {
  has_line = tt;
  small = (address.0, command.0, read.small);
  text_is = is ∙ ap (λ ds. codes "read" ++ 32 ∷ ds ++ 32 ∷ c1 ∷ c0 ∷ 32 ∷ 58 ∷ rest) address.1
      ∙ ap (λ ds. codes "read" ++ (32 ∷ encode_lower (addr ∷ [])) ++ 32 ∷ ds ++ 32 ∷ 58 ∷ rest) command.1
      ∙ ap (λ r. codes "read" ++ (32 ∷ encode_lower (addr ∷ [])) ++ (32 ∷ encode_lower (code ∷ [])) ++ 32 ∷ 58 ∷ r)
      read.text_is;
}
