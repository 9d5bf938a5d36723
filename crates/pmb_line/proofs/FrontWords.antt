-- Words at the front of a text that stand as in most lines: a byte after a space, `write ` and
-- `read `, ` : `. For `common_byte` and `common_keyword` of `src/front_word.rt`, which look at
-- these bytes alone. Such a word is the first of the text's words, since no byte of it ends a word,
-- and a space or the end comes after it.
use Rattle.std.proofs.Common.{◌≡◌, ℕ, ◌≤◌, ◌+◌, false, Option, Some, None, IfSome, List, [], ◌∷◌, ◌++◌, length}
use Rattle.std.proofs.Common.{length-append, map, drop, refl, sym, ap, subst, ◌∙◌, arith}
use Rattle.std.specs.Prelude.{slice_index}
use Rattle.std.proofs.Math.Seq.{drop-append_seam}
use Rattle.std.proofs.lemmas.Bool.Decides.{nat_tests}
use Rattle.hex.specs.Hex.{hex_digit_value}
use Rattle.pmb_line.specs.Token.{byte_of, byte_of_digits, keyword_of, or_keyword, token_of}
use Rattle.pmb_line.specs.Words.{words_from}
use Rattle.pmb_line.specs.declared.token.Token.{Token}
use Rattle.pmb_line.specs.declared.token.Token.TheVariants.{Byte, Write, Read, Colon}
use Rattle.pmb_line.specs.machine.Front.{EndsWord, IsFront, common_byte}
use Rattle.pmb_line.specs.machine.Reading.{SpellsByte, ends_line_word, located}
use Rattle.pmb_line.proofs.WordLemmas.{AllGo, pass_blank, word_then}

-- a word at the front
front : (at : ℕ) (b : ℕ) (w rest : List ℕ) (token : Token) → AllGo (b ∷ w) → EndsWord rest
    → token_of (b ∷ w) ≡ Some token
    → map located (words_from at (b ∷ w ++ rest)) ≡ record { at = at; token = Some token }
    ∷ map located (words_from (at + length (b ∷ w)) rest)
front at b w rest token go ends says =
    ap (map located) (word_then at b w rest go ends)
    ∙ ap (λ (t : Option Token). record { at = at; token = t } ∷ map located (words_from (at + length (b ∷ w)) rest))
    says

-- and one after a space
-- (32 is a space)
behind_space : (at : ℕ) (b : ℕ) (w rest : List ℕ) (token : Token) → AllGo (b ∷ w) → EndsWord rest
    → token_of (b ∷ w) ≡ Some token
    → map located (words_from at (32 ∷ b ∷ w ++ rest)) ≡ record { at = at + 1; token = Some token }
    ∷ map located (words_from (at + 1 + length (b ∷ w)) rest)
behind_space at b w rest token go ends says = ap (map located) (pass_blank at 32 (b ∷ w ++ rest) refl)
    ∙ front (at + 1) b w rest token go ends says

-- digits are bytes of a word
digit_goes : (b v : ℕ) → hex_digit_value b ≡ Some v → ends_line_word b ≡ false
digit_goes b v digit = grind (arith, nat_tests, digit)

both_digits : (high low : Option ℕ) (b : ℕ) → byte_of_digits high low ≡ Some (Byte b)
    → (x : ℕ) × (y : ℕ) × (high ≡ Some x) × (low ≡ Some y)
both_digits (Some x) (Some y) b is = (x, y, refl, refl)
both_digits (Some x) None b is = absurd (cc is)
both_digits None low b is = absurd (cc is)

-- a byte between spaces
byte_in_front : (text behind : List ℕ) (b : ℕ) → 3 ≤ length text → slice_index text 0 ≡ 32
    → byte_of (slice_index text 1 ∷ slice_index text 2 ∷ []) ≡ Some (Byte b)
    → behind ≡ drop 3 text → EndsWord behind → IsFront text (record { start = 1; end = 3; token = Byte b })
byte_in_front [] behind b long is_space is same ends = absurd (omega (arith, long))
byte_in_front (space ∷ []) behind b long is_space is same ends = absurd (omega (arith, long))
byte_in_front (space ∷ high ∷ []) behind b long is_space is same ends = absurd (omega (arith, long))
byte_in_front (space ∷ high ∷ low ∷ rest) behind b long is_space is same ends =
    let digits = both_digits (hex_digit_value high) (hex_digit_value low) b is in record {
      ordered = omega arith;
      within = long;
      first = λ at.
          ap (λ s. map located (words_from at (s ∷ high ∷ low ∷ rest))) is_space
          ∙ (behind_space at high (low ∷ []) rest (Byte b)
          (digit_goes high digits.0 digits.2, (digit_goes low digits.1 digits.3, tt)) (subst EndsWord same ends)
          (ap (λ (token : Option Token). or_keyword token (keyword_of (high ∷ low ∷ []))) is)
          ∙ ap (λ n. record { at = at + 1; token = Some (Byte b) } ∷ map located (words_from n rest)) (omega arith));
    }

-- what two bytes after a space spell
pub byte_or_none : (text behind : List ℕ) (spelled : Option ℕ) → 3 ≤ length text → slice_index text 0 ≡ 32
    → SpellsByte (slice_index text 1 ∷ slice_index text 2 ∷ []) spelled
    → behind ≡ drop 3 text → EndsWord behind → IfSome spelled (λ b. IsFront text (common_byte b))
byte_or_none text behind None long is_space spells same ends = tt
byte_or_none text behind (Some b) long is_space spells same ends =
    byte_in_front text behind b long is_space spells same ends

-- a keyword at the front, with a space after it
at_front : (text rest : List ℕ) (b : ℕ) (w : List ℕ) (token : Token) (end : ℕ) → text ≡ b ∷ w ++ 32 ∷ rest
    → AllGo (b ∷ w) → token_of (b ∷ w) ≡ Some token → end ≡ length (b ∷ w)
    → IsFront text (record { start = 0; end = end; token = token })
at_front text rest b w token end is go says long = record {
  ordered = omega arith;
  within = omega (arith, ap length is, length-append (b ∷ w) (32 ∷ rest), long);
  first = λ at.
      ap (λ t. map located (words_from at t)) is
      ∙ (front at b w (32 ∷ rest) token go (λ some. refl) says
      ∙ (ap (λ n. record { at = at; token = Some token } ∷ map located (words_from (at + n) (32 ∷ rest))) (sym long)
      ∙ (ap (λ n. record { at = n; token = Some token } ∷ map located (words_from (at + end) (32 ∷ rest))) (omega arith)
      ∙ ap (λ (t : List ℕ). record { at = at + 0; token = Some token } ∷ map located (words_from (at + end) t))
      (sym (ap (drop end) is ∙ (ap (λ n. drop n (b ∷ w ++ 32 ∷ rest)) long
      ∙ drop-append_seam (b ∷ w) (32 ∷ rest)))))));
}

-- the codes of `write` and of the space after it
pub write_in_front : (text : List ℕ) → 6 ≤ length text → slice_index text 0 ≡ 119 → slice_index text 1 ≡ 114
    → slice_index text 2 ≡ 105 → slice_index text 3 ≡ 116 → slice_index text 4 ≡ 101
    → slice_index text 5 ≡ 32 → IsFront text (record { start = 0; end = 5; token = Write })
write_in_front (a ∷ b ∷ c ∷ d ∷ e ∷ f ∷ rest) long is0 is1 is2 is3 is4 is5 =
    at_front (a ∷ b ∷ c ∷ d ∷ e ∷ f ∷ rest) rest 119 (114 ∷ 105 ∷ 116 ∷ 101 ∷ []) Write 5
    (cc (is0, is1, is2, is3, is4, is5)) (refl, (refl, (refl, (refl, (refl, tt))))) refl refl
write_in_front [] long is0 is1 is2 is3 is4 is5 = absurd (omega (arith, long))
write_in_front (a ∷ []) long is0 is1 is2 is3 is4 is5 = absurd (omega (arith, long))
write_in_front (a ∷ b ∷ []) long is0 is1 is2 is3 is4 is5 = absurd (omega (arith, long))
write_in_front (a ∷ b ∷ c ∷ []) long is0 is1 is2 is3 is4 is5 = absurd (omega (arith, long))
write_in_front (a ∷ b ∷ c ∷ d ∷ []) long is0 is1 is2 is3 is4 is5 = absurd (omega (arith, long))
write_in_front (a ∷ b ∷ c ∷ d ∷ e ∷ []) long is0 is1 is2 is3 is4 is5 = absurd (omega (arith, long))

-- the codes of `read` and of the space after it
pub read_in_front : (text : List ℕ) → 5 ≤ length text → slice_index text 0 ≡ 114 → slice_index text 1 ≡ 101
    → slice_index text 2 ≡ 97 → slice_index text 3 ≡ 100 → slice_index text 4 ≡ 32
    → IsFront text (record { start = 0; end = 4; token = Read })
read_in_front (a ∷ b ∷ c ∷ d ∷ e ∷ rest) long is0 is1 is2 is3 is4 =
    at_front (a ∷ b ∷ c ∷ d ∷ e ∷ rest) rest 114 (101 ∷ 97 ∷ 100 ∷ []) Read 4 (cc (is0, is1, is2, is3, is4))
    (refl, (refl, (refl, (refl, tt)))) refl refl
read_in_front [] long is0 is1 is2 is3 is4 = absurd (omega (arith, long))
read_in_front (a ∷ []) long is0 is1 is2 is3 is4 = absurd (omega (arith, long))
read_in_front (a ∷ b ∷ []) long is0 is1 is2 is3 is4 = absurd (omega (arith, long))
read_in_front (a ∷ b ∷ c ∷ []) long is0 is1 is2 is3 is4 = absurd (omega (arith, long))
read_in_front (a ∷ b ∷ c ∷ d ∷ []) long is0 is1 is2 is3 is4 = absurd (omega (arith, long))

-- the codes of a space, `:` and a space
pub colon_in_front : (text : List ℕ) → 3 ≤ length text → slice_index text 0 ≡ 32 → slice_index text 1 ≡ 58
    → slice_index text 2 ≡ 32 → IsFront text (record { start = 1; end = 2; token = Colon })
colon_in_front (a ∷ b ∷ c ∷ rest) long is0 is1 is2 =
    let is : (a ∷ b ∷ c ∷ rest) ≡ 32 ∷ 58 ∷ 32 ∷ rest = cc (is0, is1, is2) in record {
      ordered = omega arith;
      within = omega (arith, long);
      first = λ at.
          ap (λ t. map located (words_from at t)) is
          ∙ (behind_space at 58 [] (32 ∷ rest) Colon (refl, tt) (λ some. refl) refl
          ∙ (ap (λ n. record { at = at + 1; token = Some Colon } ∷ map located (words_from n (32 ∷ rest))) (omega arith)
          ∙ ap (λ b. record { at = at + 1; token = Some Colon } ∷ map located (words_from (at + 2) (b ∷ rest)))
          (sym is2)));
    }
colon_in_front [] long is0 is1 is2 = absurd (omega (arith, long))
colon_in_front (a ∷ []) long is0 is1 is2 = absurd (omega (arith, long))
colon_in_front (a ∷ b ∷ []) long is0 is1 is2 = absurd (omega (arith, long))
