-- Which numbers are those of a lexer at some text: for `PmbLexer::resumed`, `after_hash`, `after_one` and
-- `after_two`. Between words all are, and in a comment those of a byte or more. In a word those are whose
-- bytes end no word, if as many bytes were used since it began. Such a text is one of spaces, and then of
-- nothing, a `#` or the word.
use Rattle.std.proofs.Common.{◌≡◌, ℕ, ◌+◌, ◌-◌, ◌<◌, ◌^◌, ◌==◌, ◌||◌, Bool, true, false, not, Option, Some}
use Rattle.std.proofs.Common.{None, List, [], ◌∷◌, ◌++◌, length, refl, sym, subst, ap, ◌∙◌, arith}
use Rattle.std.specs.Prelude.{IfSome}
use Rattle.std.proofs.lemmas.List.{length-append}
use Rattle.pmb_bus.specs.declared.lexer.Lexer.{Lexer}
use Rattle.pmb_bus.specs.Count.{capped}
use Rattle.pmb_bus.specs.Text.{AreTokens, BeginsText, EndedWordsSpell, WordBeginsAt, is_separator}
use Rattle.pmb_firmware.specs.declared.lexer.PmbLexer.{PmbLexer}
use Rattle.pmb_firmware.specs.Lexer.{StandsSomewhere}
use Rattle.pmb_firmware.specs.machine.Bytes.{is_of_word}
use Rattle.pmb_firmware.specs.machine.Standing.{IsOpen, IsPlace, IsTail, ResumesBehind, between, comment, one, two}
use Rattle.pmb_firmware.proofs.Ends.{open_longer, open_none}
use Rattle.pmb_firmware.proofs.Spaces.{spaces}
use Rattle.pmb_firmware.proofs.Spelled.{begins, spells_no_more}
use Rattle.pmb_firmware.proofs.Tails.{between_tail, tail_inside, tail_open}

-- ---- a byte of a word

-- it is no separator, and no `#`
pub record EndsNone (b : ℕ) : Type 0 where
  pub keeps : is_separator b ≡ false
  pub other : (b == 35) ≡ false

by_both : (separates hash : Bool) → not (separates || hash) ≡ true → (separates ≡ false) × (hash ≡ false)
by_both true hash is = cc is
by_both false true is = cc is
by_both false false is = (refl, refl)

pub ends_none : (b : ℕ) → is_of_word b ≡ true → EndsNone b
ends_none b is =
    let both = by_both (is_separator b) (b == 35) is in
    record { keeps = both.0; other = both.1 }

-- ---- one or two of them are a text in which they are the word under way

pub one_alone : (a : ℕ) → EndsNone a → IsOpen (a ∷ []) (a ∷ [])
one_alone a is = open_longer [] a refl [] is.keeps is.other (open_none [] (refl, refl))

pub two_alone : (a b : ℕ) → EndsNone a → EndsNone b → IsOpen (a ∷ b ∷ []) (a ∷ b ∷ [])
two_alone a b first second =
    let begun = one_alone a first in
    open_longer (a ∷ []) b begun.outside (a ∷ []) second.keeps second.other begun

-- ---- what follows spaces

module _ (n : ℕ) where
  abbrev front : List ℕ
  front = (spaces n).text

  abbrev whole : List ℕ → List ℕ
  whole bytes = front ++ bytes

  is_tail : IsTail front []
  is_tail = between_tail front (spaces n).between

  none_spelled : EndedWordsSpell front []
  none_spelled = subst (λ (ws : List (List ℕ)). AreTokens ws []) (sym (spaces n).none_ended) refl

  -- a word is the one under way there too
  opened : (word : List ℕ) → IsOpen word word → IsOpen (whole word) word
  opened word alone = record {
    front = front;
    split = refl;
    between = (spaces n).between;
    opened = tail_open front [] is_tail word ∙ alone.opened;
    outside = tail_inside front [] is_tail word ∙ alone.outside;
    alone = alone.alone;
    clear = alone.clear;
    none_ended = alone.none_ended;
  }

  -- and begins after them
  begins_there : (word : List ℕ) → IsOpen word word → n < 2 ^ 64 → WordBeginsAt (n + length word) (whole word) n
  begins_there word alone fits =
      (n, ap (λ (w : List ℕ). n + length w) (opened word alone).opened, omega (arith, fits))

  -- bytes in which no word ends
  somewhere : (lexer : PmbLexer) (bytes : List ℕ) → EndedWordsSpell bytes [] → BeginsText bytes
      → lexer.used ≡ capped (n + length bytes) → IsPlace lexer (n + length bytes) (whole bytes) → StandsSomewhere lexer
  somewhere lexer bytes ended begun counted place = record {
    n = n + length bytes;
    text = whole bytes;
    events = [];
    long = omega (arith, (spaces n).long, length-append front bytes);
    stands = record {
      ended = spells_no_more front [] is_tail [] none_spelled bytes ended;
      begins = begins front [] is_tail [] none_spelled bytes begun;
      counted = counted;
      place = place;
    };
  }

-- ---- a lexer with such numbers is at a text

-- between words, at spaces
pub between_somewhere : (lexer : PmbLexer) → lexer.place ≡ 0 → lexer.used < 2 ^ 64 → StandsSomewhere lexer
between_somewhere lexer place fits =
    let n = lexer.used in
    somewhere n lexer [] refl ([], [], refl) (omega (arith, fits))
    (between place (tail_open (front n) [] (is_tail n) [], tail_inside (front n) [] (is_tail n) []))

-- in a comment, at spaces and `#`
in_comment_somewhere : (lexer : PmbLexer) (n : ℕ) → lexer.place ≡ 1 → lexer.used ≡ n + 1 → lexer.used < 2 ^ 64
    → StandsSomewhere lexer
in_comment_somewhere lexer n place some fits =
    let hash : List ℕ = 35 ∷ [] in
    somewhere n lexer hash refl ([], [], refl) (omega (arith, some, fits))
    (
    comment place (tail_open (front n) [] (is_tail n) hash) (tail_inside (front n) [] (is_tail n) hash)
    (omega arith)
    )

pub comment_somewhere : (lexer : PmbLexer) → lexer.place ≡ 1 → 0 < lexer.used → lexer.used < 2 ^ 64
    → (found : Option Lexer) → IfSome found (λ _. StandsSomewhere lexer)
comment_somewhere lexer place some fits (Some found) =
    in_comment_somewhere lexer (lexer.used - 1) place (omega (arith, some)) fits
comment_somewhere lexer place some fits None = tt

-- in a word, at spaces and its bytes
pub one_somewhere : (lexer : PmbLexer) → lexer.place ≡ 2 → lexer.at < 2 ^ 64 → lexer.used ≡ capped (lexer.at + 1)
    → is_of_word lexer.first ≡ true → (found : Option Lexer) → ResumesBehind (lexer.first ∷ []) found
    → IfSome found (λ _. StandsSomewhere lexer)
one_somewhere lexer place fits begun of_word (Some found) resumes =
    let word = lexer.first ∷ [] in
    let alone = one_alone lexer.first (ends_none lexer.first of_word) in
    somewhere lexer.at lexer word resumes.ended resumes.begins begun
    (one place (opened lexer.at word alone) (begins_there lexer.at word alone fits))
one_somewhere lexer place fits begun of_word None resumes = tt

pub two_somewhere : (lexer : PmbLexer) → lexer.place ≡ 3 → lexer.at < 2 ^ 64 → lexer.used ≡ capped (lexer.at + 2)
    → is_of_word lexer.first ≡ true → is_of_word lexer.second ≡ true → (found : Option Lexer)
    → ResumesBehind (lexer.first ∷ lexer.second ∷ []) found → IfSome found (λ _. StandsSomewhere lexer)
two_somewhere lexer place fits begun first second (Some found) resumes =
    let word = lexer.first ∷ lexer.second ∷ [] in
    let alone = two_alone lexer.first lexer.second (ends_none lexer.first first) (ends_none lexer.second second) in
    somewhere lexer.at lexer word resumes.ended resumes.begins begun
    (two place (opened lexer.at word alone) (begins_there lexer.at word alone fits))
two_somewhere lexer place fits begun first second None resumes = tt
