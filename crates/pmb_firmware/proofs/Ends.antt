-- What one byte more leaves at the end of a text, and in a lexer's numbers. For
-- `PmbLexer::go_over`, `PmbLexer::pass`, `resumed` and `lexer_behind`. The place is 0 between
-- words, 1 in a comment, 2 and 3 after one and two bytes of a word, 4 and more after a longer one
-- or a fault; each byte leads from one to the next as the text's end says.
use Rattle.std.proofs.Common.{◌≡◌, ℕ, ◌+◌, ◌-◌, ◌^◌, ◌<◌, ◌≤◌, ◌==◌, min, Bool, true, false, cond, inl, inr, List, []}
use Rattle.std.proofs.Common.{◌∷◌, ◌++◌, length, take, get_or, refl, sym, ap, subst, ◌∙◌, arith}
use Rattle.std.specs.List.{filter, slice_split}
use Rattle.std.proofs.lemmas.List.{append-nil, append_assoc, length-append, take_more}
use Rattle.std.proofs.lemmas.List.Splits.{slice_split-cons_yes, slice_split-cons_no}
use Rattle.std.proofs.lemmas.Bool.{cases_Bool, eqb-true}
use Rattle.pmb_bus.specs.Count.{capped}
use Rattle.pmb_bus.specs.Text.{EndsBetween, WordBeginsAt, all_but_last, ended_words, ends_in_comment, in_comment}
use Rattle.pmb_bus.specs.Text.{is_separator, is_word, last_run, open_word}
use Rattle.pmb_firmware.specs.declared.lexer.PmbLexer.{PmbLexer}
use Rattle.pmb_firmware.specs.machine.Bytes.{IsEnd, behind, longer, over, short, long}
use Rattle.pmb_firmware.specs.machine.Standing.{IsTail, IsOpen, between, comment, one, two}
use Rattle.pmb_firmware.proofs.Tails.{tail_inside, tail_open}
use Rattle.pmb_firmware.proofs.Runs.{ended_append, following, glue, inside_append, open_append}

-- ---- one byte more

abbrev pub blank : Bool → ℕ → ℕ
blank inside b = cond (in_comment inside b) 32 b

pub inside_by : (text : List ℕ) (b : ℕ) → ends_in_comment (text ++ b ∷ []) ≡ in_comment (ends_in_comment text) b
inside_by text b = inside_append text (b ∷ [])

-- a byte that separates words, or is one of a comment, ends the word under way
cuts : (text : List ℕ) (b : ℕ) → is_separator (blank (ends_in_comment text) b) ≡ true → open_word (text ++ b ∷ []) ≡ []
cuts text b cut =
    open_append text (b ∷ [])
    ∙ ap (λ (all : List (List ℕ)). last_run (glue (open_word text) all))
    (slice_split-cons_yes is_separator (blank (ends_in_comment text) b) [] cut)

pub cut_inside : (text : List ℕ) (b : ℕ) → in_comment (ends_in_comment text) b ≡ true → open_word (text ++ b ∷ []) ≡ []
cut_inside text b inside = cuts text b (ap (λ (v : Bool). is_separator (cond v 32 b)) inside)

pub cut_separator : (text : List ℕ) (b : ℕ) → is_separator b ≡ true → open_word (text ++ b ∷ []) ≡ []
cut_separator text b separates =
    elim (cases_Bool (in_comment (ends_in_comment text) b)) [
      | inl inside ↦ cut_inside text b inside
      | inr outside ↦ cuts text b (ap (λ (v : Bool). is_separator (cond v 32 b)) outside ∙ separates)
    ]

-- another byte makes it longer
pub record Longer (text : List ℕ) (b : ℕ) : Type 0 where
  pub opened : open_word (text ++ b ∷ []) ≡ open_word text ++ b ∷ []
  pub ended : ended_words (text ++ b ∷ []) ≡ ended_words text
  pub outside : ends_in_comment (text ++ b ∷ []) ≡ false

pub longer_by : (text : List ℕ) (b : ℕ) → in_comment (ends_in_comment text) b ≡ false → is_separator b ≡ false
    → Longer text b
longer_by text b outside keeps =
    let whole : following (open_word text) (ends_in_comment text) (b ∷ []) ≡ (open_word text ++ b ∷ []) ∷ [] =
    ap (λ (v : Bool). glue (open_word text) (slice_split is_separator (cond v 32 b ∷ []))) outside
    ∙ ap (glue (open_word text)) (slice_split-cons_no is_separator b [] keeps) in record {
      opened = open_append text (b ∷ []) ∙ ap last_run whole;
      ended = ended_append text (b ∷ [])
          ∙ ap (λ (all : List (List ℕ)). ended_words text ++ filter is_word (all_but_last all)) whole
          ∙ append-nil (ended_words text);
      outside = inside_by text b ∙ outside;
    }

-- ---- a byte outside comments

-- 35 is `#`
outside_stays : (b : ℕ) → (b == 35) ≡ false → in_comment false b ≡ false
outside_stays b other =
    elim (cases_Bool (b == 10)) [
      | inl line ↦ ap (λ (v : Bool). cond v false (b == 35)) line
      | inr more ↦ ap (λ (v : Bool). cond v false (b == 35)) more ∙ other
    ]

pub hash_begins : (b : ℕ) → (b == 35) ≡ true → in_comment false b ≡ true
hash_begins b hash = rw (eqb-true b 35 hash) refl

module _ (text : List ℕ) (b : ℕ) (outside : ends_in_comment text ≡ false) where
  kept_out : (b == 35) ≡ false → in_comment (ends_in_comment text) b ≡ false
  kept_out other = ap (λ (v : Bool). in_comment v b) outside ∙ outside_stays b other

  brought_in : (b == 35) ≡ true → in_comment (ends_in_comment text) b ≡ true
  brought_in hash = ap (λ (v : Bool). in_comment v b) outside ∙ hash_begins b hash

  separated : is_separator b ≡ true → (b == 35) ≡ false → EndsBetween (text ++ b ∷ [])
  separated separates other = (cut_separator text b separates, inside_by text b ∙ kept_out other)

  goes_on : is_separator b ≡ false → (b == 35) ≡ false → Longer text b
  goes_on keeps other = longer_by text b (kept_out other) keeps

  -- a longer word begins where it began
  begins_there : (n at : ℕ) → Longer text b → WordBeginsAt n text at → WordBeginsAt (n + 1) (text ++ b ∷ []) at
  begins_there n at more begins = (
    begins.0,
    omega (arith, begins.1, ap (length {A = ℕ}) more.opened, length-append (open_word text) (b ∷ [])),
    begins.2,
  )

  pub open_longer : (word : List ℕ) → is_separator b ≡ false → (b == 35) ≡ false → IsOpen text word
      → IsOpen (text ++ b ∷ []) (word ++ b ∷ [])
  open_longer word keeps other begun =
      let more = goes_on keeps other in
      let alone = longer_by word b (ap (λ (v : Bool). in_comment v b) begun.clear ∙ outside_stays b other) keeps in
      record {
        front = begun.front;
        split = ap (λ (all : List ℕ). all ++ b ∷ []) begun.split ∙ append_assoc begun.front word (b ∷ []);
        between = begun.between;
        opened = more.opened ∙ ap (λ (all : List ℕ). all ++ b ∷ []) begun.opened;
        outside = more.outside;
        alone = alone.opened ∙ ap (λ (all : List ℕ). all ++ b ∷ []) begun.alone;
        clear = alone.outside;
        none_ended = alone.ended ∙ begun.none_ended;
      }

-- between words the word under way has no bytes
pub open_none : (text : List ℕ) → EndsBetween text → IsOpen text []
open_none text ends = record {
  front = text;
  split = sym (append-nil text);
  between = ends;
  opened = ends.0;
  outside = ends.1;
  alone = refl;
  clear = refl;
  none_ended = refl;
}

-- ---- a lexer's numbers

counts : (used n : ℕ) → used ≡ capped n → min (used + 1) (2 ^ 64 - 1) ≡ capped (n + 1)
counts used n same = omega arith

module _ (lexer : PmbLexer) (n : ℕ) (text : List ℕ) (b : ℕ) (counted : lexer.used ≡ capped n) where
  abbrev counted_on : PmbLexer → PmbLexer
  counted_on at = record at { used = capped (lexer.used + 1) }

  abbrev Goal : PmbLexer → Type 0
  Goal at = IsEnd (counted_on at) (n + 1) (text ++ b ∷ [])

  so : (at : PmbLexer) → over lexer b ≡ at → Goal at → IsEnd (behind lexer b) (n + 1) (text ++ b ∷ [])
  so at is ends = subst Goal (sym is) ends

  -- outside comments
  over_outside : ends_in_comment text ≡ false → (lexer.place == 1) ≡ false
      → (is_separator b ≡ false → (b == 35) ≡ false → Goal (longer lexer b))
      → IsEnd (behind lexer b) (n + 1) (text ++ b ∷ [])
  over_outside outside place word =
      elim (cases_Bool (b == 35)) [
        | inl hash ↦
            so (record lexer { place = 1 }) (rw (place, hash) refl)
            (
            short (counts lexer.used n counted)
            (comment refl (cut_inside text b (brought_in text b outside hash))
            (inside_by text b ∙ brought_in text b outside hash) (omega arith))
            )
        | inr other ↦
            elim (cases_Bool (is_separator b)) [
              | inl separates ↦
                  so (record lexer { place = 0 }) (rw (place, other, separates) refl)
                  (short (counts lexer.used n counted) (between refl (separated text b outside separates other)))
              | inr keeps ↦ so (longer lexer b) (rw (place, other, keeps) refl) (word keeps other)
            ]
      ]

  -- 0: between words
  over_between : lexer.place ≡ 0 → EndsBetween text → IsEnd (behind lexer b) (n + 1) (text ++ b ∷ [])
  over_between place ends =
      over_outside ends.1 (ap (λ (p : ℕ). p == 1) place)
      (
      λ keeps other.
      let begun = open_longer text b ends.1 [] keeps other (open_none text ends) in
      let is : longer lexer b ≡ record lexer { place = 2; at = lexer.used; first = b } = rw place refl in
      subst Goal (sym is)
      (short (counts lexer.used n counted) (one refl begun (
        n,
        ap (λ (word : List ℕ). n + length word) begun.opened,
        counted,
      )))
      )

  -- 1: in a comment
  over_comment : lexer.place ≡ 1 → ends_in_comment text ≡ true → IsEnd (behind lexer b) (n + 1) (text ++ b ∷ [])
  over_comment place inside =
      elim (cases_Bool (b == 10)) [
        | inl line ↦
            let is : b ≡ 10 = eqb-true b 10 line in
            so (record lexer { place = 0 }) (rw (place, line) refl)
            (
            short (counts lexer.used n counted)
            (
            between refl (
              cut_separator text b (ap is_separator is),
              inside_by text b ∙ ap (λ (v : Bool). in_comment v b) inside ∙ ap (in_comment true) is,
            )
            )
            )
        | inr other ↦
            let stays : in_comment (ends_in_comment text) b ≡ true =
            ap (λ (v : Bool). in_comment v b) inside ∙ ap (λ (v : Bool). cond v false true) other in
            so lexer (rw (place, other) refl)
            (
            short (counts lexer.used n counted)
            (comment place (cut_inside text b stays) (inside_by text b ∙ stays) (omega arith))
            )
      ]

  -- 2: after one byte of a word
  over_one : lexer.place ≡ 2 → IsOpen text (lexer.first ∷ []) → WordBeginsAt n text lexer.at
      → IsEnd (behind lexer b) (n + 1) (text ++ b ∷ [])
  over_one place begun begins =
      over_outside begun.outside (ap (λ (p : ℕ). p == 1) place)
      (
      λ keeps other.
      let is : longer lexer b ≡ record lexer { place = 3; second = b } = rw place refl in
      subst Goal (sym is)
      (
      short (counts lexer.used n counted)
      (
      two refl (open_longer text b begun.outside (lexer.first ∷ []) keeps other begun)
      (begins_there text b begun.outside n lexer.at (goes_on text b begun.outside keeps other) begins)
      )
      )
      )

  -- any other: after two bytes or more
  over_longer : (k : ℕ) → lexer.place ≡ k → (k == 0) ≡ false → (k == 1) ≡ false → (k == 2) ≡ false
      → ends_in_comment text ≡ false
      → 2 ≤ length (open_word text) → WordBeginsAt n text lexer.at → IsEnd (behind lexer b) (n + 1) (text ++ b ∷ [])
  over_longer k place not_0 not_1 not_2 outside long_word begins =
      over_outside outside (ap (λ (p : ℕ). p == 1) place ∙ not_1)
      (
      λ keeps other.
      let more = goes_on text b outside keeps other in
      let first : (lexer.place == 0) ≡ false = ap (λ (p : ℕ). p == 0) place ∙ not_0 in
      let second : (lexer.place == 2) ≡ false = ap (λ (p : ℕ). p == 2) place ∙ not_2 in
      let is : longer lexer b ≡ record lexer { place = 4 } = rw (first, second) refl in
      subst Goal (sym is)
      (
      long (counts lexer.used n counted)
      (
      record {
        place = refl;
        long = omega (arith, ap (length {A = ℕ}) more.opened, length-append (open_word text) (b ∷ []));
        outside = more.outside;
        at = begins_there text b outside n lexer.at more begins;
      }
      )
      )
      )

-- one byte more
pub behind_ends : (lexer : PmbLexer) (n : ℕ) (text : List ℕ) (b : ℕ) → IsEnd lexer n text
    → IsEnd (behind lexer b) (n + 1) (text ++ b ∷ [])
behind_ends lexer n text b (short counted (between place ends)) = over_between lexer n text b counted place ends
behind_ends lexer n text b (short counted (comment place none inside some)) =
    over_comment lexer n text b counted place inside
behind_ends lexer n text b (short counted (one place begun begins)) = over_one lexer n text b counted place begun begins
behind_ends lexer n text b (short counted (two place begun begins)) =
    over_longer lexer n text b counted 3 place refl refl refl begun.outside
    (omega (arith, ap (length {A = ℕ}) begun.opened)) begins
behind_ends lexer n text b (long counted is) =
    over_longer lexer n text b counted 4 is.place refl refl refl is.outside (omega (arith, is.long)) is.at

-- the next byte of a piece
pub next_ends : (lexer : PmbLexer) (n : ℕ) (text piece : List ℕ) (i : ℕ) → i < length piece
    → IsEnd lexer (n + i) (text ++ take i piece)
    → IsEnd (behind lexer (get_or piece i 0)) (n + (i + 1)) (text ++ take (i + 1) piece)
next_ends lexer n text piece i within ends =
    let b = get_or piece i 0 in
    let all : (text ++ take i piece) ++ b ∷ [] ≡ text ++ take (i + 1) piece =
    append_assoc text (take i piece) (b ∷ []) ∙ ap (λ (part : List ℕ). text ++ part)
    (sym (take_more piece i 0 within)) in
    let count : (n + i) + 1 ≡ n + (i + 1) = omega arith in
    subst (λ (m : ℕ). IsEnd (behind lexer b) m (text ++ take (i + 1) piece)) count
    (subst (λ (whole : List ℕ). IsEnd (behind lexer b) ((n + i) + 1) whole) all
    (behind_ends lexer (n + i) (text ++ take i piece) b ends))

-- ---- bytes after which no word and no comment is under way

counts_on : (used n more : ℕ) → used ≡ capped n → min (used + more) (2 ^ 64 - 1) ≡ capped (n + more)
counts_on used n more same = omega arith

pub ends_between : (lexer after : PmbLexer) (n : ℕ) (text tail piece : List ℕ) → IsEnd lexer n text → IsTail text tail
    → EndsBetween (tail ++ piece)
    → after ≡ record lexer { place = 0; used = min (lexer.used + length piece) (2 ^ 64 - 1) }
    → IsEnd after (n + length piece) (text ++ piece)
ends_between lexer after n text tail piece ends tail_is outside is =
    let counted : lexer.used ≡ capped n = elim ends
    [ short counted place ↦ counted | long counted is_long ↦ counted ] in
    subst (λ (at : PmbLexer). IsEnd at (n + length piece) (text ++ piece)) (sym is)
    (
    short (counts_on lexer.used n (length piece) counted)
    (between refl (tail_open text tail tail_is piece ∙ outside.0, tail_inside text tail tail_is piece ∙ outside.1))
    )
