-- Where a `Times` stands after one byte more of each sort, and after more of a comment: for
-- `Times::take_front` and what it calls. A LF ends the line, which may tell a time; a byte of a word
-- ends the gap; all other bytes leave both as they are.
use Rattle.std.proofs.Common.{◌≡◌, ◌<◌, ℕ, suc, ◌&&◌, not, Bool, true, false, cond, Option, None}
use Rattle.std.proofs.Common.{List, [], ◌∷◌, ◌++◌, fold, length, refl, subst, sym, ap, ◌∙◌, arith}
use Rattle.std.specs.Option.{option_or}
use Rattle.std.proofs.lemmas.Bool.{false≢true, ne_eqb}
use Rattle.std.proofs.lemmas.List.{append_assoc, append-nil, length-append}
use Rattle.std.proofs.lemmas.List.Sums.{fold-append}
use Rattle.pmb_bus.specs.Text.{EndsBetween, ends_in_comment, in_comment, is_separator, is_word, open_word}
use Rattle.pmb_bus.proofs.Tokens.{is_word-append}
use Rattle.pmb_bus.proofs.Words.{blank_out, cut_by, ends_in_comment_by, in_comment_from_in}
use Rattle.pmb_bus.proofs.Words.{in_comment_from_out, longer_by}
use Rattle.pmb_places.specs.Text.{begins_word, is_in_word}
use Rattle.pmb_times.specs.declared.times.LineState.{LineState}
use Rattle.pmb_times.specs.declared.times.LineState.TheVariants.{Empty, Kept, Between, Word, Comment}
use Rattle.pmb_times.specs.Line.{line_time}
use Rattle.pmb_times.specs.Text.{line_after, line_behind, one_if, time_after, time_behind, time_from}
use Rattle.pmb_times.specs.Text.{time_of_last_word}
use Rattle.pmb_times.specs.Text.{times_from, told_by, word_times}
use Rattle.pmb_times.specs.TextLine.{HasNoLineFeed}
use Rattle.pmb_times.specs.machine.Standing.{FieldsStandAt, NoTime, kept_time}
use Rattle.pmb_times.proofs.Lines.{long_line, other_line}

-- ---- times go on

pub line_by : (text : List ℕ) (b : ℕ) → line_behind (text ++ b ∷ []) ≡ line_after (line_behind text) b
line_by text b = fold-append line_after [] text (b ∷ [])

pub time_from-append : (front : List ℕ) (time : Option (List ℕ)) (text more : List ℕ)
    → time_from front time (text ++ more) ≡ time_from (front ++ text) (time_from front time text) more
time_from-append front time [] more = ap (λ (f : List ℕ). time_from f time more) (sym (append-nil front))
time_from-append front time (b ∷ text) more =
    let now = time_after front time b in
    time_from-append (front ++ b ∷ []) now text more
    ∙ ap (λ (f : List ℕ). time_from f (time_from (front ++ b ∷ []) now text) more) (append_assoc front (b ∷ []) text)

pub time_by : (text : List ℕ) (b : ℕ) → time_behind (text ++ b ∷ []) ≡ time_after text (time_behind text) b
time_by text b = time_from-append [] None text (b ∷ [])

pub times_from-append : (front text more : List ℕ) → times_from front (text ++ more) ≡ times_from front text
    ++ times_from (front ++ text) more
times_from-append front [] more = ap (λ (f : List ℕ). times_from f more) (sym (append-nil front))
times_from-append front (b ∷ text) more =
    ap (λ (rest : List (Option (List ℕ))). one_if (begins_word front b) (time_behind front) ++ rest)
    (times_from-append (front ++ b ∷ []) text more
    ∙ ap (λ (f : List ℕ). times_from (front ++ b ∷ []) text ++ times_from f more) (append_assoc front (b ∷ []) text))
    ∙ sym (append_assoc (one_if (begins_word front b) (time_behind front)) (times_from (front ++ b ∷ []) text)
    (times_from (front ++ b ∷ text) more))

last_if : (found : Bool) (time before : Option (List ℕ)) → fold (λ b time. time) before (one_if found time ++ [])
    ≡ cond found time before
last_if true time before = refl
last_if false time before = refl

last_by : (text : List ℕ) (b : ℕ) → time_of_last_word (text ++ b ∷ [])
    ≡ cond (begins_word text b) (time_behind text) (time_of_last_word text)
last_by text b =
    ap (λ (times : List (Option (List ℕ))). fold (λ before time. time) None times) (times_from-append [] text (b ∷ []))
    ∙ fold-append (λ before time. time) None (word_times text) (one_if (begins_word text b) (time_behind text) ++ [])
    ∙ last_if (begins_word text b) (time_behind text) (time_of_last_word text)

-- ---- bytes that stand in no word

-- such a byte leaves all times as they are, and goes on with the line
record Quiet (text : List ℕ) (b : ℕ) : Type 0 where
  pub line : line_behind (text ++ b ∷ []) ≡ line_behind text ++ b ∷ []
  pub gap : time_behind (text ++ b ∷ []) ≡ time_behind text
  pub word : time_of_last_word (text ++ b ∷ []) ≡ time_of_last_word text

-- 10 is LF
pub longer_line : (text : List ℕ) (b : ℕ) → (b ≡ 10 → ⊥) → line_behind (text ++ b ∷ []) ≡ line_behind text ++ b ∷ []
longer_line text b other = line_by text b ∙ rw (ne_eqb b 10 other) refl

pub same_time : (text : List ℕ) (time : Option (List ℕ)) (b : ℕ) → is_in_word text b ≡ false → (b ≡ 10 → ⊥)
    → time_after text time b ≡ time
same_time text time b out other =
    ap (λ (v : Bool). cond v None (option_or (told_by text b) time)) out
    ∙ ap (λ (v : Bool). option_or (cond v (line_time (line_behind text)) None) time) (ne_eqb b 10 other)

quiet : (text : List ℕ) (b : ℕ) → is_in_word text b ≡ false → (b ≡ 10 → ⊥) → Quiet text b
quiet text b out other = record {
  line = longer_line text b other;
  gap = time_by text b ∙ same_time text (time_behind text) b out other;
  word = last_by text b
      ∙ ap (λ (v : Bool). cond (v && not (is_word (open_word text))) (time_behind text) (time_of_last_word text)) out;
}

-- a byte in a comment, and a separator
in_comment_out : (text : List ℕ) (b : ℕ) → in_comment (ends_in_comment text) b ≡ true → is_in_word text b ≡ false
in_comment_out text b inside = ap (λ (v : Bool). not v && not (is_separator b)) inside

separator_out : (text : List ℕ) (b : ℕ) → is_separator b ≡ true → is_in_word text b ≡ false
separator_out text b separates =
    ap (λ (v : Bool). not (in_comment (ends_in_comment text) b) && not v) separates
    ∙ never (not (in_comment (ends_in_comment text) b))
  where
    never : (v : Bool) → (v && false) ≡ false
    never true = refl
    never false = refl

-- ---- the word under way

pub open_cut : (text : List ℕ) (b : ℕ) → in_comment (ends_in_comment text) b ≡ false → is_separator b ≡ true
    → open_word (text ++ b ∷ []) ≡ []
open_cut text b outside separates =
    (cut_by text b (ap is_separator (blank_out (ends_in_comment text) b outside) ∙ separates)).opened

-- ---- a LF

pub stands_line_feed : (s : LineState) (line line' gap gap' word text : List ℕ) → FieldsStandAt s line gap word text
    → kept_time gap' ≡ option_or (line_time (line_behind text)) (kept_time gap)
    → FieldsStandAt Empty line' gap' word (text ++ 10 ∷ [])
stands_line_feed s line line' gap gap' word text stands told = record {
  line_is = (line_by text 10, (open_cut text 10 refl refl, ends_in_comment_by text 10));
  gap_is = told ∙ ap (option_or (line_time (line_behind text))) stands.gap_is ∙ sym (time_by text 10);
  word_is = stands.word_is ∙ sym (last_by text 10);
}

-- ---- lines that tell no time

pub no_time_longer : (line : List ℕ) (b : ℕ) → NoTime line → NoTime (line ++ b ∷ [])
no_time_longer line b none more = ap line_time (append_assoc line (b ∷ []) more) ∙ none (b ∷ more)

no_time_by : (text : List ℕ) (b : ℕ) → (b ≡ 10 → ⊥) → NoTime (line_behind text ++ b ∷ [])
    → NoTime (line_behind (text ++ b ∷ []))
no_time_by text b other none = subst NoTime (sym (longer_line text b other)) none

pub no_time_other : (text : List ℕ) (b : ℕ) → line_behind text ≡ [] → (b ≡ 35 → ⊥)
    → NoTime (line_behind text ++ b ∷ [])
no_time_other text b start other = subst (λ (line : List ℕ). NoTime (line ++ b ∷ [])) (sym start)
    (λ more. other_line b more other)

-- ---- a line that is kept

-- what stands in a comment
quiet_comment : (text : List ℕ) (b : ℕ) → ends_in_comment text ≡ true → (b ≡ 10 → ⊥) → Quiet text b
quiet_comment text b inside other =
    let still : in_comment (ends_in_comment text) b ≡ true =
    ap (λ (v : Bool). in_comment v b) inside ∙ (in_comment_from_in b).1 other in
    quiet text b (in_comment_out text b still) other

still_comment : (text : List ℕ) (b : ℕ) → ends_in_comment text ≡ true → (b ≡ 10 → ⊥)
    → ends_in_comment (text ++ b ∷ []) ≡ true
still_comment text b inside other = ends_in_comment_by text b ∙ ap (λ (v : Bool). in_comment v b) inside
    ∙ (in_comment_from_in b).1 other

stands_kept : (line gap word text : List ℕ) (b : ℕ) → FieldsStandAt Kept line gap word text → (b ≡ 10 → ⊥)
    → FieldsStandAt Kept (line ++ b ∷ []) gap word (text ++ b ∷ [])
stands_kept line gap word text b stands other =
    let now = quiet_comment text b stands.line_is.1 other in record {
      line_is = (
        now.line ∙ ap (λ (l : List ℕ). l ++ b ∷ []) stands.line_is.0,
        still_comment text b stands.line_is.1 other,
      );
      gap_is = stands.gap_is ∙ sym now.gap;
      word_is = stands.word_is ∙ sym now.word;
    }

-- without LF, all of it goes on with the line
pub stands_kept_all : (line gap word text bytes : List ℕ) → FieldsStandAt Kept line gap word text → HasNoLineFeed bytes
    → FieldsStandAt Kept (line ++ bytes) gap word (text ++ bytes)
stands_kept_all line gap word text [] stands none =
    subst (λ (t : List ℕ). FieldsStandAt Kept (line ++ []) gap word t) (sym (append-nil text))
    (subst (λ (l : List ℕ). FieldsStandAt Kept l gap word text) (sym (append-nil line)) stands)
stands_kept_all line gap word text (b ∷ bytes) stands none =
    subst (λ (t : List ℕ). FieldsStandAt Kept (line ++ b ∷ bytes) gap word t) (append_assoc text (b ∷ []) bytes)
    (subst (λ (l : List ℕ). FieldsStandAt Kept l gap word ((text ++ b ∷ []) ++ bytes))
    (append_assoc line (b ∷ []) bytes)
    (stands_kept_all (line ++ b ∷ []) gap word (text ++ b ∷ []) bytes
    (stands_kept line gap word text b stands (none 0 (omega arith))) (λ k within. none (suc k) (omega arith))))

-- 45 bytes has a time line at most
pub stands_long : (line line' gap word text : List ℕ) → FieldsStandAt Kept line gap word text → 45 < length line
    → FieldsStandAt Comment line' gap word text
stands_long line line' gap word text stands long =
    let none : NoTime line = λ more. long_line (line ++ more) (omega (arith, length-append line more)) in record {
      line_is = (subst NoTime (sym stands.line_is.0) none, stands.line_is.1);
      gap_is = stands.gap_is;
      word_is = stands.word_is;
    }

-- ---- bytes outside comments

-- a byte of a word
pub record InWord (b : ℕ) : Type 0 where
  pub outside : in_comment false b ≡ false
  pub keeps : is_separator b ≡ false

module _ (text : List ℕ) (b : ℕ) (outside : ends_in_comment text ≡ false) (byte : InWord b) where
  byte_outside : in_comment (ends_in_comment text) b ≡ false
  byte_outside = ap (λ (v : Bool). in_comment v b) outside ∙ byte.outside

  byte_in_word : is_in_word text b ≡ true
  byte_in_word = ap (λ (v : Bool). not v && not (is_separator b)) byte_outside ∙ ap not byte.keeps

  opens : is_word (open_word (text ++ b ∷ [])) ≡ true
  opens = ap is_word (longer_by text b byte_outside byte.keeps).opened ∙ is_word-append (open_word text) b []

  stays_outside : ends_in_comment (text ++ b ∷ []) ≡ false
  stays_outside = ends_in_comment_by text b ∙ byte_outside

  gap_ends : time_behind (text ++ b ∷ []) ≡ None
  gap_ends = time_by text b
      ∙ ap (λ (v : Bool). cond v None (option_or (told_by text b) (time_behind text))) byte_in_word

  word_begins : (v : Bool) → is_word (open_word text) ≡ v
      → time_of_last_word (text ++ b ∷ []) ≡ cond (not v) (time_behind text) (time_of_last_word text)
  word_begins v is = last_by text b
      ∙ ap (λ (w : Bool). cond (w && not (is_word (open_word text))) (time_behind text) (time_of_last_word text))
      byte_in_word
      ∙ ap (λ (w : Bool). cond (not w) (time_behind text) (time_of_last_word text)) is

no_line_feed : (b : ℕ) → InWord b → b ≡ 10 → ⊥
no_line_feed b byte is = false≢true (sym byte.keeps ∙ ap is_separator is)

no_mark : (b : ℕ) → InWord b → b ≡ 35 → ⊥
no_mark b byte is = false≢true (sym byte.outside ∙ ap (in_comment false) is)

-- a word begins
begun : (line line' gap word text : List ℕ) (b : ℕ) (s : LineState) → FieldsStandAt s line gap word text
    → NoTime (line_behind text ++ b ∷ []) → EndsBetween text → InWord b
    → FieldsStandAt Word line' [] gap (text ++ b ∷ [])
begun line line' gap word text b s stands none between byte = record {
  line_is = (
    no_time_by text b (no_line_feed b byte) none,
    (opens text b between.1 byte, stays_outside text b between.1 byte, gap_ends text b between.1 byte),
  );
  gap_is = sym (gap_ends text b between.1 byte);
  word_is = stands.gap_is ∙ sym (word_begins text b between.1 byte false (ap is_word between.0));
}

pub stands_first : (line line' gap word text : List ℕ) (b : ℕ) → FieldsStandAt Empty line gap word text → InWord b
    → FieldsStandAt Word line' [] gap (text ++ b ∷ [])
stands_first line line' gap word text b stands byte =
    begun line line' gap word text b Empty stands
    (no_time_other text b stands.line_is.0 (no_mark b byte)) stands.line_is.1 byte

pub stands_next : (line line' gap word text : List ℕ) (b : ℕ) → FieldsStandAt Between line gap word text → InWord b
    → FieldsStandAt Word line' [] gap (text ++ b ∷ [])
stands_next line line' gap word text b stands byte =
    begun line line' gap word text b Between stands (no_time_longer (line_behind text) b stands.line_is.0)
    stands.line_is.1 byte

-- a word goes on
pub stands_longer : (line line' gap word text : List ℕ) (b : ℕ) → FieldsStandAt Word line gap word text → InWord b
    → FieldsStandAt Word line' gap word (text ++ b ∷ [])
stands_longer line line' gap word text b stands byte =
    let out = stands.line_is.1.1 in record {
      line_is = (
        no_time_by text b (no_line_feed b byte) (no_time_longer (line_behind text) b stands.line_is.0),
        (opens text b out byte, stays_outside text b out byte, gap_ends text b out byte),
      );
      gap_is = stands.gap_is ∙ stands.line_is.1.2 ∙ sym (gap_ends text b out byte);
      word_is = stands.word_is ∙ sym (word_begins text b out byte true stands.line_is.1.0);
    }

-- a comment begins in the middle of a line
pub comment_begins : (s : LineState) (line line' gap word text : List ℕ) → FieldsStandAt s line gap word text
    → NoTime (line_behind text) → ends_in_comment text ≡ false
    → FieldsStandAt Comment line' gap word (text ++ 35 ∷ [])
comment_begins s line line' gap word text stands none outside =
    let inside : in_comment (ends_in_comment text) 35 ≡ true = ap (λ (v : Bool). in_comment v 35) outside in
    let now = quiet text 35 (in_comment_out text 35 inside) (λ is. omega (arith, is)) in record {
      line_is = (
        no_time_by text 35 (λ is. omega (arith, is)) (no_time_longer (line_behind text) 35 none),
        ends_in_comment_by text 35 ∙ inside,
      );
      gap_is = stands.gap_is ∙ sym now.gap;
      word_is = stands.word_is ∙ sym now.word;
    }

-- a separator but LF
pub separated : (s : LineState) (line line' gap word text : List ℕ) (b : ℕ) → FieldsStandAt s line gap word text
    → NoTime (line_behind text ++ b ∷ []) → ends_in_comment text ≡ false → (b ≡ 10 → ⊥) → (b ≡ 35 → ⊥)
    → is_separator b ≡ true
    → FieldsStandAt Between line' gap word (text ++ b ∷ [])
separated s line line' gap word text b stands none outside no_feed no_mark separates =
    let out : in_comment (ends_in_comment text) b ≡ false =
    ap (λ (v : Bool). in_comment v b) outside ∙ (in_comment_from_out b).1 no_mark in
    let now = quiet text b (separator_out text b separates) no_feed in record {
      line_is = (
        no_time_by text b no_feed none,
        (open_cut text b out separates, ends_in_comment_by text b ∙ out),
      );
      gap_is = stands.gap_is ∙ sym now.gap;
      word_is = stands.word_is ∙ sym now.word;
    }

-- a comment from the line's first byte on
pub kept_begins : (line gap word text : List ℕ) → FieldsStandAt Empty line gap word text
    → FieldsStandAt Kept (35 ∷ []) gap word (text ++ 35 ∷ [])
kept_begins line gap word text stands =
    let inside : in_comment (ends_in_comment text) 35 ≡ true = ap (λ (v : Bool). in_comment v 35) stands.line_is.1.1 in
    let now = quiet text 35 (in_comment_out text 35 inside) (λ is. omega (arith, is)) in record {
      line_is = (
        now.line ∙ ap (λ (l : List ℕ). l ++ 35 ∷ []) stands.line_is.0,
        ends_in_comment_by text 35 ∙ inside,
      );
      gap_is = stands.gap_is ∙ sym now.gap;
      word_is = stands.word_is ∙ sym now.word;
    }

-- a comment goes on
comment_longer : (line line' gap word text : List ℕ) (b : ℕ) → FieldsStandAt Comment line gap word text
    → (b ≡ 10 → ⊥)
    → FieldsStandAt Comment line' gap word (text ++ b ∷ [])
comment_longer line line' gap word text b stands other =
    let now = quiet_comment text b stands.line_is.1 other in record {
      line_is = (
        no_time_by text b other (no_time_longer (line_behind text) b stands.line_is.0),
        still_comment text b stands.line_is.1 other,
      );
      gap_is = stands.gap_is ∙ sym now.gap;
      word_is = stands.word_is ∙ sym now.word;
    }

-- without LF, all of it
pub comment_all : (line line' gap word text bytes : List ℕ) → FieldsStandAt Comment line gap word text
    → HasNoLineFeed bytes
    → FieldsStandAt Comment line' gap word (text ++ bytes)
comment_all line line' gap word text [] stands none =
    subst (λ (t : List ℕ). FieldsStandAt Comment line' gap word t) (sym (append-nil text))
    (record { line_is = stands.line_is; gap_is = stands.gap_is; word_is = stands.word_is })
comment_all line line' gap word text (b ∷ bytes) stands none =
    subst (λ (t : List ℕ). FieldsStandAt Comment line' gap word t) (append_assoc text (b ∷ []) bytes)
    (comment_all line line' gap word (text ++ b ∷ []) bytes
    (comment_longer line line gap word text b stands (none 0 (omega arith))) (λ k within. none (suc k) (omega arith)))
