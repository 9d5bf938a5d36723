-- Times of a piece of a capture that is cut at a line's end: for the law `times_of_a_piece`. After
-- such a front each byte begins a word, and ends a time line, where it does so in the piece alone.
-- So the gap under way has the piece's time, where the piece has told one since its last word.
use Rattle.std.proofs.Common.{◌≡◌, ℕ, zero, suc, ◌+◌, ◌&&◌, not, Bool, true, false, cond, Option, Some, None, IfSome}
use Rattle.std.proofs.Common.{List, [], ◌∷◌, ◌++◌, fold, get_or, length, refl, subst, sym, ap, ◌∙◌}
use Rattle.std.specs.Prelude.{◌==◌, codes}
use Rattle.std.specs.Option.{option_or}
use Rattle.std.proofs.lemmas.List.{append_assoc, append-nil, get_or-append-add}
use Rattle.std.proofs.lemmas.List.Sums.{fold-append}
use Rattle.pmb_bus.specs.Text.{EndsBetween, ends_in_comment, ends_in_comment_from, in_comment, is_separator}
use Rattle.pmb_bus.specs.Text.{is_word, last_run, open_word, runs, words}
use Rattle.pmb_bus.proofs.Splits.{glue, glue-nil}
use Rattle.pmb_bus.proofs.Words.{ends_in_comment_by, ends_in_comment_from-append, open_word-append, runs_from}
use Rattle.pmb_places.specs.Text.{begins_word, is_in_word}
use Rattle.pmb_times.specs.Line.{line_time}
use Rattle.pmb_times.specs.Text.{gap_times, line_after, line_behind, one_if, time_after, time_at, time_behind}
use Rattle.pmb_times.specs.Text.{time_from, times_from, told_by, word_times}
use Rattle.pmb_times.proofs.Bytes.{line_by, open_cut, time_from-append, times_from-append}
use Rattle.pmb_times.proofs.Gaps.{EachHasPlace, counted}

-- the time that a piece tells is that of the whole
abbrev TellsNoMore : Option (List ℕ) → Option (List ℕ) → Type 0
TellsNoMore piece whole = IfSome piece (λ time. whole ≡ Some time)

-- so is each of a list
abbrev TellNoMore : List (Option (List ℕ)) → List (Option (List ℕ)) → Type 0
TellNoMore pieces wholes = (k : ℕ) → TellsNoMore (get_or pieces k None) (get_or wholes k None)

or_no_more : (told piece whole : Option (List ℕ)) → TellsNoMore piece whole
    → TellsNoMore (option_or told piece) (option_or told whole)
or_no_more None piece whole more = more
or_no_more (Some time) piece whole more = refl

after_no_more : (in_word : Bool) (told piece whole : Option (List ℕ)) → TellsNoMore piece whole
    → TellsNoMore (cond in_word None (option_or told piece)) (cond in_word None (option_or told whole))
after_no_more true told piece whole more = tt
after_no_more false told piece whole more = or_no_more told piece whole more

last_no_more : (piece whole : Option (List ℕ)) → TellsNoMore piece whole → TellNoMore (piece ∷ []) (whole ∷ [])
last_no_more piece whole more zero = more
last_no_more piece whole more (suc k) = tt

one_no_more : (found : Bool) (piece whole : Option (List ℕ)) (pieces wholes ends ends' : List (Option (List ℕ)))
    → TellsNoMore piece whole → TellNoMore (pieces ++ ends) (wholes ++ ends')
    → TellNoMore ((one_if found piece ++ pieces) ++ ends) ((one_if found whole ++ wholes) ++ ends')
one_no_more false piece whole pieces wholes ends ends' more all k = all k
one_no_more true piece whole pieces wholes ends ends' more all zero = more
one_no_more true piece whole pieces wholes ends ends' more all (suc k) = all k

-- ---- after a front that ends between words and with a line

module _ (front : List ℕ) (between : EndsBetween front) (start : line_behind front ≡ []) where
  comment_there : (text : List ℕ) → ends_in_comment (front ++ text) ≡ ends_in_comment text
  comment_there text =
      ends_in_comment_from-append false front text
      ∙ ap (λ (inside : Bool). ends_in_comment_from inside text) between.1

  open_there : (text : List ℕ) → open_word (front ++ text) ≡ open_word text
  open_there text =
      open_word-append front text
      ∙ ap (λ (opened : List ℕ). last_run (glue opened (runs_from (ends_in_comment front) text))) between.0
      ∙ ap (λ (inside : Bool). last_run (glue [] (runs_from inside text))) between.1
      ∙ ap last_run (glue-nil (runs text))

  line_there : (text : List ℕ) → line_behind (front ++ text) ≡ line_behind text
  line_there text = fold-append line_after [] front text ∙ ap (λ (line : List ℕ). fold line_after line text) start

  in_word_there : (text : List ℕ) (b : ℕ) → is_in_word (front ++ text) b ≡ is_in_word text b
  in_word_there text b = ap (λ (inside : Bool). not (in_comment inside b) && not (is_separator b)) (comment_there text)

  begins_there : (text : List ℕ) (b : ℕ) → begins_word (front ++ text) b ≡ begins_word text b
  begins_there text b =
      ap (λ (is : Bool). is && not (is_word (open_word (front ++ text)))) (in_word_there text b)
      ∙ ap (λ (word : List ℕ). is_in_word text b && not (is_word word)) (open_there text)

  told_there : (text : List ℕ) (b : ℕ) → told_by (front ++ text) b ≡ told_by text b
  told_there text b = ap (λ (line : List ℕ). cond (b == 10) (line_time line) None) (line_there text)

  -- the front grows by a byte
  longer : (text : List ℕ) (b : ℕ) → front ++ (text ++ b ∷ []) ≡ (front ++ text) ++ b ∷ []
  longer text b = sym (append_assoc front text (b ∷ []))

  -- ---- the gap under way

  byte_no_more : (text : List ℕ) (b : ℕ) (piece whole : Option (List ℕ)) → TellsNoMore piece whole
      → TellsNoMore (time_after text piece b) (time_after (front ++ text) whole b)
  byte_no_more text b piece whole more =
      subst (λ (is : Bool). TellsNoMore (time_after text piece b) (cond is None
      (option_or (told_by (front ++ text) b) whole))) (sym (in_word_there text b))
      (subst (λ (told : Option (List ℕ)). TellsNoMore (time_after text piece b)
      (cond (is_in_word text b) None (option_or told whole))) (sym (told_there text b))
      (after_no_more (is_in_word text b) (told_by text b) piece whole more))

  from_no_more : (text rest : List ℕ) (piece whole : Option (List ℕ)) → TellsNoMore piece whole
      → TellsNoMore (time_from text piece rest) (time_from (front ++ text) whole rest)
  from_no_more text [] piece whole more = more
  from_no_more text (b ∷ rest) piece whole more =
      let now = time_after text piece b in
      let there = time_after (front ++ text) whole b in
      subst (λ (f : List ℕ). TellsNoMore (time_from (text ++ b ∷ []) now rest) (time_from f there rest)) (longer text b)
      (from_no_more (text ++ b ∷ []) rest now there (byte_no_more text b piece whole more))

  behind_no_more : (text : List ℕ) → TellsNoMore (time_behind text) (time_behind (front ++ text))
  behind_no_more text =
      let before = time_behind front in
      subst (λ (time : Option (List ℕ)). TellsNoMore (time_behind text) time)
      (ap (λ (f : List ℕ). time_from f before text) (append-nil front) ∙ sym (time_from-append [] None front text))
      (from_no_more [] text None before tt)

  -- ---- all gaps

  times_no_more : (text rest : List ℕ) (piece whole : Option (List ℕ)) → TellsNoMore piece whole
      → TellNoMore (times_from text rest ++ piece ∷ []) (times_from (front ++ text) rest ++ whole ∷ [])
  times_no_more text [] piece whole more = last_no_more piece whole more
  times_no_more text (b ∷ rest) piece whole more =
      let own = times_from text (b ∷ rest) ++ piece ∷ [] in
      let time = time_behind (front ++ text) in
      let later = times_from ((front ++ text) ++ b ∷ []) rest in
      subst (λ (found : Bool). TellNoMore own ((one_if found time ++ later) ++ whole ∷ []))
      (sym (begins_there text b))
      (one_no_more (begins_word text b) (time_behind text) time (times_from (text ++ b ∷ []) rest) later (piece ∷ [])
      (whole ∷ []) (behind_no_more text)
      (subst (λ (f : List ℕ). TellNoMore (times_from (text ++ b ∷ []) rest ++ piece ∷ [])
      (times_from f rest ++ whole ∷ [])) (longer text b)
      (times_no_more (text ++ b ∷ []) rest piece whole more)))

  gaps_no_more : (text : List ℕ)
      → TellNoMore (gap_times text) (times_from front text ++ time_behind (front ++ text) ∷ [])
  gaps_no_more text =
      let whole = time_behind (front ++ text) in
      subst (λ (f : List ℕ). TellNoMore (gap_times text) (times_from f text ++ whole ∷ [])) (append-nil front)
      (times_no_more [] text (time_behind text) whole (behind_no_more text))

  -- the gaps of the piece come after the front's words
  at_there : (each : EachHasPlace) (text : List ℕ) (k : ℕ) → time_at (front ++ text) (length (words front) + k)
      ≡ get_or (times_from front text ++ time_behind (front ++ text) ∷ []) k None
  at_there each text k =
      let after = time_behind (front ++ text) ∷ [] in
      ap (λ (n : ℕ). time_at (front ++ text) (n + k)) (sym (counted each front))
      ∙ ap (λ (times : List (Option (List ℕ))). get_or (times ++ after) (length (word_times front) + k) None)
      (times_from-append [] front text)
      ∙ ap (λ (times : List (Option (List ℕ))). get_or times (length (word_times front) + k) None)
      (append_assoc (word_times front) (times_from front text) after)
      ∙ get_or-append-add (word_times front) (times_from front text ++ after) k None

-- ---- after a line

-- 10 is LF
abbrev EndsWithLine : List ℕ → Type 0
EndsWithLine front = (lines : List ℕ) × (front ≡ lines ++ codes "\n")

pub piece_no_more : (each : EachHasPlace) (front back : List ℕ) (k : ℕ) → EndsWithLine front
    → TellsNoMore (time_at back k) (time_at (front ++ back) (length (words front) + k))
piece_no_more each front back k (lines, is) =
    let between : EndsBetween front = subst EndsBetween (sym is)
    (open_cut lines 10 refl refl, ends_in_comment_by lines 10) in
    let start : line_behind front ≡ [] = ap line_behind is ∙ line_by lines 10 in
    subst (λ (time : Option (List ℕ)). TellsNoMore (time_at back k) time)
    (sym (at_there front between start each back k))
    (gaps_no_more front between start back k)
