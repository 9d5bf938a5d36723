-- Lines `%%` in a text and in a front of it: for `find_mark`, `mark_start`, `starts_line`, `front`
-- and the laws `one_front` and `one_limit`. Such a line has three or four bytes and ends in LF
-- (byte 10), so that the first one is seen at an LF, by what stands before it without a CR.
use Rattle.std.proofs.Common.{◌≡◌, ◌⊎◌, ℕ, Bool, true, false, eqb, ◌+◌, ◌<◌, ◌≤◌, List, [], ◌∷◌, ◌++◌, length, take}
use Rattle.std.proofs.Common.{drop, get_or, codes, inl, inr, refl, sym, ap, ◌∙◌, subst, arith, append_assoc}
use Rattle.std.specs.Prelude.{◌==◌}
use Rattle.std.proofs.lemmas.Bool.{cases_eq, ne_eqb}
use Rattle.std.proofs.lemmas.Bool.Decides.{nat_tests}
use Rattle.std.proofs.lemmas.List.{append-nil, length-append, take-append-drop, take_at, drop_at, take-append-le}
use Rattle.std.proofs.lemmas.List.{take-take, take_more, same_from_push, length-take-le}
use Rattle.pmb_io.specs.Lines.{carriage_return, without_cr}
use Rattle.pmb_preamble.specs.Front.{IsMark, StartsLine, HasMark, NoMark, FirstMark}
use Rattle.pmb_preamble.specs.machine.Front.{NoneEndsWithin, EndsInMark}

-- a line `%%` has three or four bytes
pub mark_at_least : (line : List ℕ) → IsMark line → 3 ≤ length line
mark_at_least line (inl lf) = omega (arith, ap length lf)
mark_at_least line (inr cr_lf) = omega (arith, ap length cr_lf)

pub mark_at_most : (line : List ℕ) → IsMark line → length line ≤ 4
mark_at_most line (inl lf) = omega (arith, ap length lf)
mark_at_most line (inr cr_lf) = omega (arith, ap length cr_lf)

-- a line `%%` ends in LF
pub mark_ends : (line : List ℕ) → IsMark line → (front : List ℕ) × (line ≡ front ++ 10 ∷ [])
mark_ends line (inl lf) = (codes "%%", lf)
mark_ends line (inr cr_lf) = (codes "%%\r", cr_lf)

-- no text, no such line
pub none_in_nothing : NoMark []
none_in_nothing before line after mark =
    absurd (omega (
      arith,
      ap length mark.whole,
      length-append before (line ++ after),
      length-append line after,
      mark_at_least line mark.is_mark,
    ))

-- a list that ends no earlier than another begins with it, where both are fronts of one list
pub begins_with : (s t x y : List ℕ) → s ++ t ≡ x ++ y → length x ≤ length s → s ≡ x ++ drop (length x) s
begins_with s t x y same within =
    let front : take (length x) s ≡ x = sym (take-append-le (length x) s t within)
    ∙ (ap (take (length x)) same ∙ take_at x y (length x) refl) in
    sym (take-append-drop (length x) s) ∙ ap (λ l. l ++ drop (length x) s) front

-- a line `%%` that ends within a front is one of the front
pub mark_in_front : (text more before line after : List ℕ) → HasMark (text ++ more) before line after
    → length (before ++ line) ≤ length text
    → HasMark text before line (drop (length (before ++ line)) text)
mark_in_front text more before line after mark within = record {
  whole = begins_with text more (before ++ line) after (mark.whole ∙ sym (append_assoc before line after)) within
      ∙ append_assoc before line (drop (length (before ++ line)) text);
  starts = mark.starts;
  is_mark = mark.is_mark;
}

-- more after a text changes no line `%%` of it
pub mark_stays : (text more before line after : List ℕ) → HasMark text before line after
    → HasMark (text ++ more) before line (after ++ more)
mark_stays text more before line after mark = record {
  whole = ap (λ l. l ++ more) mark.whole ∙ (append_assoc before (line ++ after) more
      ∙ ap (λ l. before ++ l) (append_assoc line after more));
  starts = mark.starts;
  is_mark = mark.is_mark;
}

-- with more after it, a text without such a line has none that ends within it
pub none_with_more : (text more : List ℕ) → NoMark text → NoneEndsWithin (text ++ more) (length text)
none_with_more text more none before line after mark within =
    none before line (drop (length (before ++ line)) text) (mark_in_front text more before line after mark within)

-- where none ends within a count, none is in a front that is no longer
pub none_in_front : (front more : List ℕ) (count : ℕ) → NoneEndsWithin (front ++ more) count → length front ≤ count
    → NoMark front
none_in_front front more count none short before line after mark =
    let ends : length front ≡ length (before ++ line) + length after =
    ap length (mark.whole ∙ sym (append_assoc before line after)) ∙ length-append (before ++ line) after in
    none before line (after ++ more) (mark_stays front more before line after mark) (omega arith)

-- none that ends within all of the text is none at all
pub none_at_end : (text : List ℕ) (count : ℕ) → length text ≤ count → NoneEndsWithin text count → NoMark text
none_at_end text count all none before line after mark =
    none before line after mark (omega (
      arith,
      ap length (mark.whole ∙ sym (append_assoc before line after)),
      length-append (before ++ line) after,
    ))

-- what is not at most a number is more
pub by_order : (m n : ℕ) → (n ≤ m → ⊥) → m < n
by_order m n not_at_most = omega (arith, not_at_most)

-- a line ends later than where none ends
not_within : (text : List ℕ) (count : ℕ) → NoneEndsWithin text count → (before line after : List ℕ)
    → HasMark text before line after → count < length (before ++ line)
not_within text count none before line after mark = by_order count (length (before ++ line))
    (none before line after mark)

-- none ends within one byte more, where the bytes up to it do not end in such a line
pub none_one_further : (text : List ℕ) (i : ℕ) → i < length text → NoneEndsWithin text i
    → ((before line : List ℕ) → HasMark (take i text ++ get_or text i 0 ∷ []) before line [] → ⊥)
    → NoneEndsWithin text (i + 1)
none_one_further text i in_text none not_here before line after mark within =
    let later : i < length (before ++ line) = not_within text i none before line after mark in
    let at : length (before ++ line) ≡ i + 1 = omega arith in
    let front : take i text ++ get_or text i 0 ∷ [] ≡ before ++ line =
    sym (take_more text i 0 in_text) ∙ (ap (take (i + 1)) (mark.whole ∙ sym (append_assoc before line after))
    ∙ take_at (before ++ line) after (i + 1) at) in
    not_here before line (record {
      whole = front ∙ ap (λ l. before ++ l) (sym (append-nil line));
      starts =
          mark.starts;
      is_mark = mark.is_mark;
    })

-- a byte that is not LF ends no such line
pub ends_in_lf : (front before line : List ℕ) (byte : ℕ) → HasMark (front ++ byte ∷ []) before line [] → byte ≡ 10
ends_in_lf front before line byte mark =
    let ends = mark_ends line mark.is_mark in
    let whole : front ++ byte ∷ [] ≡ (before ++ ends.0) ++ 10 ∷ [] =
    mark.whole ∙ (ap (λ l. before ++ l) (append-nil line ∙ ends.1) ∙ sym (append_assoc before ends.0 (10 ∷ []))) in
    (same_from_push front (before ++ ends.0) byte 10 whole).1

-- the first line `%%`, seen at its LF
pub first_at : (text : List ℕ) (i start : ℕ) → i < length text → get_or text i 0 ≡ 10 → NoneEndsWithin text i
    → start ≤ i → EndsInMark (take i text) start
    → FirstMark text (take start text) (drop (i + 1) text)
first_at text i start in_text lf none within ends =
    let line = drop start (take i text) ++ codes "\n" in
    let before_is : take start (take i text) ≡ take start text = take-take start i text within in
    let front : take (i + 1) text ≡ take start text ++ line =
    take_more text i 0 in_text ∙ (ap (λ b. take i text ++ b ∷ []) lf
    ∙ (ends.whole ∙ (ap (λ l. take start (take i text) ++ l) (append-nil line) ∙ ap (λ l. l ++ line) before_is))) in
    let whole : text ≡ take start text ++ (line ++ drop (i + 1) text) =
    sym (take-append-drop (i + 1) text) ∙ (ap (λ l. l ++ drop (i + 1) text) front ∙ append_assoc (take start text) line
    (drop (i + 1) text)) in record {
      line = line;
      mark = record { whole = whole; starts = subst StartsLine before_is ends.starts; is_mark = ends.is_mark };
      none_before = none_in_front (take start text) (drop start text) i
          (subst (λ (t : List ℕ). NoneEndsWithin t i) (sym (take-append-drop start text)) none)
          (omega (arith, length-take-le start text (omega arith)));
    }

-- a text that ends in a line `%%` but for its LF
ends_in_mark : (text before tail : List ℕ) → text ≡ before ++ tail → IsMark (tail ++ codes "\n") → StartsLine before
    → EndsInMark text (length before)
ends_in_mark text before tail whole is_mark starts =
    let n = length before in
    let before_is : take n text ≡ before = ap (take n) whole ∙ take_at before tail n refl in
    let tail_is : drop n text ≡ tail = ap (drop n) whole ∙ drop_at before tail n refl in record {
      whole = ap (λ l. l ++ codes "\n") (sym (take-append-drop n text))
          ∙ (append_assoc (take n text) (drop n text) (codes "\n")
          ∙ ap (λ l. take n text ++ l) (sym (append-nil (drop n text ++ codes "\n"))));
      starts = subst StartsLine (sym before_is) starts;
      is_mark = subst (λ (t : List ℕ). IsMark (t ++ codes "\n")) (sym tail_is) is_mark;
    }

-- without the CR at the end, or the same where there is none
abbrev WithoutReturn : List ℕ → List ℕ → Type 0
WithoutReturn text line = (text ≡ line ++ codes "\r")
    ⊎ ((line ≡ text) × ((front : List ℕ) → text ≡ front ++ codes "\r" → ⊥))

-- what does not end in CR does not with one byte more before it
not_in_tail : (byte next : ℕ) (text front : List ℕ) → ((before : List ℕ) → next ∷ text ≡ before ++ codes "\r" → ⊥)
    → byte ∷ next ∷ text ≡ front ++ codes "\r" → ⊥
not_in_tail byte next text [] none ends = absurd (omega (arith, ap length ends))
not_in_tail byte next text (b ∷ front) none ends = let tail : next ∷ text ≡ front ++ codes "\r" = cc in none front tail

-- and with one more before it
dropped_later : (byte next : ℕ) (text line : List ℕ) → WithoutReturn (next ∷ text) line
    → WithoutReturn (byte ∷ next ∷ text) (byte ∷ line)
dropped_later byte next text line (inl return) = inl (ap (λ l. byte ∷ l) return)
dropped_later byte next text line (inr none) =
    inr (ap (λ l. byte ∷ l) none.0, λ front ends. not_in_tail byte next text front none.1 ends)

-- what is left of a text that loses its CR
dropped : (text : List ℕ) → WithoutReturn text (without_cr text)
unfolding without_cr
dropped [] = inr (refl, λ front ends. absurd (omega (arith, ap length ends, length-append front (codes "\r"))))
dropped (byte ∷ []) = elim (cases_eq byte carriage_return) [
  | inl same ↦ subst (λ (b : ℕ). WithoutReturn (b ∷ []) (without_cr (b ∷ []))) (sym same) (inl refl)
  | inr other ↦
      let test : eqb byte carriage_return ≡ false = ne_eqb byte carriage_return other in
      rw test (inr (refl, λ front ends. other (same_from_push [] front byte carriage_return ends).1))
]
dropped (byte ∷ next ∷ text) = dropped_later byte next text (without_cr (next ∷ text)) (dropped (next ∷ text))

-- where the text ends in `%%` at the start of a line, with CR after it or not, an LF ends a line
-- `%%`
found_in : (text line before : List ℕ) → WithoutReturn text line → line ≡ before ++ codes "%%" → StartsLine before
    → EndsInMark text (length before)
found_in text line before (inl return) ends starts =
    ends_in_mark text before (codes "%%\r") (return
    ∙ (ap (λ l. l ++ codes "\r") ends ∙ append_assoc before (codes "%%") (codes "\r"))) (inr refl) starts
found_in text line before (inr none) ends starts = ends_in_mark text before (codes "%%") (sym none.0 ∙ ends)
    (inl refl) starts

pub found : (text line before : List ℕ) → line ≡ without_cr text → line ≡ before ++ codes "%%" → StartsLine before
    → EndsInMark text (length before)
found text line before is ends starts = found_in text line before (subst (WithoutReturn text) (sym is) (dropped text))
    ends starts

-- without it a text is no longer
no_longer : (text line : List ℕ) → WithoutReturn text line → length line ≤ length text
no_longer text line (inl return) = omega (arith, ap length return, length-append line (codes "\r"))
no_longer text line (inr none) = omega (arith, ap length none.0)

pub within_line : (text line before tail : List ℕ) → line ≡ without_cr text → line ≡ before ++ tail
    → length before ≤ length text
within_line text line before tail is ends =
    omega (
      arith,
      no_longer text line (subst (WithoutReturn text) (sym is) (dropped text)),
      ap length ends,
      length-append before tail,
    )

-- what is before the LF of a line
before_lf : (text before front line : List ℕ) → line ≡ front ++ 10 ∷ [] → text ++ 10 ∷ [] ≡ before ++ (line ++ [])
    → text ≡ before ++ front
before_lf text before front line ends whole =
    (same_from_push text (before ++ front) 10 10
    (whole ∙ (ap (λ l. before ++ l) (append-nil line ∙ ends) ∙ sym (append_assoc before front (10 ∷ []))))).0

-- the same, by the ends of both
by_ends : (text line before mark : List ℕ) → WithoutReturn text line → text ++ 10 ∷ [] ≡ before ++ (mark ++ [])
    → IsMark mark → line ≡ before ++ codes "%%"
by_ends text line before mark (inl return) whole (inl lf) =
    let text_is : text ≡ before ++ codes "%%" = before_lf text before (codes "%%") mark lf whole in
    let apart : 13 ≡ 37 = (same_from_push line (before ++ codes "%") 13 37
    (sym return ∙ (text_is ∙ sym (append_assoc before (codes "%") (codes "%"))))).1 in
    absurd (omega (arith, apart))
by_ends text line before mark (inr none) whole (inl lf) = none.0 ∙ before_lf text before (codes "%%") mark lf whole
by_ends text line before mark (inl return) whole (inr cr_lf) =
    let text_is : text ≡ before ++ codes "%%\r" = before_lf text before (codes "%%\r") mark cr_lf whole in
    (same_from_push line (before ++ codes "%%") 13 13
    (sym return ∙ (text_is ∙ sym (append_assoc before (codes "%%") (codes "\r"))))).0
by_ends text line before mark (inr none) whole (inr cr_lf) =
    let text_is : text ≡ before ++ codes "%%\r" = before_lf text before (codes "%%\r") mark cr_lf whole in
    absurd (none.1 (before ++ codes "%%") (text_is ∙ sym (append_assoc before (codes "%%") (codes "\r"))))

-- where an LF ends a line `%%`, the text without a CR at its end ends in `%%`
pub stripped : (text line before mark : List ℕ) → line ≡ without_cr text → HasMark (text ++ 10 ∷ []) before mark []
    → line ≡ before ++ codes "%%"
stripped text line before mark is has = by_ends text line before mark
    (subst (WithoutReturn text) (sym is) (dropped text)) has.whole has.is_mark

-- where a line starts after bytes that are there, they end in LF
pub line_ends : (before : List ℕ) (empty ends : Bool) → empty ≡ (length before == 0) → empty ≡ false
    → ((front : List ℕ) → before ≡ front ++ codes "\n" → ends ≡ true) → StartsLine before → ends ≡ true
line_ends before empty ends empty_is not_empty told (inl nothing) = let none : length before ≡ 0 = ap length nothing in
    absurd (grind (arith, nat_tests))
line_ends before empty ends empty_is not_empty told (inr lines) = told lines.0 lines.1
