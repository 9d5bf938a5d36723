-- When the profile of a text may still be within the limit: for `may_fit`, `ends_in_line`, `front`
-- and the law `one_limit`. A text without a line `%%` may fit if it is within the limit, or if it
-- ends in the beginning of such a line that starts within it; a line has at most four bytes, so at
-- most three are past the limit.
use Rattle.std.proofs.Common.{◌≡◌, ◌⊎◌, ◌↔◌, Bool, IsTrue, ℕ, ◌+◌, ◌<◌, ◌≤◌, List, [], ◌∷◌, ◌++◌, length, drop, codes}
use Rattle.std.proofs.Common.{inl, inr, refl, sym, ap, ◌∙◌, subst, arith, append_assoc}
use Rattle.std.proofs.lemmas.List.{append-nil, length-append, append_cancel_left, append_cancel_right}
use Rattle.pmb_preamble.specs.Front.{EndsInLine, EndsInOpening, FirstMark, IsFront, IsMark, MayFit, NoMark, StartsLine}
use Rattle.pmb_preamble.specs.Front.{most_profile}
use Rattle.pmb_preamble.proofs.Fronts.{stays, unique}
use Rattle.pmb_preamble.proofs.Marks.{begins_with, by_order, mark_at_most, mark_in_front, mark_stays}

-- the beginning of a text without a line `%%` has none
none_at_beginning : (front more : List ℕ) → NoMark (front ++ more) → NoMark front
none_at_beginning front more none before line after mark =
    none before line (after ++ more) (mark_stays front more before line after mark)

-- ---- what may fit

-- a text within the limit, with nothing after it
pub short_fits : (text : List ℕ) → NoMark text → length text ≤ most_profile → MayFit text
short_fits text none short = record {
  more = [];
  profile = text;
  rest = [];
  front = inr (record {
    none = subst NoMark (sym (append-nil text)) none;
    all = sym (append-nil text);
    nothing =
        refl;
  });
  within = short;
}

-- a text that ends in the front of a line `%%`, with the line's other bytes after it
completed : (text before tail more : List ℕ) → NoMark text → text ≡ before ++ tail → StartsLine before
    → length before ≤ most_profile → IsMark (tail ++ more) → MayFit text
completed text before tail more none whole starts within is_mark = record {
  more = more;
  profile = before;
  rest = [];
  front = inl (record {
    line = tail ++ more;
    mark = record {
      whole = ap (λ l. l ++ more) whole ∙ (append_assoc before tail more
          ∙ ap (λ l. before ++ l) (sym (append-nil (tail ++ more))));
      starts = starts;
      is_mark = is_mark;
    };
    none_before = none_at_beginning before tail (subst NoMark whole none);
  });
  within = within;
}

pub opening_fits : (text : List ℕ) → NoMark text → EndsInOpening text → MayFit text
opening_fits text none (inl one) = completed text one.before (codes "%") (codes "%\n") none one.whole one.starts
    one.within (inl refl)
opening_fits text none (inr (inl two)) = completed text two.before (codes "%%") (codes "\n") none two.whole two.starts
    two.within (inl refl)
opening_fits text none (inr (inr three)) = completed text three.before (codes "%%\r")
    (codes "\n") none three.whole three.starts three.within (inr refl)

-- ---- what may not

-- a first line `%%` that is not in the text ends after it
ends_after : (text more before after : List ℕ) (first : FirstMark (text ++ more) before after) → NoMark text
    → length text < length before + length first.line
ends_after text more before after first none =
    let behind : length text < length (before ++ first.line) =
    by_order (length text) (length (before ++ first.line))
    (λ within. none before first.line (drop (length (before ++ first.line)) text)
    (mark_in_front text more before first.line after first.mark within)) in
    omega (arith, length-append before first.line)

-- a line that starts after the one front that these bytes leave
pub in_line : (text tail before : List ℕ) (starts : Bool) → text ≡ before ++ tail → length before ≤ most_profile
    → IsTrue starts ↔ StartsLine before
    → IsTrue starts ↔ EndsInLine text tail
in_line text tail before starts whole within told = (
  (λ yes. record { before = before; whole = whole; starts = told.0 yes; within = within }),
  λ ends. told.1 (subst StartsLine (append_cancel_right ends.before before tail (sym ends.whole ∙ whole)) ends.starts),
)

-- the front of a line `%%`, cut before its end
opening_of : (line seen more after : List ℕ) → IsMark line → seen ++ more ≡ line ++ after → 0 < length seen
    → length seen < length line
    → (seen ≡ codes "%") ⊎ ((seen ≡ codes "%%") ⊎ (seen ≡ codes "%%\r"))
opening_of line [] more after is_mark same some part = absurd (omega arith)
opening_of line (a ∷ []) more after (inl lf) same some part = let e : a ∷ more ≡ codes "%%\n" ++ after = same
    ∙ ap (λ l. l ++ after) lf in inl (cc)
opening_of line (a ∷ b ∷ []) more after (inl lf) same some part = let e : a ∷ b ∷ more ≡ codes "%%\n" ++ after = same
    ∙ ap (λ l. l ++ after) lf in inr (inl (cc))
opening_of line (a ∷ b ∷ d ∷ seen) more after (inl lf) same some part = absurd (omega (arith, ap length lf))
opening_of line (a ∷ []) more after (inr cr_lf) same some part = let e : a ∷ more ≡ codes "%%\r\n" ++ after = same
    ∙ ap (λ l. l ++ after) cr_lf in inl (cc)
opening_of line (a ∷ b ∷ []) more after (inr cr_lf) same some part = let e : a ∷ b ∷ more ≡ codes "%%\r\n" ++ after =
    same ∙ ap (λ l. l ++ after) cr_lf in inr (inl (cc))
opening_of line (a ∷ b ∷ d ∷ []) more after (inr cr_lf) same some part = let e : a ∷ b ∷ d ∷ more ≡ codes "%%\r\n"
    ++ after = same ∙ ap (λ l. l ++ after) cr_lf in inr (inr (cc))
opening_of line (a ∷ b ∷ d ∷ f ∷ seen) more after (inr cr_lf) same some part = absurd (omega (arith, ap length cr_lf))

-- by which of them it is
as_opening : (text before seen : List ℕ) → text ≡ before ++ seen → StartsLine before → length before ≤ most_profile
    → (seen ≡ codes "%") ⊎ ((seen ≡ codes "%%") ⊎ (seen ≡ codes "%%\r")) → EndsInOpening text
as_opening text before seen whole starts within (inl one) =
    inl (record { before = before; whole = whole ∙ ap (λ l. before ++ l) one; starts = starts; within = within })
as_opening text before seen whole starts within (inr (inl two)) =
    inr (inl (record { before = before; whole = whole ∙ ap (λ l. before ++ l) two; starts = starts; within = within }))
as_opening text before seen whole starts within (inr (inr three)) =
    inr (inr (record {
      before = before;
      whole = whole ∙ ap (λ l. before ++ l) three;
      starts = starts;
      within =
          within;
    }))

-- past the limit, a line `%%` within it has begun
begun : (text more profile rest : List ℕ) → NoMark text → most_profile < length text
    → IsFront (text ++ more) profile rest → length profile ≤ most_profile → EndsInOpening text
begun text more profile rest none long (inr all) within =
    absurd (omega (arith, ap length all.all, length-append text more))
begun text more profile rest none long (inl first) within =
    let seen = drop (length profile) text in
    let behind = ends_after text more profile rest first none in
    let whole : text ≡ profile ++ seen = begins_with text more profile (first.line ++ rest) first.mark.whole
    (omega arith) in
    let same : seen ++ more ≡ first.line ++ rest =
    append_cancel_left profile (seen ++ more) (first.line ++ rest)
    (sym (append_assoc profile seen more) ∙ (ap (λ l. l ++ more) (sym whole) ∙ first.mark.whole)) in
    let parts : length text ≡ length profile + length seen = ap length whole ∙ length-append profile seen in
    as_opening text profile seen whole first.mark.starts within
    (opening_of first.line seen more rest first.mark.is_mark same (omega arith) (omega arith))

-- which of two numbers is greater
either : (m n : ℕ) → (m ≤ n) ⊎ (n < m)
either m n = search (arith)

fits_so : (text : List ℕ) → NoMark text → MayFit text → (length text ≤ most_profile) ⊎ (most_profile < length text)
    → (length text ≤ most_profile) ⊎ EndsInOpening text
fits_so text none fit (inl short) = inl short
fits_so text none fit (inr long) = inr (begun text fit.more fit.profile fit.rest none long fit.front fit.within)

so_fits : (text : List ℕ) → NoMark text → (length text ≤ most_profile) ⊎ EndsInOpening text → MayFit text
so_fits text none (inl short) = short_fits text none short
so_fits text none (inr opening) = opening_fits text none opening

pub fits : (text : List ℕ) → NoMark text → MayFit text ↔ ((length text ≤ most_profile) ⊎ EndsInOpening text)
fits text none = ((λ fit. fits_so text none fit (either (length text) most_profile)), so_fits text none)

-- a text past the limit
pub fits_past : (text : List ℕ) (opening : Bool) → NoMark text → most_profile < length text → IsTrue opening
    ↔ EndsInOpening text → IsTrue opening ↔ MayFit text
fits_past text opening none long told = (
  (λ yes. opening_fits text none (told.0 yes)),
  λ fit. told.1 (begun text fit.more fit.profile fit.rest none long fit.front fit.within),
)

-- what may fit is at most three bytes past the limit
is_short : (text more profile rest : List ℕ) → NoMark text → IsFront (text ++ more) profile rest
    → length profile ≤ most_profile → length text < most_profile + 4
is_short text more profile rest none (inr all) within = omega (arith, ap length all.all, length-append text more)
is_short text more profile rest none (inl first) within =
    omega (arith, ends_after text more profile rest first none, mark_at_most first.line first.mark.is_mark)

pub fit_is_short : (text : List ℕ) → NoMark text → MayFit text → length text < most_profile + 4
fit_is_short text none fit = is_short text fit.more fit.profile fit.rest none fit.front fit.within

pub long_cannot_fit : (text : List ℕ) → NoMark text → most_profile + 4 ≤ length text → MayFit text → ⊥
long_cannot_fit text none long fit = absurd (omega (arith, fit_is_short text none fit))

-- a first line `%%` past the limit stays the first
pub late_cannot_fit : (text p a : List ℕ) → FirstMark text p a → most_profile < length p → MayFit text → ⊥
late_cannot_fit text p a first late fit =
    let same = unique (text ++ fit.more) p fit.profile (a ++ fit.more) fit.rest (inl (stays text p a fit.more first))
    fit.front in
    absurd (omega (arith, ap length same.0, fit.within))

-- what cannot fit stays so
pub none_fits_later : (text more : List ℕ) → (MayFit text → ⊥) → MayFit (text ++ more) → ⊥
none_fits_later text more none fit = none (record {
  more = more ++ fit.more;
  profile = fit.profile;
  rest = fit.rest;
  front = subst (λ (t : List ℕ). IsFront t fit.profile fit.rest) (append_assoc text more fit.more) fit.front;
  within = fit.within;
})
