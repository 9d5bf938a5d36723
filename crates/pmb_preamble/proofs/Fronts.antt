-- A text has one profile and one rest: the law `one_front`, and for `Limits`. Of two lines `%%`
-- the first is the one whose start is no later, and what comes after it is the same; a line starts
-- after an LF (byte 10).
use Rattle.std.proofs.Common.{◌≡◌, ℕ, ◌+◌, ◌<◌, ◌≤◌, List, [], ◌∷◌, ◌++◌, length, take, drop, get_or, codes, inl, inr}
use Rattle.std.proofs.Common.{refl, sym, ap, ◌∙◌, arith, append_assoc}
use Rattle.std.proofs.lemmas.List.{length-append, take_at, drop-append-le, append_cancel_left}
use Rattle.pmb_preamble.specs.Front.{IsMark, StartsLine, HasMark, FirstMark, IsFront}
use Rattle.pmb_preamble.proofs.Marks.{begins_with, mark_in_front, mark_stays}

-- the bytes of one text are those of another at each place
at : (place : ℕ) (x y : List ℕ) → x ≡ y → get_or x place 0 ≡ get_or y place 0
at place x y same = ap (λ (l : List ℕ). get_or l place 0) same

-- a line `%%` ends at the first LF after its start
ends_at_lf : (line seen rest after : List ℕ) → IsMark line → seen ++ 10 ∷ rest ≡ line ++ after
    → length line ≤ length seen + 1
ends_at_lf line [] rest after (inl lf) same = let apart : 10 ≡ 37 = at 0 (10 ∷ rest) (codes "%%\n" ++ after)
    (same ∙ ap (λ l. l ++ after) lf) in absurd (omega (arith, apart))
ends_at_lf line (a ∷ []) rest after (inl lf) same = let apart : 10 ≡ 37 = at 1 (a ∷ 10 ∷ rest) (codes "%%\n" ++ after)
    (same ∙ ap (λ l. l ++ after) lf) in absurd (omega (arith, apart))
ends_at_lf line (a ∷ b ∷ seen) rest after (inl lf) same = omega (arith, ap length lf)
ends_at_lf line [] rest after (inr cr_lf) same = let apart : 10 ≡ 37 = at 0 (10 ∷ rest) (codes "%%\r\n" ++ after)
    (same ∙ ap (λ l. l ++ after) cr_lf) in absurd (omega (arith, apart))
ends_at_lf line (a ∷ []) rest after (inr cr_lf) same = let apart : 10 ≡ 37 =
    at 1 (a ∷ 10 ∷ rest) (codes "%%\r\n" ++ after) (same ∙ ap (λ l. l ++ after) cr_lf) in absurd (omega (arith, apart))
ends_at_lf line (a ∷ b ∷ []) rest after (inr cr_lf) same = let apart : 10 ≡ 13 =
    at 2 (a ∷ b ∷ 10 ∷ rest) (codes "%%\r\n" ++ after) (same ∙ ap (λ l. l ++ after) cr_lf) in
    absurd (omega (arith, apart))
ends_at_lf line (a ∷ b ∷ d ∷ seen) rest after (inr cr_lf) same = omega (arith, ap length cr_lf)

-- a line that starts later starts after an LF that is no earlier than where another line starts
later_start : (text earlier rest after : List ℕ) → StartsLine text → text ++ rest ≡ earlier ++ after
    → length earlier < length text
    → (seen : List ℕ) × (text ≡ earlier ++ (seen ++ 10 ∷ []))
later_start text earlier rest after (inl empty) same later = absurd (omega (arith, ap length empty))
later_start text earlier rest after (inr ends) same later =
    let short : length earlier ≤ length ends.0 = omega (arith, ap length ends.1, length-append ends.0 (codes "\n")) in (
      drop (length earlier) ends.0,
      begins_with text rest earlier after same (omega arith)
          ∙ ap (λ l. earlier ++ l) (ap (drop (length earlier)) ends.1 ∙ drop-append-le (length earlier) ends.0
          (codes "\n") short),
    )

-- no line `%%` is before the first one
first_is_least : (text before after other line rest : List ℕ) → FirstMark text before after
    → HasMark text other line rest → length other < length before → ⊥
first_is_least text before after other line rest first mark earlier =
    let start = later_start before other (first.line ++ after) (line ++ rest) first.mark.starts
    (sym first.mark.whole ∙ mark.whole) earlier in
    let same : start.0 ++ 10 ∷ (first.line ++ after) ≡ line ++ rest =
    append_cancel_left other (start.0 ++ 10 ∷ (first.line ++ after)) (line ++ rest)
    (ap (λ l. other ++ l) (sym (append_assoc start.0 (10 ∷ []) (first.line ++ after)))
    ∙ (sym (append_assoc other (start.0 ++ 10 ∷ []) (first.line ++ after))
    ∙ (ap (λ l. l ++ (first.line ++ after)) (sym start.1) ∙ (sym first.mark.whole ∙ mark.whole)))) in
    let short : length line ≤ length start.0 + 1 =
    ends_at_lf line start.0 (first.line ++ after) rest mark.is_mark same in
    let within : length (other ++ line) ≤ length before =
    omega (
      arith,
      length-append other line,
      ap length start.1,
      length-append other (start.0 ++ 10 ∷ []),
      length-append start.0 (10 ∷ []),
    ) in
    first.none_before other line (drop (length (other ++ line)) before)
    (mark_in_front before (first.line ++ after) other line rest
    (record { whole = sym first.mark.whole ∙ mark.whole; starts = mark.starts; is_mark = mark.is_mark }) within)

-- of two lines `%%` at one place the same comes after them
same_after : (line other a b : List ℕ) → IsMark line → IsMark other → line ++ a ≡ other ++ b → a ≡ b
same_after line other a b (inl e) (inl f) same = append_cancel_left (codes "%%\n") a b
    (ap (λ l. l ++ a) (sym e) ∙ (same ∙ ap (λ l. l ++ b) f))
same_after line other a b (inl e) (inr f) same =
    let apart : 10 ≡ 13 = at 2 (codes "%%\n" ++ a) (codes "%%\r\n" ++ b)
    (ap (λ l. l ++ a) (sym e) ∙ (same ∙ ap (λ l. l ++ b) f)) in absurd (omega (arith, apart))
same_after line other a b (inr e) (inl f) same =
    let apart : 13 ≡ 10 = at 2 (codes "%%\r\n" ++ a) (codes "%%\n" ++ b)
    (ap (λ l. l ++ a) (sym e) ∙ (same ∙ ap (λ l. l ++ b) f)) in absurd (omega (arith, apart))
same_after line other a b (inr e) (inr f) same = append_cancel_left (codes "%%\r\n") a b
    (ap (λ l. l ++ a) (sym e) ∙ (same ∙ ap (λ l. l ++ b) f))

-- neither of two first lines is earlier
level : (m n : ℕ) → (m < n → ⊥) → (n < m → ⊥) → m ≡ n
level m n not_less not_more = omega (arith, not_less, not_more)

-- a text has one front
pub unique : (text p q a b : List ℕ) → IsFront text p a → IsFront text q b → (p ≡ q) × (a ≡ b)
unique text p q a b (inl first) (inl second) =
    let places : length p ≡ length q = level (length p) (length q)
    (first_is_least text q b p first.line a second first.mark)
    (first_is_least text p a q second.line b first second.mark) in
    let same : p ++ (first.line ++ a) ≡ q ++ (second.line ++ b) = sym first.mark.whole ∙ second.mark.whole in
    let fronts : p ≡ q = sym (take_at p (first.line ++ a) (length p) refl)
    ∙ (ap (take (length p)) same ∙ take_at q (second.line ++ b) (length p) (sym places)) in
    let behind : first.line ++ a ≡ second.line ++ b = append_cancel_left q (first.line ++ a) (second.line ++ b)
    (ap (λ l. l ++ (first.line ++ a)) (sym fronts) ∙ same) in
    (fronts, same_after first.line second.line a b first.mark.is_mark second.mark.is_mark behind)
unique text p q a b (inl first) (inr whole) = absurd (whole.none p first.line a first.mark)
unique text p q a b (inr whole) (inl first) = absurd (whole.none q first.line b first.mark)
unique text p q a b (inr first) (inr second) = (first.all ∙ sym second.all, first.nothing ∙ sym second.nothing)

-- more after a text leaves its first line `%%`
pub stays : (text p a more : List ℕ) → FirstMark text p a → FirstMark (text ++ more) p (a ++ more)
stays text p a more first = record {
  line = first.line;
  mark =
      mark_stays text more p first.line a first.mark;
  none_before = first.none_before;
}
