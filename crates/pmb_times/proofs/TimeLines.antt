-- A line tells a time exactly where it is a time line: for the law `time_lines_tell_their_time`. Each
-- part that is taken off a line, a CR, `# ` and ` s`, stood there; and no time has one of them in it.
use Rattle.std.proofs.Common.{◌≡◌, ℕ, ◌≤◌, ◌==◌, ◌&&◌, ◌⊎◌, ◌↔◌, not, Bool, true, false, inl, inr, cond, Option}
use Rattle.std.proofs.Common.{Some, None, IfSome}
use Rattle.std.proofs.Common.{List, [], ◌∷◌, ◌++◌, length, refl, subst, sym, ap, ◌∙◌}
use Rattle.std.specs.List.{list_all}
use Rattle.std.specs.Option.{option_map}
use Rattle.std.specs.Prelude.{nat_le}
use Rattle.std.proofs.lemmas.Bool.{and_from, and_parts, cases_eq, eqb-true, false≢true, le-leb, leb-true}
use Rattle.std.proofs.lemmas.Bool.{ne_eqb}
use Rattle.std.proofs.lemmas.List.{append-nil}
use Rattle.std.proofs.lemmas.List.Folds.{list_all-append}
use Rattle.pmb_times.specs.Line.{before_unit, comment_time, is_iso_time, is_seconds, is_time_byte, line_time}
use Rattle.pmb_times.specs.Line.{marked_time}
use Rattle.pmb_times.specs.Line.{time_if, time_with_unit, without_return}
use Rattle.pmb_times.specs.TimeLine.{IsIsoLine, IsLineEnd, IsSecondsLine, IsTimeLine}
use Rattle.pmb_times.proofs.Lines.{iso_is, list_all_more, no_unit, return_dropped, seconds_are, unit_dropped}

-- ---- what was taken off stood there

-- 13 is CR
record Ended (line : List ℕ) : Type 0 where
  pub end : List ℕ
  pub ends : IsLineEnd end
  pub split : line ≡ without_return line ++ end

ended_one : (b : ℕ) (v : Bool) → (b == 13) ≡ v → Ended (b ∷ [])
ended_one b true is = record {
  end = 13 ∷ [];
  ends = inr refl;
  split = ap (λ (c : ℕ). c ∷ []) (eqb-true b 13 is) ∙ ap (λ (v : Bool). cond v [] (b ∷ []) ++ 13 ∷ []) (sym is);
}
ended_one b false is = record {
  end = [];
  ends = inl refl;
  split = ap (λ (v : Bool). cond v [] (b ∷ []) ++ []) (sym is);
}

ended : (line : List ℕ) → Ended line
ended [] = record { end = []; ends = inl refl; split = refl }
ended (b ∷ []) = ended_one b (b == 13) refl
ended (b ∷ next ∷ line) =
    let rest = ended (next ∷ line) in
    record { end = rest.end; ends = rest.ends; split = ap (λ (l : List ℕ). b ∷ l) rest.split }

-- 32 is a space, 115 the letter s
abbrev HadUnit : List ℕ → Option (List ℕ) → Type 0
HadUnit text front = IfSome front (λ (time : List ℕ). text ≡ time ++ 32 ∷ 115 ∷ [])

unit_with : (a : ℕ) (text : List ℕ) (front : Option (List ℕ)) → HadUnit text front
    → HadUnit (a ∷ text) (option_map (λ (time : List ℕ). a ∷ time) front)
unit_with a text (Some time) had = ap (λ (l : List ℕ). a ∷ l) had
unit_with a text None had = tt

unit_of_two : (a b : ℕ) (v : Bool) → (a == 32 && b == 115) ≡ v → HadUnit (a ∷ b ∷ []) (cond v (Some []) None)
unit_of_two a b true is =
    let parts = and_parts (a == 32) (b == 115) is in
    ap (λ (c : ℕ). c ∷ b ∷ []) (eqb-true a 32 parts.0) ∙ ap (λ (c : ℕ). 32 ∷ c ∷ []) (eqb-true b 115 parts.1)
unit_of_two a b false is = tt

had_unit : (text : List ℕ) → HadUnit text (before_unit text)
had_unit [] = tt
had_unit (a ∷ []) = tt
had_unit (a ∷ b ∷ []) = unit_of_two a b (a == 32 && b == 115) refl
had_unit (a ∷ b ∷ c ∷ text) = unit_with a (b ∷ c ∷ text) (before_unit (b ∷ c ∷ text)) (had_unit (b ∷ c ∷ text))

-- ---- what a line that tells a time is

-- a time that is told was tested so
record Tested (is : Bool) (text time : List ℕ) : Type 0 where
  pub is_so : is ≡ true
  pub same : text ≡ time
  pub short : length time ≤ 40

tested_if : (is v : Bool) (text time : List ℕ) → nat_le (length text) 40 ≡ v
    → cond (is && v) (Some text) None ≡ Some time
    → Tested is text time
tested_if true true text time short told =
    let same : text ≡ time = cc told in
    let within : length text ≤ 40 = leb-true (length text) 40 short in
    record { is_so = refl; same = same; short = subst (λ (t : List ℕ). length t ≤ 40) same within }
tested_if true false text time short told = cc told
tested_if false v text time short told = cc told

tested : (is : Bool) (text time : List ℕ) → time_if is text ≡ Some time → Tested is text time
tested is text time told = tested_if is (nat_le (length text) 40) text time refl told

-- after `# `
abbrev Says : List ℕ → List ℕ → Type 0
Says text time = (length time ≤ 40) × (((is_seconds time ≡ true) × (text ≡ time ++ 32 ∷ 115 ∷ []))
    ⊎ ((is_iso_time time ≡ true) × (text ≡ time)))

says_with : (front : Option (List ℕ)) (text time : List ℕ) → HadUnit text front
    → time_with_unit front text ≡ Some time
    → Says text time
says_with (Some front) text time had told =
    let so = tested (is_seconds front) front time told in (
      so.short,
      inl (ap is_seconds (sym so.same) ∙ so.is_so, had ∙ ap (λ (l : List ℕ). l ++ 32 ∷ 115 ∷ []) so.same),
    )
says_with None text time had told =
    let so = tested (is_iso_time text) text time told in
    (so.short, inr (ap is_iso_time (sym so.same) ∙ so.is_so, so.same))

-- 35 is `#`
record Marked (line time : List ℕ) : Type 0 where
  pub text : List ℕ
  pub split : line ≡ 35 ∷ 32 ∷ text
  pub says : Says text time

marked_if : (a b : ℕ) (text time : List ℕ) (v : Bool) → (a == 35 && b == 32) ≡ v
    → cond v (comment_time text) None ≡ Some time
    → Marked (a ∷ b ∷ text) time
marked_if a b text time true is told =
    let parts = and_parts (a == 35) (b == 32) is in record {
      text = text;
      split = ap (λ (c : ℕ). c ∷ b ∷ text) (eqb-true a 35 parts.0)
          ∙ ap (λ (c : ℕ). 35 ∷ c ∷ text) (eqb-true b 32 parts.1);
      says = says_with (before_unit text) text time (had_unit text) told;
    }
marked_if a b text time false is told = cc told

marked : (line time : List ℕ) → marked_time line ≡ Some time → Marked line time
marked [] time told = cc told
marked (a ∷ []) time told = cc told
marked (a ∷ b ∷ text) time told = marked_if a b text time (a == 35 && b == 32) refl told

-- with its end
says_line : (line front text time end : List ℕ) → line ≡ front ++ end → front ≡ 35 ∷ 32 ∷ text → IsLineEnd end
    → Says text time
    → IsTimeLine line time
says_line line front text time end split mark ends (short, says) =
    let whole : line ≡ 35 ∷ 32 ∷ (text ++ end) = split ∙ ap (λ (l : List ℕ). l ++ end) mark in record {
      end = end;
      ends = ends;
      short = short;
      says = elim says [
        | inl seconds ↦ inl
            (seconds.0, whole ∙ ap (λ (l : List ℕ). 35 ∷ 32 ∷ (l ++ end)) seconds.1)
        | inr iso ↦ inr (iso.0, whole ∙ ap (λ (l : List ℕ). 35 ∷ 32 ∷ (l ++ end)) iso.1)
      ];
    }

is_line : (line time : List ℕ) → line_time line ≡ Some time → IsTimeLine line time
is_line line time told =
    let off = ended line in
    let said = marked (without_return line) time told in
    says_line line (without_return line) said.text time off.end off.split said.split off.ends said.says

-- ---- what a time line tells

abbrev is_no_return : ℕ → Bool
is_no_return b = not (b == 13)

no_return : (b : ℕ) → is_time_byte b ≡ true → is_no_return b ≡ true
no_return b is =
    elim (cases_eq b 13) [
      | inl return ↦ absurd (false≢true (sym (ap is_time_byte return) ∙ is))
      | inr other ↦ ap not (ne_eqb b 13 other)
    ]

-- bytes without CR stay
kept_one : (b : ℕ) (v : Bool) → (b == 13) ≡ v → not v ≡ true → cond v [] (b ∷ []) ≡ b ∷ []
kept_one b true is none = absurd (false≢true none)
kept_one b false is none = refl

kept : (line : List ℕ) → list_all is_no_return line ≡ true → without_return line ≡ line
kept [] none = refl
kept (b ∷ []) none = kept_one b (b == 13) refl (and_parts (is_no_return b) true none).0
kept (b ∷ next ∷ line) none =
    ap (λ (l : List ℕ). b ∷ l)
    (kept (next ∷ line) (and_parts (is_no_return b) (list_all is_no_return (next ∷ line)) none).1)

-- a line without CR, and an end
off : (line end : List ℕ) → list_all is_no_return line ≡ true → IsLineEnd end → without_return (line ++ end) ≡ line
off line end none ends =
    elim ends [
      | inl is ↦ ap (λ (l : List ℕ). without_return (line ++ l)) is
          ∙ ap without_return (append-nil line)
          ∙ kept line none
      | inr is ↦ ap (λ (l : List ℕ). without_return (line ++ l)) is ∙ return_dropped line
    ]

-- a time has no unit in it
no_space : (time front : List ℕ) → list_all is_time_byte time ≡ true → time ≡ front ++ 32 ∷ 115 ∷ [] → ⊥
no_space time front all is =
    let split : (list_all is_time_byte front && false) ≡ true =
    sym (list_all-append is_time_byte front (32 ∷ 115 ∷ [])) ∙ ap (list_all is_time_byte) (sym is) ∙ all in
    false≢true (and_parts (list_all is_time_byte front) false split).1

time_told : (is : Bool) (time : List ℕ) → is ≡ true → length time ≤ 40 → time_if is time ≡ Some time
time_told is time so short =
    ap (λ (v : Bool). cond (v && nat_le (length time) 40) (Some time) None) so
    ∙ ap (λ (v : Bool). cond v (Some time) None) (le-leb (length time) 40 short)

seconds_told : (line time end : List ℕ) → IsLineEnd end → length time ≤ 40 → IsSecondsLine line time end
    → line_time line ≡ Some time
seconds_told line time end ends short (seconds, is) =
    let front = 35 ∷ 32 ∷ (time ++ 32 ∷ 115 ∷ []) in
    let plain : list_all is_no_return time ≡ true =
    list_all_more is_time_byte is_no_return no_return time (seconds_are time seconds).1 in
    let none : list_all is_no_return front ≡ true =
    list_all-append is_no_return time (32 ∷ 115 ∷ []) ∙ and_from (list_all is_no_return time) true plain refl in
    ap line_time is
    ∙ ap marked_time (off front end none ends)
    ∙ ap (λ (found : Option (List ℕ)). time_with_unit found (time ++ 32 ∷ 115 ∷ [])) (unit_dropped time)
    ∙ time_told (is_seconds time) time seconds short

iso_told : (line time end : List ℕ) → IsLineEnd end → length time ≤ 40 → IsIsoLine line time end
    → line_time line ≡ Some time
iso_told line time end ends short (iso, is) =
    let plain = (iso_is time iso).1 in
    let none : list_all is_no_return (35 ∷ 32 ∷ time) ≡ true =
    list_all_more is_time_byte is_no_return no_return time plain in
    ap line_time is
    ∙ ap marked_time (off (35 ∷ 32 ∷ time) end none ends)
    ∙ ap (λ (found : Option (List ℕ)). time_with_unit found time) (no_unit time (λ front. no_space time front plain))
    ∙ time_told (is_iso_time time) time iso short

told : (line time : List ℕ) → IsTimeLine line time → line_time line ≡ Some time
told line time is =
    elim is.says [
      | inl seconds ↦ seconds_told line time is.end is.ends is.short seconds
      | inr iso ↦ iso_told line time is.end is.ends is.short iso
    ]

pub told_exactly : (line time : List ℕ) → (line_time line ≡ Some time) ↔ IsTimeLine line time
told_exactly line time = (is_line line time, told line time)
