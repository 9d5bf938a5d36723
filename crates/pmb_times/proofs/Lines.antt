-- What a line tells: for the functions of `line.rt`, which take it apart, and the law
-- `times_are_short`. What is told is a time, no line of more than 45 bytes tells one, and none that
-- begins otherwise.
use Rattle.std.proofs.Common.{◌≡◌, ◌≢◌, ℕ, zero, suc, ◌+◌, ◌<◌, ◌≤◌, ◌==◌, ◌&&◌, ◌||◌, Bool, true, false, inl, inr, cond}
use Rattle.std.proofs.Common.{Option}
use Rattle.std.proofs.Common.{Some, None, IfSome, List, [], ◌∷◌, ◌++◌, codes, count_by, get_or, length, refl, subst}
use Rattle.std.proofs.Common.{sym, ap}
use Rattle.std.proofs.Common.{◌∙◌, arith}
use Rattle.std.specs.Char.{is_ascii_digit}
use Rattle.std.specs.List.{list_all}
use Rattle.std.specs.Option.{option_map}
use Rattle.std.specs.Prelude.{nat_le}
use Rattle.std.proofs.lemmas.Bool.{and_from, and_parts, cases_Bool, cases_eq, false≢true, leb-true, lt-leb, ne_eqb}
use Rattle.std.proofs.lemmas.Bool.{or_left}
use Rattle.std.proofs.lemmas.List.Sums.{count_by-le-length}
use Rattle.pmb_times.specs.Line.{IsTime, before_unit, begins_as, comment_time, fits_mark, is_iso_time, is_number, is_seconds}
use Rattle.pmb_times.specs.Line.{is_seconds_byte, is_sign, is_time_byte, line_time, marked_time, time_if, time_with_unit}
use Rattle.pmb_times.specs.Line.{without_return}

-- ---- what a line is taken apart into

-- 32 is a space, 115 the letter s
pub unit_dropped : (front : List ℕ) → before_unit (front ++ 32 ∷ 115 ∷ []) ≡ Some front
unit_dropped [] = refl
unit_dropped (a ∷ []) = refl
unit_dropped (a ∷ b ∷ []) = refl
unit_dropped (a ∷ b ∷ c ∷ front) = ap (option_map (λ (text : List ℕ). a ∷ text)) (unit_dropped (b ∷ c ∷ front))

pub no_unit : (text : List ℕ) → ((front : List ℕ) → text ≢ front ++ 32 ∷ 115 ∷ []) → before_unit text ≡ None
no_unit [] none = refl
no_unit (a ∷ []) none = refl
no_unit (a ∷ b ∷ []) none =
    elim (cases_eq a 32) [
      | inl blank ↦
          elim (cases_eq b 115) [
            | inl unit ↦ absurd (none [] cc)
            | inr other ↦ rw (blank, ne_eqb b 115 other) refl
          ]
      | inr other ↦ rw (ne_eqb a 32 other) refl
    ]
no_unit (a ∷ b ∷ c ∷ text) none =
    ap (option_map (λ (front : List ℕ). a ∷ front))
    (no_unit (b ∷ c ∷ text) (λ front is. none (a ∷ front) (ap (λ (l : List ℕ). a ∷ l) is)))

-- 13 is CR
pub return_dropped : (line : List ℕ) → without_return (line ++ 13 ∷ []) ≡ line
return_dropped [] = refl
return_dropped (b ∷ []) = refl
return_dropped (b ∷ next ∷ line) = ap (λ (l : List ℕ). b ∷ l) (return_dropped (next ∷ line))

pub no_return_kept : (line : List ℕ) → ((front : List ℕ) → line ≢ front ++ 13 ∷ []) → without_return line ≡ line
no_return_kept [] none = refl
no_return_kept (b ∷ []) none =
    elim (cases_eq b 13) [
      | inl is ↦ absurd (none [] (ap (λ (c : ℕ). c ∷ []) is))
      | inr other ↦ rw (ne_eqb b 13 other) refl
    ]
no_return_kept (b ∷ next ∷ line) none =
    ap (λ (l : List ℕ). b ∷ l)
    (no_return_kept (next ∷ line) (λ front is. none (b ∷ front) (ap (λ (l : List ℕ). b ∷ l) is)))

-- 35 is `#`
pub no_mark : (line : List ℕ) → ((rest : List ℕ) → line ≢ 35 ∷ 32 ∷ rest) → marked_time line ≡ None
no_mark [] none = refl
no_mark (a ∷ []) none = refl
no_mark (a ∷ b ∷ rest) none =
    elim (cases_eq a 35) [
      | inl mark ↦
          elim (cases_eq b 32) [
            | inl blank ↦ absurd (none rest cc)
            | inr other ↦ rw (mark, ne_eqb b 32 other) refl
          ]
      | inr other ↦ rw (ne_eqb a 35 other) refl
    ]

-- ---- how a text begins

pub too_short : (marks text : List ℕ) → length text < length marks → begins_as marks text ≡ false
too_short [] text short = absurd (omega arith)
too_short (mark ∷ marks) [] short = refl
too_short (mark ∷ marks) (b ∷ text) short =
    ap (λ (v : Bool). fits_mark mark b && v) (too_short marks text (omega arith)) ∙ never (fits_mark mark b)
  where
    never : (v : Bool) → (v && false) ≡ false
    never true = refl
    never false = refl

pub misfit : (marks text : List ℕ) (i : ℕ) → i < length marks → i < length text
    → fits_mark (get_or marks i 0) (get_or text i 0) ≡ false
    → begins_as marks text ≡ false
misfit [] text i within inside none = absurd (omega arith)
misfit (mark ∷ marks) [] i within inside none = refl
misfit (mark ∷ marks) (b ∷ text) zero within inside none = ap (λ (v : Bool). v && begins_as marks text) none
misfit (mark ∷ marks) (b ∷ text) (suc i) within inside none =
    ap (λ (v : Bool). fits_mark mark b && v) (misfit marks text i (omega arith) (omega arith) none)
    ∙ never (fits_mark mark b)
  where
    never : (v : Bool) → (v && false) ≡ false
    never true = refl
    never false = refl

pub all_fit : (marks text : List ℕ) → length marks ≤ length text
    → ((i : ℕ) → i < length marks → fits_mark (get_or marks i 0) (get_or text i 0) ≡ true)
    → begins_as marks text ≡ true
all_fit [] text long each = refl
all_fit (mark ∷ marks) [] long each = absurd (omega arith)
all_fit (mark ∷ marks) (b ∷ text) long each =
    and_from (fits_mark mark b) (begins_as marks text) (each 0 (omega arith))
    (all_fit marks text (omega arith) (λ i within. each (suc i) (omega arith)))

-- ---- what is told is a time

pub list_all_more : (p q : ℕ → Bool) → ((b : ℕ) → p b ≡ true → q b ≡ true) → (bytes : List ℕ) → list_all p bytes ≡ true
    → list_all q bytes ≡ true
list_all_more p q more [] all = refl
list_all_more p q more (b ∷ bytes) all =
    let parts = and_parts (p b) (list_all p bytes) all in
    and_from (q b) (list_all q bytes) (more b parts.0) (list_all_more p q more bytes parts.1)

-- a time that is told, which was tested so
told_if : (is : Bool) (time : List ℕ) → (is ≡ true → (0 < length time) × (list_all is_time_byte time ≡ true))
    → IfSome (time_if is time) IsTime
told_if false time facts = tt
told_if true time facts =
    elim (cases_Bool (nat_le (length time) 40)) [
      | inl short ↦ subst (λ (v : Bool). IfSome (cond v (Some time) None) IsTime) (sym short)
          (record { some = (facts refl).0; short = leb-true (length time) 40 short; plain = (facts refl).1 })
      | inr long ↦ subst (λ (v : Bool). IfSome (cond v (Some time) None) IsTime) (sym long) tt
    ]

number_is : (time : List ℕ) → is_number time ≡ true → (0 < length time) × (list_all is_time_byte time ≡ true)
number_is time is =
    let parts = and_parts (list_all is_seconds_byte time) _ is in
    let counts = and_parts _ _ parts.1 in
    let some : 1 ≤ count_by is_ascii_digit time = leb-true 1 (count_by is_ascii_digit time) counts.0 in (
      omega (arith, some, count_by-le-length is_ascii_digit time),
      list_all_more is_seconds_byte is_time_byte (λ b number. or_left (is_seconds_byte b) _ number) time parts.0,
    )

-- a sign is a byte of times
sign_is : (b : ℕ) → is_sign b ≡ true → is_time_byte b ≡ true
sign_is b is =
    elim (cases_eq b 45) [
      | inl minus ↦ ap is_time_byte minus
      | inr other ↦ elim (cases_eq b 43) [
        | inl plus ↦ ap is_time_byte plus
        | inr none ↦ absurd (false≢true (sym (ap (λ (v : Bool). v || b == 43) (ne_eqb b 45 other) ∙ ne_eqb b 43 none) ∙ is))
      ]
    ]

signed_is : (b : ℕ) (time : List ℕ) (sign : Bool) → is_sign b ≡ sign
    → is_number (cond sign time (b ∷ time)) ≡ true
    → (0 < length (b ∷ time)) × (list_all is_time_byte (b ∷ time) ≡ true)
signed_is b time true sign is =
    (omega arith, and_from (is_time_byte b) (list_all is_time_byte time) (sign_is b sign) (number_is time is).1)
signed_is b time false sign is = number_is (b ∷ time) is

pub seconds_are : (time : List ℕ) → is_seconds time ≡ true → (0 < length time) × (list_all is_time_byte time ≡ true)
seconds_are [] is = absurd (false≢true is)
seconds_are (b ∷ time) is = signed_is b time (is_sign b) refl is

pub iso_is : (time : List ℕ) → is_iso_time time ≡ true → (0 < length time) × (list_all is_time_byte time ≡ true)
iso_is [] is = absurd (false≢true is)
iso_is (b ∷ time) is = (omega arith, (and_parts (begins_as (codes "0000-00-00T00") (b ∷ time)) _ is).1)

with_unit_is : (front : Option (List ℕ)) (text : List ℕ) → IfSome (time_with_unit front text) IsTime
with_unit_is (Some time) text = told_if (is_seconds time) time (seconds_are time)
with_unit_is None text = told_if (is_iso_time text) text (iso_is text)

mark_is : (v : Bool) (text : List ℕ) → IfSome (cond v (comment_time text) None) IsTime
mark_is true text = with_unit_is (before_unit text) text
mark_is false text = tt

marked_is : (line : List ℕ) → IfSome (marked_time line) IsTime
marked_is [] = tt
marked_is (a ∷ []) = tt
marked_is (a ∷ b ∷ text) = mark_is (a == 35 && b == 32) text

pub line_is : (line : List ℕ) → IfSome (line_time line) IsTime
line_is line = marked_is (without_return line)

-- ---- long lines tell none

-- 40 bytes has a time at most
too_long : (is : Bool) (time : List ℕ) → 40 < length time → time_if is time ≡ None
too_long is time long =
    ap (λ (v : Bool). cond (is && v) (Some time) None) (lt-leb (length time) 40 long) ∙ never is
  where
    never : (v : Bool) → cond (v && false) (Some time) None ≡ None
    never true = refl
    never false = refl

-- what stands before a unit is shorter by two
abbrev IsShorter : List ℕ → Option (List ℕ) → Type 0
IsShorter text front = IfSome front (λ (time : List ℕ). length time + 2 ≡ length text)

shorter_with : (a : ℕ) (text : List ℕ) (front : Option (List ℕ)) → IsShorter text front
    → IsShorter (a ∷ text) (option_map (λ (time : List ℕ). a ∷ time) front)
shorter_with a text (Some time) shorter = omega arith
shorter_with a text None shorter = tt

two_shorter : (v : Bool) (a b : ℕ) → IsShorter (a ∷ b ∷ []) (cond v (Some []) None)
two_shorter true a b = refl
two_shorter false a b = tt

shorter : (text : List ℕ) → IsShorter text (before_unit text)
shorter [] = tt
shorter (a ∷ []) = tt
shorter (a ∷ b ∷ []) = two_shorter (a == 32 && b == 115) a b
shorter (a ∷ b ∷ c ∷ text) = shorter_with a (b ∷ c ∷ text) (before_unit (b ∷ c ∷ text)) (shorter (b ∷ c ∷ text))

long_with : (front : Option (List ℕ)) (text : List ℕ) → IsShorter text front → 42 < length text
    → time_with_unit front text ≡ None
long_with (Some time) text shorter long = too_long (is_seconds time) time (omega arith)
long_with None text shorter long = too_long (is_iso_time text) text (omega arith)

long_mark : (v : Bool) (text : List ℕ) → 42 < length text → cond v (comment_time text) None ≡ None
long_mark true text long = long_with (before_unit text) text (shorter text) long
long_mark false text long = refl

long_marked : (line : List ℕ) → 44 < length line → marked_time line ≡ None
long_marked [] long = refl
long_marked (a ∷ []) long = refl
long_marked (a ∷ b ∷ text) long = long_mark (a == 35 && b == 32) text (omega arith)

one_dropped : (v : Bool) (b : ℕ) → 1 ≤ length (cond v [] (b ∷ [])) + 1
one_dropped true b = omega arith
one_dropped false b = omega arith

dropped : (line : List ℕ) → length line ≤ length (without_return line) + 1
dropped [] = omega arith
dropped (b ∷ []) = one_dropped (b == 13) b
dropped (b ∷ next ∷ line) = omega (arith, dropped (next ∷ line))

-- no line of more than 45 bytes is a time line
pub long_line : (line : List ℕ) → 45 < length line → line_time line ≡ None
long_line line long = long_marked (without_return line) (omega (arith, dropped line))

-- ---- other first bytes

other_marked : (b : ℕ) (rest : List ℕ) → (b ≡ 35 → ⊥) → marked_time (b ∷ rest) ≡ None
other_marked b [] other = refl
other_marked b (next ∷ rest) other = rw (ne_eqb b 35 other) refl

other_alone : (v : Bool) (b : ℕ) → marked_time (cond v [] (b ∷ [])) ≡ None
other_alone true b = refl
other_alone false b = refl

-- no line that begins with another byte than `#` is a time line
pub other_line : (b : ℕ) (rest : List ℕ) → (b ≡ 35 → ⊥) → line_time (b ∷ rest) ≡ None
other_line b [] other = other_alone (b == 13) b
other_line b (next ∷ rest) other = other_marked b (without_return (next ∷ rest)) other
