-- From what the parts of a FORMAT say to what the whole of it says: for `parse_format`, `direct`
-- and the law `one_format`. A text of a kind begins with the kind's word, which no other kind has;
-- its numbers are what stands round the commas, so that the whole says one thing and has one
-- answer.
use Rattle.std.proofs.Common.{◌≡◌, ◌≢◌, ℕ, Bool, true, false, eqb, get_or, drop, append_assoc, Result, Err, ℤ, List, ◌∷◌, ◌++◌}
use Rattle.std.proofs.Common.{codes, refl, sym, ap, ◌∙◌, subst}
use borrow.Author.Tests.{eqb-false}
use Rattle.std.specs.Int.{w8, w16}
use Rattle.std.specs.Prelude.{FitsSigned}
use Rattle.std.proofs.lemmas.Int.{to_z-of_z}
use mir.Val.{to_z, of_z}
use Rattle.pmb_convert.specs.declared.format_fault.FormatFault.{FormatFault}
use Rattle.pmb_convert.specs.declared.format_fault.FormatFault.TheVariants.{BadFormat}
use Rattle.pmb_value.specs.declared.number_format.NumberFormat.{NumberFormat}
use Rattle.pmb_convert.specs.Spelling.{Answers, Names, Saying, SpellsFormat, WritesInteger, WritesByte, WritesMode}
use Rattle.pmb_convert.specs.Spelling.{direct_kind, named_direct, said, spelled, other, linear11, linear11_fixed}
use Rattle.pmb_convert.specs.Spelling.{ulinear16, slinear16, vout, half, vid, direct}
use Rattle.pmb_convert.specs.machine.Parts.{HasNoComma, comma, IsDirect, IsFixed, IsSigned, IsUnsigned, IsVid}
use Rattle.pmb_convert.specs.machine.Parts.{IsVout}
use Rattle.pmb_vid.specs.Names.{table_name}
use Rattle.pmb_convert.proofs.Tables.{one_table}
use Rattle.pmb_convert.proofs.Integers.{number_has_no_comma, one_comma, one_number}
use Rattle.pmb_convert.proofs.Modes.{one_mode}

-- an answer to what says the same
pub answers_too : (P Q : Saying → Type 0) (answer : Result NumberFormat FormatFault) → ((s : Saying) → P s → Q s)
    → ((s : Saying) → Q s → P s) → Answers P answer → Answers Q answer
answers_too P Q answer to back (spelled saying says is) = spelled saying (to saying says) is
answers_too P Q answer to back (other none is) = other (λ s q. none s (back s q)) is

-- ---- a text of a kind says what its numbers say

-- texts that begin otherwise
differ : (a b : ℕ) (front back : List ℕ) → eqb a b ≡ false → a ∷ front ≡ b ∷ back → ⊥
differ a b front back test same = eqb-false a b test (ap (λ t. get_or t 0 0) same)

-- and texts whose second characters are others: a d and an l, an i and an o
udirect_no_ulinear : (E F : List ℕ) → codes "udirect:" ++ E ≡ codes "ulinear16:" ++ F → ⊥
udirect_no_ulinear E F same = eqb-false 100 108 refl (ap (λ t. get_or t 1 0) same)

vid_no_vout : (E F : List ℕ) → codes "vid:" ++ E ≡ codes "vout:" ++ F → ⊥
vid_no_vout E F same = eqb-false 105 111 refl (ap (λ t. get_or t 1 0) same)

-- the text of a DIRECT format, by its numbers
direct_text : (u : Bool) (M B R : List ℕ) → direct_kind u ++ M ++ codes "," ++ B ++ codes "," ++ R ≡ direct_kind u
    ++ comma M (comma B R)
direct_text true M B R = simp append_assoc
direct_text false M B R = simp append_assoc

-- a text without a colon and one with it
-- 58 is the colon
no_colon : (E : List ℕ) → codes "linear11" ≡ codes "linear11:" ++ E → ⊥
no_colon E same = eqb-false 0 58 refl (ap (λ t. get_or t 8 0) same)

fixed_spells : (E : List ℕ) (s : Saying) → IsFixed E s → SpellsFormat (codes "linear11:" ++ E) s
fixed_spells E s is = subst (SpellsFormat (codes "linear11:" ++ E)) (sym is.2) (E, refl, is.1)

spelled_fixed : (E : List ℕ) (s : Saying) → SpellsFormat (codes "linear11:" ++ E) s → IsFixed E s
spelled_fixed E linear11 is = absurd (no_colon E (sym is))
spelled_fixed E (linear11_fixed n) is = (n, subst (λ t. WritesByte t n) (sym (ap (drop 9) is.1)) is.2, refl)
spelled_fixed E (ulinear16 n) is = absurd (differ _ _ _ _ refl is.1)
spelled_fixed E (slinear16 n) is = absurd (differ _ _ _ _ refl is.1)
spelled_fixed E (vout n) is = absurd (differ _ _ _ _ refl is.1)
spelled_fixed E half is = absurd (differ _ _ _ _ refl is)
spelled_fixed E (vid t) is = absurd (differ _ _ _ _ refl is)
spelled_fixed E (direct true m b r) is = absurd (differ _ _ _ _ refl is.3)
spelled_fixed E (direct false m b r) is = absurd (differ _ _ _ _ refl is.3)

unsigned_spells : (E : List ℕ) (s : Saying) → IsUnsigned E s → SpellsFormat (codes "ulinear16:" ++ E) s
unsigned_spells E s is = subst (SpellsFormat (codes "ulinear16:" ++ E)) (sym is.2) (E, refl, is.1)

spelled_unsigned : (E : List ℕ) (s : Saying) → SpellsFormat (codes "ulinear16:" ++ E) s → IsUnsigned E s
spelled_unsigned E linear11 is = absurd (differ _ _ _ _ refl is)
spelled_unsigned E (linear11_fixed n) is = absurd (differ _ _ _ _ refl is.1)
spelled_unsigned E (ulinear16 n) is = (n, subst (λ t. WritesByte t n) (sym (ap (drop 10) is.1)) is.2, refl)
spelled_unsigned E (slinear16 n) is = absurd (differ _ _ _ _ refl is.1)
spelled_unsigned E (vout n) is = absurd (differ _ _ _ _ refl is.1)
spelled_unsigned E half is = absurd (differ _ _ _ _ refl is)
spelled_unsigned E (vid t) is = absurd (differ _ _ _ _ refl is)
spelled_unsigned E (direct true m b r) is = absurd (udirect_no_ulinear _ _ (sym is.3))
spelled_unsigned E (direct false m b r) is = absurd (differ _ _ _ _ refl is.3)

signed_spells : (E : List ℕ) (s : Saying) → IsSigned E s → SpellsFormat (codes "slinear16:" ++ E) s
signed_spells E s is = subst (SpellsFormat (codes "slinear16:" ++ E)) (sym is.2) (E, refl, is.1)

spelled_signed : (E : List ℕ) (s : Saying) → SpellsFormat (codes "slinear16:" ++ E) s → IsSigned E s
spelled_signed E linear11 is = absurd (differ _ _ _ _ refl is)
spelled_signed E (linear11_fixed n) is = absurd (differ _ _ _ _ refl is.1)
spelled_signed E (ulinear16 n) is = absurd (differ _ _ _ _ refl is.1)
spelled_signed E (slinear16 n) is = (n, subst (λ t. WritesByte t n) (sym (ap (drop 10) is.1)) is.2, refl)
spelled_signed E (vout n) is = absurd (differ _ _ _ _ refl is.1)
spelled_signed E half is = absurd (differ _ _ _ _ refl is)
spelled_signed E (vid t) is = absurd (differ _ _ _ _ refl is)
spelled_signed E (direct true m b r) is = absurd (differ _ _ _ _ refl is.3)
spelled_signed E (direct false m b r) is = absurd (differ _ _ _ _ refl is.3)

vout_spells : (HH : List ℕ) (s : Saying) → IsVout HH s → SpellsFormat (codes "vout:" ++ HH) s
vout_spells HH s is = subst (SpellsFormat (codes "vout:" ++ HH)) (sym is.2) (HH, refl, is.1)

spelled_vout : (HH : List ℕ) (s : Saying) → SpellsFormat (codes "vout:" ++ HH) s → IsVout HH s
spelled_vout HH linear11 is = absurd (differ _ _ _ _ refl is)
spelled_vout HH (linear11_fixed n) is = absurd (differ _ _ _ _ refl is.1)
spelled_vout HH (ulinear16 n) is = absurd (differ _ _ _ _ refl is.1)
spelled_vout HH (slinear16 n) is = absurd (differ _ _ _ _ refl is.1)
spelled_vout HH (vout n) is = (n, subst (λ t. WritesMode t n) (sym (ap (drop 5) is.1)) is.2, refl)
spelled_vout HH half is = absurd (differ _ _ _ _ refl is)
spelled_vout HH (vid t) is = absurd (vid_no_vout _ _ (sym is))
spelled_vout HH (direct true m b r) is = absurd (differ _ _ _ _ refl is.3)
spelled_vout HH (direct false m b r) is = absurd (differ _ _ _ _ refl is.3)

vid_spells : (name : List ℕ) (s : Saying) → IsVid name s → SpellsFormat (codes "vid:" ++ name) s
vid_spells name s is = subst (SpellsFormat (codes "vid:" ++ name)) (sym is.2) (ap (λ t. codes "vid:" ++ t) is.1)

spelled_vid : (name : List ℕ) (s : Saying) → SpellsFormat (codes "vid:" ++ name) s → IsVid name s
spelled_vid name linear11 is = absurd (differ _ _ _ _ refl is)
spelled_vid name (linear11_fixed n) is = absurd (differ _ _ _ _ refl is.1)
spelled_vid name (ulinear16 n) is = absurd (differ _ _ _ _ refl is.1)
spelled_vid name (slinear16 n) is = absurd (differ _ _ _ _ refl is.1)
spelled_vid name (vout n) is = absurd (vid_no_vout _ _ is.1)
spelled_vid name half is = absurd (differ _ _ _ _ refl is)
spelled_vid name (vid table) is = (table, ap (drop 4) is, refl)
spelled_vid name (direct true m b r) is = absurd (differ _ _ _ _ refl is.3)
spelled_vid name (direct false m b r) is = absurd (differ _ _ _ _ refl is.3)

direct_spells : (u : Bool) (numbers : List ℕ) (s : Saying) → IsDirect u numbers s
    → SpellsFormat (direct_kind u ++ numbers) s
direct_spells u numbers s d =
    let whole = ap (λ t. direct_kind u ++ t) d.whole ∙ sym (direct_text u d.M d.B d.R) in
    subst (SpellsFormat (direct_kind u ++ numbers)) (sym d.is) (d.M, d.B, d.R, whole, d.m_is, d.b_is, d.r_is)

spelled_direct : (u : Bool) (numbers : List ℕ) (s : Saying) → SpellsFormat (direct_kind u ++ numbers) s
    → IsDirect u numbers s
spelled_direct true numbers linear11 is = absurd (differ _ _ _ _ refl is)
spelled_direct true numbers (linear11_fixed n) is = absurd (differ _ _ _ _ refl is.1)
spelled_direct true numbers (ulinear16 n) is = absurd (udirect_no_ulinear _ _ is.1)
spelled_direct true numbers (slinear16 n) is = absurd (differ _ _ _ _ refl is.1)
spelled_direct true numbers (vout n) is = absurd (differ _ _ _ _ refl is.1)
spelled_direct true numbers half is = absurd (differ _ _ _ _ refl is)
spelled_direct true numbers (vid table) is = absurd (differ _ _ _ _ refl is)
spelled_direct true numbers (direct false m b r) is = absurd (differ _ _ _ _ refl is.3)
spelled_direct true numbers (direct true m b r) is = record {
  M = is.0;
  B = is.1;
  R = is.2;
  m = m;
  b = b;
  r = r;
  whole = ap (drop 8) (is.3 ∙ direct_text true is.0 is.1 is.2);
  m_is = is.4;
  b_is = is.5;
  r_is = is.6;
  is = refl;
}
spelled_direct false numbers linear11 is = absurd (differ _ _ _ _ refl is)
spelled_direct false numbers (linear11_fixed n) is = absurd (differ _ _ _ _ refl is.1)
spelled_direct false numbers (ulinear16 n) is = absurd (differ _ _ _ _ refl is.1)
spelled_direct false numbers (slinear16 n) is = absurd (differ _ _ _ _ refl is.1)
spelled_direct false numbers (vout n) is = absurd (differ _ _ _ _ refl is.1)
spelled_direct false numbers half is = absurd (differ _ _ _ _ refl is)
spelled_direct false numbers (vid table) is = absurd (differ _ _ _ _ refl is)
spelled_direct false numbers (direct true m b r) is = absurd (differ _ _ _ _ refl is.3)
spelled_direct false numbers (direct false m b r) is = record {
  M = is.0;
  B = is.1;
  R = is.2;
  m = m;
  b = b;
  r = r;
  whole = ap (drop 7) (is.3 ∙ direct_text false is.0 is.1 is.2);
  m_is = is.4;
  b_is = is.5;
  r_is = is.6;
  is = refl;
}

-- ---- the answers to a text of a kind

pub names_fixed : (text E : List ℕ) (answer : Result NumberFormat FormatFault) → text ≡ codes "linear11:" ++ E
    → Answers (IsFixed E) answer → Names text answer
names_fixed text E answer is answers =
    subst (λ t. Names t answer) (sym is) (answers_too (IsFixed E) (SpellsFormat (codes "linear11:" ++ E)) answer
    (fixed_spells E) (spelled_fixed E) answers)

pub names_unsigned : (text E : List ℕ) (answer : Result NumberFormat FormatFault) → text ≡ codes "ulinear16:" ++ E
    → Answers (IsUnsigned E) answer → Names text answer
names_unsigned text E answer is answers =
    subst (λ t. Names t answer) (sym is) (answers_too (IsUnsigned E) (SpellsFormat (codes "ulinear16:" ++ E)) answer
    (unsigned_spells E) (spelled_unsigned E) answers)

pub names_signed : (text E : List ℕ) (answer : Result NumberFormat FormatFault) → text ≡ codes "slinear16:" ++ E
    → Answers (IsSigned E) answer → Names text answer
names_signed text E answer is answers =
    subst (λ t. Names t answer) (sym is) (answers_too (IsSigned E) (SpellsFormat (codes "slinear16:" ++ E)) answer
    (signed_spells E) (spelled_signed E) answers)

pub names_vout : (text HH : List ℕ) (answer : Result NumberFormat FormatFault) → text ≡ codes "vout:" ++ HH
    → Answers (IsVout HH) answer → Names text answer
names_vout text HH answer is answers =
    subst (λ t. Names t answer) (sym is) (answers_too (IsVout HH) (SpellsFormat (codes "vout:" ++ HH)) answer
    (vout_spells HH) (spelled_vout HH) answers)

pub names_vid : (text name : List ℕ) (answer : Result NumberFormat FormatFault) → text ≡ codes "vid:" ++ name
    → Answers (IsVid name) answer → Names text answer
names_vid text name answer is answers =
    subst (λ t. Names t answer) (sym is) (answers_too (IsVid name) (SpellsFormat (codes "vid:" ++ name)) answer
    (vid_spells name) (spelled_vid name) answers)

pub names_direct : (u : Bool) (text numbers : List ℕ) (answer : Result NumberFormat FormatFault)
    → text ≡ direct_kind u ++ numbers → Answers (IsDirect u numbers) answer → Names text answer
names_direct u text numbers answer is answers =
    subst (λ t. Names t answer) (sym is) (answers_too (IsDirect u numbers) (SpellsFormat (direct_kind u ++ numbers))
    answer (direct_spells u numbers) (spelled_direct u numbers) answers)

-- ---- three numbers round two commas

pub record AreParts (numbers M B R : List ℕ) : Type 0 where
  pub whole : numbers ≡ comma M (comma B R)
  pub first : HasNoComma M
  pub second : HasNoComma B

pub parts_of : (numbers M rest B R : List ℕ) → HasNoComma M × (numbers ≡ comma M rest)
    → HasNoComma B × (rest ≡ comma B R) → AreParts numbers M B R
parts_of numbers M rest B R front back =
    record { whole = front.1 ∙ ap (comma M) back.1; first = front.0; second = back.0 }

-- the parts of a DIRECT format are those round the first two commas
parts_are : (u : Bool) (numbers M B R : List ℕ) (s : Saying) → AreParts numbers M B R → (d : IsDirect u numbers s)
    → (d.M ≡ M) × (d.B ≡ B) × (d.R ≡ R)
parts_are u numbers M B R s parts d =
    let front = one_comma d.M (comma d.B d.R) M (comma B R) (number_has_no_comma d.M d.m d.m_is.writes) parts.first
    (sym d.whole ∙ parts.whole) in
    let back = one_comma d.B d.R B R (number_has_no_comma d.B d.b d.b_is.writes) parts.second front.1 in
    (front.0, back.0, back.1)

-- too few commas
pub no_comma : (u : Bool) (numbers : List ℕ) → ((front : List ℕ) → (back : List ℕ) → HasNoComma front → numbers ≢ comma front back)
    → Answers (IsDirect u numbers) (Err BadFormat)
no_comma u numbers none = other (λ s d. none d.M (comma d.B d.R) (number_has_no_comma d.M d.m d.m_is.writes) d.whole) refl

pub one_comma_alone : (u : Bool) (numbers M rest : List ℕ) → HasNoComma M → numbers ≡ comma M rest
    → ((front : List ℕ) → (back : List ℕ) → HasNoComma front → rest ≢ comma front back)
    → Answers (IsDirect u numbers) (Err BadFormat)
one_comma_alone u numbers M rest free whole none = other too_few refl
  where
    too_few : (s : Saying) → ¬ (IsDirect u numbers s)
    too_few s d =
        let front = one_comma d.M (comma d.B d.R) M rest (number_has_no_comma d.M d.m d.m_is.writes) free
        (sym d.whole ∙ whole) in
        none d.B d.R (number_has_no_comma d.B d.b d.b_is.writes) (sym front.1)

-- a part that is no number
pub bad_m : (u : Bool) (numbers M B R : List ℕ) → AreParts numbers M B R → ((n : ℤ) → WritesInteger M n → ¬ (FitsSigned w16 n))
    → Answers (IsDirect u numbers) (Err BadFormat)
bad_m u numbers M B R parts none =
    other (λ s d. none d.m (subst (λ t. WritesInteger t d.m) (parts_are u numbers M B R s parts d).0 d.m_is.writes)
    d.m_is.fits) refl

pub bad_b : (u : Bool) (numbers M B R : List ℕ) → AreParts numbers M B R → ((n : ℤ) → WritesInteger B n → ¬ (FitsSigned w16 n))
    → Answers (IsDirect u numbers) (Err BadFormat)
bad_b u numbers M B R parts none =
    other (λ s d. none d.b (subst (λ t. WritesInteger t d.b) (parts_are u numbers M B R s parts d).1 d.b_is.writes)
    d.b_is.fits) refl

pub bad_r : (u : Bool) (numbers M B R : List ℕ) → AreParts numbers M B R → ((n : ℤ) → WritesInteger R n → ¬ (FitsSigned w8 n))
    → Answers (IsDirect u numbers) (Err BadFormat)
bad_r u numbers M B R parts none =
    other (λ s d. none d.r (subst (λ t. WritesInteger t d.r) (parts_are u numbers M B R s parts d).2 d.r_is.writes)
    d.r_is.fits) refl

-- three numbers
pub three_numbers : (u : Bool) (numbers M B R : List ℕ) (m b r : ℤ) (answer : Result NumberFormat FormatFault)
    → AreParts numbers M B R → WritesInteger M m → FitsSigned w16 m → WritesInteger B b → FitsSigned w16 b
    → WritesInteger R r → FitsSigned w8 r
    → answer ≡ named_direct u (to_z w16 (of_z w16 m)) (to_z w16 (of_z w16 b)) (to_z w8 (of_z w8 r))
    → Answers (IsDirect u numbers) answer
three_numbers u numbers M B R m b r answer parts m_is m_fits b_is b_fits r_is r_fits is =
    spelled (direct u m b r)
    (record {
      M = M;
      B = B;
      R = R;
      m = m;
      b = b;
      r = r;
      whole = parts.whole;
      m_is = record { writes = m_is; fits = m_fits };
      b_is = record { writes = b_is; fits = b_fits };
      r_is = record { writes = r_is; fits = r_fits };
      is = refl;
    })
    (is ∙ (λ i. named_direct u (to_z-of_z w16 m m_fits i) (to_z-of_z w16 b b_fits i) (to_z-of_z w8 r r_fits i)))

-- ---- a text says one thing

one_direct : (u : Bool) (numbers : List ℕ) (a b : Saying) → IsDirect u numbers a → IsDirect u numbers b → a ≡ b
one_direct u numbers a b left right =
    let round : AreParts numbers right.M right.B right.R = record {
      whole = right.whole;
      first = number_has_no_comma right.M right.m right.m_is.writes;
      second = number_has_no_comma right.B right.b right.b_is.writes;
    } in
    let parts = parts_are u numbers right.M right.B right.R a round left in
    let m_same : left.m ≡ right.m = one_number right.M left.m right.m
    (subst (λ t. WritesInteger t left.m) parts.0 left.m_is.writes) right.m_is.writes in
    let b_same : left.b ≡ right.b = one_number right.B left.b right.b
    (subst (λ t. WritesInteger t left.b) parts.1 left.b_is.writes) right.b_is.writes in
    let r_same : left.r ≡ right.r = one_number right.R left.r right.r
    (subst (λ t. WritesInteger t left.r) parts.2 left.r_is.writes) right.r_is.writes in
    left.is ∙ (λ i. direct u (m_same i) (b_same i) (r_same i)) ∙ sym right.is

pub one_saying : (text : List ℕ) (a b : Saying) → SpellsFormat text a → SpellsFormat text b → a ≡ b
-- `linear11`
one_saying text linear11 b is too = by b (subst (λ t. SpellsFormat t b) is too)
  where
    by : (b : Saying) → SpellsFormat (codes "linear11") b → linear11 ≡ b
    by linear11 o = refl
    by (linear11_fixed n) o = absurd (no_colon o.0 o.1)
    by (ulinear16 n) o = absurd (differ _ _ _ _ refl o.1)
    by (slinear16 n) o = absurd (differ _ _ _ _ refl o.1)
    by (vout n) o = absurd (differ _ _ _ _ refl o.1)
    by half o = absurd (differ _ _ _ _ refl o)
    by (vid t) o = absurd (differ _ _ _ _ refl o)
    by (direct true m b r) o = absurd (differ _ _ _ _ refl o.3)
    by (direct false m b r) o = absurd (differ _ _ _ _ refl o.3)
-- `linear11:E`, `ulinear16:E`, `slinear16:E`: one exponent
one_saying text (linear11_fixed n) b is too =
    let o = spelled_fixed is.0 b (subst (λ t. SpellsFormat t b) is.1 too) in
    ap linear11_fixed (one_number is.0 n o.0 is.2.writes o.1.writes) ∙ sym o.2
one_saying text (ulinear16 n) b is too =
    let o = spelled_unsigned is.0 b (subst (λ t. SpellsFormat t b) is.1 too) in
    ap ulinear16 (one_number is.0 n o.0 is.2.writes o.1.writes) ∙ sym o.2
one_saying text (slinear16 n) b is too =
    let o = spelled_signed is.0 b (subst (λ t. SpellsFormat t b) is.1 too) in
    ap slinear16 (one_number is.0 n o.0 is.2.writes o.1.writes) ∙ sym o.2
-- `vout:HH`: one byte
one_saying text (vout n) b is too =
    let o = spelled_vout is.0 b (subst (λ t. SpellsFormat t b) is.1 too) in
    ap vout (one_mode is.0 n o.0 is.2 o.1) ∙ sym o.2
-- `half`
one_saying text half b is too = by b (subst (λ t. SpellsFormat t b) is too)
  where
    by : (b : Saying) → SpellsFormat (codes "half") b → half ≡ b
    by linear11 o = absurd (differ _ _ _ _ refl o)
    by (linear11_fixed n) o = absurd (differ _ _ _ _ refl o.1)
    by (ulinear16 n) o = absurd (differ _ _ _ _ refl o.1)
    by (slinear16 n) o = absurd (differ _ _ _ _ refl o.1)
    by (vout n) o = absurd (differ _ _ _ _ refl o.1)
    by half o = refl
    by (vid t) o = absurd (differ _ _ _ _ refl o)
    by (direct true m b r) o = absurd (differ _ _ _ _ refl o.3)
    by (direct false m b r) o = absurd (differ _ _ _ _ refl o.3)
-- `vid:TABLE`: one table
one_saying text (vid table) b is too =
    let o = spelled_vid (table_name table) b (subst (λ t. SpellsFormat t b) is too) in
    ap vid (one_table table o.0 o.1) ∙ sym o.2
-- `direct:M,B,R`, `udirect:M,B,R`: one number each
one_saying text (direct u m k r) b is too =
    let numbers : List ℕ = comma is.0 (comma is.1 is.2) in
    let left = spelled_direct u numbers (direct u m k r) (
      is.0,
      is.1,
      is.2,
      sym (direct_text u is.0 is.1 is.2),
      is.4,
      is.5,
      is.6,
    ) in
    one_direct u numbers (direct u m k r) b left
    (spelled_direct u numbers b (subst (λ t. SpellsFormat t b) (is.3 ∙ direct_text u is.0 is.1 is.2) too))

-- and has one answer
pub one_answer : (text : List ℕ) (a b : Result NumberFormat FormatFault) → Names text a → Names text b → a ≡ b
one_answer text a b (spelled s says a_is) (spelled t says' b_is) = a_is ∙ ap said (one_saying text s t says says')
    ∙ sym b_is
one_answer text a b (spelled s says a_is) (other none b_is) = absurd (none s says)
one_answer text a b (other none a_is) (spelled t says' b_is) = absurd (none t says')
one_answer text a b (other none a_is) (other none' b_is) = a_is ∙ sym b_is
