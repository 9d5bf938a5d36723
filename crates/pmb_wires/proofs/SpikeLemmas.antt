-- What waits in a filter stands for the changes that it has not given: for the law `filters_spikes`.
use Rattle.std.proofs.Common.{◌≡◌, ◌∙◌, ◌<◌, ◌≤◌, ◌-◌, ℕ, true, false, Option, Some, None, List, [], ◌∷◌, ◌++◌}
use Rattle.std.proofs.Common.{ap, refl, arith, nat_lt, inl, inr}
use Rattle.std.proofs.lemmas.Bool.{cases_Bool}
use Rattle.std.proofs.lemmas.Bool.Decides.{nat_tests}
use Rattle.pmb_wires.specs.Changes.{put}
use Rattle.pmb_wires.specs.Spikes.{kept, next_scl, next_sda, unless_spike}
use Rattle.pmb_wires.specs.declared.filter.Run.{Run}
use Rattle.pmb_wires.specs.declared.moment.Edge.{Edge}
use Rattle.pmb_wires.specs.declared.moment.Moment.{Moment}
use Rattle.pmb_wires.specs.machine.Waiting.{both_at, due, left, listed, scl_at, sda_at}
use Rattle.pmb_wires.specs.machine.Waiting.{waiting, written}

-- ---- times

-- a time, where there is one, that is not before another
abbrev pub NotBefore : ℕ → Option ℕ → Type 0
NotBefore t (Some next) = t ≤ next
NotBefore t None = Unit {0}

lt_by : (a b : ℕ) → a < b → nat_lt a b ≡ true
lt_by a b h = grind (arith, nat_tests)

not_lt_by : (a b : ℕ) → b ≤ a → nat_lt a b ≡ false
not_lt_by a b h = grind (arith, nat_tests)

lt_of : (a b : ℕ) → nat_lt a b ≡ true → a < b
lt_of a b h = grind (arith, nat_tests)

le_of : (a b : ℕ) → nat_lt a b ≡ false → b ≤ a
le_of a b h = grind (arith, nat_tests)

pub sooner : (s t : ℕ) (next : Option ℕ) → s ≤ t → NotBefore t next → NotBefore s next
sooner s t None le behind = tt
sooner s t (Some next) le behind = omega arith

-- No edge is no spike.
pub no_edge : (glitch time : ℕ) (next : Option ℕ) → unless_spike glitch time next None ≡ None
no_edge glitch time None = refl
no_edge glitch time (Some next) = elim (cases_Bool (nat_lt (next - time) glitch)) [
  | inl short ↦ rw short refl
  | inr long ↦ rw long refl
]

long_later : (glitch t time next : ℕ) → glitch ≤ t - time → t ≤ next → glitch ≤ next - time
long_later glitch t time next far behind = omega arith

-- A run that is long enough at a time is none, whenever it ends behind that.
stays : (glitch t time : ℕ) (next : Option ℕ) (edge : Option Edge) → nat_lt (t - time) glitch ≡ false → NotBefore t next
    → unless_spike glitch time next edge ≡ edge
stays glitch t time None edge long behind = refl
stays glitch t time (Some next) edge long behind =
    let far : glitch ≤ t - time = le_of (t - time) glitch long in
    let longer : glitch ≤ next - time = long_later glitch t time next far behind in
    let farther : nat_lt (next - time) glitch ≡ false = not_lt_by (next - time) glitch longer in
    rw farther refl

young_later : (glitch t a b : ℕ) → nat_lt (t - a) glitch ≡ true → a ≤ b → nat_lt (t - b) glitch ≡ true
young_later glitch t a b young le =
    let near : t - a < glitch = lt_of (t - a) glitch young in
    let nearer : t - b < glitch = omega arith in
    lt_by (t - b) glitch nearer

-- ---- what waits, in order

abbrev waits : Option Run → Option Run → List Moment
waits c d = listed (waiting c d)

scl_first : (c d : Run) → nat_lt c.time d.time ≡ true → waits (Some c) (Some d) ≡ scl_at c ∷ sda_at d ∷ []
scl_first c d before = rw before refl

sda_first : (c d : Run) → nat_lt c.time d.time ≡ false → nat_lt d.time c.time ≡ true
    → waits (Some c) (Some d) ≡ sda_at d ∷ scl_at c ∷ []
sda_first c d not before = rw (not, before) refl

at_once : (c d : Run) → nat_lt c.time d.time ≡ false → nat_lt d.time c.time ≡ false
    → waits (Some c) (Some d) ≡ both_at c d ∷ []
at_once c d not nor = rw (not, nor) refl

-- ---- edges that are known to stay

scl_stays : (glitch t : ℕ) (c : Run) (rest : List Moment) → NotBefore t (next_scl rest)
    → nat_lt (t - c.time) glitch ≡ false → kept glitch (scl_at c ∷ rest) ≡ scl_at c ∷ kept glitch rest
scl_stays glitch t c rest behind long =
    rw (stays glitch t c.time (next_scl rest) (Some c.edge) long behind, no_edge glitch c.time (next_sda rest)) refl

sda_stays : (glitch t : ℕ) (d : Run) (rest : List Moment) → NotBefore t (next_sda rest)
    → nat_lt (t - d.time) glitch ≡ false → kept glitch (sda_at d ∷ rest) ≡ sda_at d ∷ kept glitch rest
sda_stays glitch t d rest behind long =
    rw (stays glitch t d.time (next_sda rest) (Some d.edge) long behind, no_edge glitch d.time (next_scl rest)) refl

both_stay : (glitch t : ℕ) (c d : Run) (rest : List Moment) → NotBefore t (next_scl rest) → NotBefore t (next_sda rest)
    → nat_lt (t - c.time) glitch ≡ false → kept glitch (both_at c d ∷ rest) ≡ both_at c d ∷ kept glitch rest
both_stay glitch t c d rest scl_behind sda_behind long =
    rw (
      stays glitch t c.time (next_scl rest) (Some c.edge) long scl_behind,
      stays glitch t c.time (next_sda rest) (Some d.edge) long sda_behind,
    ) refl

-- At a time what is due goes out, and the rest waits.
abbrev Settles : ℕ → ℕ → Option Run → Option Run → List Moment → Type 0
Settles glitch t c d rest = kept glitch (waits c d ++ rest)
    ≡ waits (due glitch t c) (due glitch t d) ++ kept glitch (waits (left glitch t c) (left glitch t d) ++ rest)

settle_scl : (glitch t : ℕ) (c : Run) (rest : List Moment) → NotBefore t (next_scl rest) → Settles glitch t (Some c) None rest
settle_scl glitch t c rest behind = elim (cases_Bool (nat_lt (t - c.time) glitch)) [
  | inl young ↦ rw young refl
  | inr old ↦ rw old (scl_stays glitch t c rest behind old)
]

settle_sda : (glitch t : ℕ) (d : Run) (rest : List Moment) → NotBefore t (next_sda rest) → Settles glitch t None (Some d) rest
settle_sda glitch t d rest behind = elim (cases_Bool (nat_lt (t - d.time) glitch)) [
  | inl young ↦ rw young refl
  | inr old ↦ rw old (sda_stays glitch t d rest behind old)
]

settle_scl_first : (glitch t : ℕ) (c d : Run) (rest : List Moment) → NotBefore t (next_scl rest)
    → NotBefore t (next_sda rest) → nat_lt c.time d.time ≡ true → Settles glitch t (Some c) (Some d) rest
settle_scl_first glitch t c d rest scl_behind sda_behind before =
    elim (cases_Bool (nat_lt (t - c.time) glitch)) [
      | inl young ↦
          let earlier : c.time < d.time = lt_of c.time d.time before in
          let other : nat_lt (t - d.time) glitch ≡ true = young_later glitch t c.time d.time young (omega arith) in
          rw (young, other) refl
      | inr old ↦ elim (cases_Bool (nat_lt (t - d.time) glitch)) [
        | inl young ↦ rw (old, young, before) (scl_stays glitch t c (sda_at d ∷ rest) scl_behind old)
        | inr too ↦ rw (old, too, before)
            (scl_stays glitch t c (sda_at d ∷ rest) scl_behind old
            ∙ ap (λ (ms : List Moment). scl_at c ∷ ms) (sda_stays glitch t d rest sda_behind too))
      ]
    ]

settle_sda_first : (glitch t : ℕ) (c d : Run) (rest : List Moment) → NotBefore t (next_scl rest)
    → NotBefore t (next_sda rest) → nat_lt c.time d.time ≡ false → nat_lt d.time c.time ≡ true
    → Settles glitch t (Some c) (Some d) rest
settle_sda_first glitch t c d rest scl_behind sda_behind not before =
    elim (cases_Bool (nat_lt (t - d.time) glitch)) [
      | inl young ↦
          let earlier : d.time < c.time = lt_of d.time c.time before in
          let other : nat_lt (t - c.time) glitch ≡ true = young_later glitch t d.time c.time young (omega arith) in
          rw (young, other) refl
      | inr old ↦ elim (cases_Bool (nat_lt (t - c.time) glitch)) [
        | inl young ↦ rw (old, young, not, before) (sda_stays glitch t d (scl_at c ∷ rest) sda_behind old)
        | inr too ↦ rw (old, too, not, before)
            (sda_stays glitch t d (scl_at c ∷ rest) sda_behind old
            ∙ ap (λ (ms : List Moment). sda_at d ∷ ms) (scl_stays glitch t c rest scl_behind too))
      ]
    ]

settle_at_once : (glitch t : ℕ) (c d : Run) (rest : List Moment) → NotBefore t (next_scl rest)
    → NotBefore t (next_sda rest) → nat_lt c.time d.time ≡ false → nat_lt d.time c.time ≡ false
    → Settles glitch t (Some c) (Some d) rest
settle_at_once glitch t c d rest scl_behind sda_behind not nor =
    let le : d.time ≤ c.time = le_of c.time d.time not in
    let ge : c.time ≤ d.time = le_of d.time c.time nor in
    elim (cases_Bool (nat_lt (t - c.time) glitch)) [
      | inl young ↦
          let other : nat_lt (t - d.time) glitch ≡ true = young_later glitch t c.time d.time young ge in
          rw (young, other) refl
      | inr old ↦
          let far : glitch ≤ t - c.time = le_of (t - c.time) glitch old in
          let other : nat_lt (t - d.time) glitch ≡ false = not_lt_by (t - d.time) glitch (omega arith) in
          rw (old, other, not, nor) (both_stay glitch t c d rest scl_behind sda_behind old)
    ]

pub settle : (glitch t : ℕ) (c d : Option Run) (rest : List Moment) → NotBefore t (next_scl rest)
    → NotBefore t (next_sda rest) → Settles glitch t c d rest
settle glitch t None None rest scl_behind sda_behind = refl
settle glitch t (Some c) None rest scl_behind sda_behind = settle_scl glitch t c rest scl_behind
settle glitch t None (Some d) rest scl_behind sda_behind = settle_sda glitch t d rest sda_behind
settle glitch t (Some c) (Some d) rest scl_behind sda_behind =
    elim (cases_Bool (nat_lt c.time d.time)) [
      | inl before ↦ settle_scl_first glitch t c d rest scl_behind sda_behind before
      | inr not ↦ elim (cases_Bool (nat_lt d.time c.time)) [
        | inl before ↦ settle_sda_first glitch t c d rest scl_behind sda_behind not before
        | inr nor ↦ settle_at_once glitch t c d rest scl_behind sda_behind not nor
      ]
    ]

-- ---- edges that begin a spike

drop_scl_alone : (glitch t : ℕ) (c : Run) (rest : List Moment) → next_scl rest ≡ Some t
    → nat_lt (t - c.time) glitch ≡ true → kept glitch (scl_at c ∷ rest) ≡ kept glitch rest
drop_scl_alone glitch t c rest ends young = rw (ends, young, no_edge glitch c.time (next_sda rest)) refl

drop_sda_alone : (glitch t : ℕ) (d : Run) (rest : List Moment) → next_sda rest ≡ Some t
    → nat_lt (t - d.time) glitch ≡ true → kept glitch (sda_at d ∷ rest) ≡ kept glitch rest
drop_sda_alone glitch t d rest ends young = rw (ends, young, no_edge glitch d.time (next_scl rest)) refl

-- one that is dropped doesn't matter to the other wire before it
past_scl : (glitch t : ℕ) (c d : Run) (rest : List Moment) → next_scl rest ≡ Some t
    → nat_lt (t - c.time) glitch ≡ true
    → kept glitch (sda_at d ∷ scl_at c ∷ rest) ≡ kept glitch (sda_at d ∷ rest)
past_scl glitch t c d rest ends young =
    rw (
      no_edge glitch d.time (Some c.time),
      no_edge glitch d.time (next_scl rest),
      drop_scl_alone glitch t c rest ends young,
    ) refl

past_sda : (glitch t : ℕ) (c d : Run) (rest : List Moment) → next_sda rest ≡ Some t
    → nat_lt (t - d.time) glitch ≡ true
    → kept glitch (scl_at c ∷ sda_at d ∷ rest) ≡ kept glitch (scl_at c ∷ rest)
past_sda glitch t c d rest ends young =
    rw (
      no_edge glitch c.time (Some d.time),
      no_edge glitch c.time (next_sda rest),
      drop_sda_alone glitch t d rest ends young,
    ) refl

past_scl_at_once : (glitch t : ℕ) (c d : Run) (rest : List Moment) → c.time ≡ d.time → next_scl rest ≡ Some t
    → nat_lt (t - c.time) glitch ≡ true
    → kept glitch (both_at c d ∷ rest) ≡ kept glitch (sda_at d ∷ rest)
past_scl_at_once glitch t c d rest same ends young =
    rw (no_edge glitch d.time (next_scl rest), ends, young, same) refl

past_sda_at_once : (glitch t : ℕ) (c d : Run) (rest : List Moment) → c.time ≡ d.time → next_sda rest ≡ Some t
    → nat_lt (t - c.time) glitch ≡ true
    → kept glitch (both_at c d ∷ rest) ≡ kept glitch (scl_at c ∷ rest)
past_sda_at_once glitch t c d rest same ends young =
    rw (no_edge glitch c.time (next_sda rest), ends, young) refl

drop_scl : (glitch t : ℕ) (c : Run) (d : Option Run) (rest : List Moment) → next_scl rest ≡ Some t
    → nat_lt (t - c.time) glitch ≡ true → kept glitch (waits (Some c) d ++ rest) ≡ kept glitch (waits None d ++ rest)
drop_scl glitch t c None rest ends young = drop_scl_alone glitch t c rest ends young
drop_scl glitch t c (Some d) rest ends young =
    elim (cases_Bool (nat_lt c.time d.time)) [
      | inl before ↦ rw before (drop_scl_alone glitch t c (sda_at d ∷ rest) ends young)
      | inr not ↦ elim (cases_Bool (nat_lt d.time c.time)) [
        | inl before ↦ rw (not, before) (past_scl glitch t c d rest ends young)
        | inr nor ↦
            let le : d.time ≤ c.time = le_of c.time d.time not in
            let ge : c.time ≤ d.time = le_of d.time c.time nor in
            rw (not, nor) (past_scl_at_once glitch t c d rest (omega arith) ends young)
      ]
    ]

drop_sda : (glitch t : ℕ) (c : Option Run) (d : Run) (rest : List Moment) → next_sda rest ≡ Some t
    → nat_lt (t - d.time) glitch ≡ true → kept glitch (waits c (Some d) ++ rest) ≡ kept glitch (waits c None ++ rest)
drop_sda glitch t None d rest ends young = drop_sda_alone glitch t d rest ends young
drop_sda glitch t (Some c) d rest ends young =
    elim (cases_Bool (nat_lt c.time d.time)) [
      | inl before ↦ rw before (past_sda glitch t c d rest ends young)
      | inr not ↦ elim (cases_Bool (nat_lt d.time c.time)) [
        | inl before ↦ rw (not, before) (drop_sda_alone glitch t d (scl_at c ∷ rest) ends young)
        | inr nor ↦
            let le : d.time ≤ c.time = le_of c.time d.time not in
            let ge : c.time ≤ d.time = le_of d.time c.time nor in
            let same : c.time ≡ d.time = omega arith in
            let too : nat_lt (t - c.time) glitch ≡ true = rw same young in
            rw (not, nor) (past_sda_at_once glitch t c d rest same ends too)
      ]
    ]

-- ---- a new edge waits

abbrev pub Before : ℕ → Option Run → Type 0
Before t (Some run) = run.time < t
Before t None = Unit {0}

abbrev pub Young : ℕ → ℕ → Option Run → Type 0
Young glitch t (Some run) = nat_lt (t - run.time) glitch ≡ true
Young glitch t None = Unit {0}

abbrev at : ℕ → Option Edge → Option Edge → Moment
at t e f = record { time = t; scl = e; sda = f }

abbrev run_at : ℕ → Edge → Run
run_at t e = record { time = t; edge = e }

scl_last : (t : ℕ) (e : Edge) (d : Option Run) (rest : List Moment) → Before t d
    → waits None d ++ (at t (Some e) None ∷ rest) ≡ waits (Some (run_at t e)) d ++ rest
scl_last t e None rest before = refl
scl_last t e (Some d) rest before =
    let sooner_is : nat_lt d.time t ≡ true = lt_by d.time t before in
    let later_not : nat_lt t d.time ≡ false = not_lt_by t d.time (omega arith) in
    rw (later_not, sooner_is) refl

sda_last : (t : ℕ) (e : Edge) (c : Option Run) (rest : List Moment) → Before t c
    → waits c None ++ (at t None (Some e) ∷ rest) ≡ waits c (Some (run_at t e)) ++ rest
sda_last t e None rest before = refl
sda_last t e (Some c) rest before =
    let sooner_is : nat_lt c.time t ≡ true = lt_by c.time t before in
    rw sooner_is refl

both_last : (t : ℕ) (e f : Edge) (rest : List Moment)
    → at t (Some e) (Some f) ∷ rest ≡ waits (Some (run_at t e)) (Some (run_at t f)) ++ rest
both_last t e f rest =
    let later_not : nat_lt t t ≡ false = not_lt_by t t (omega arith) in
    rw later_not refl

abbrev Writes : ℕ → ℕ → Option Edge → Option Edge → Option Run → Option Run → List Moment → Type 0
Writes glitch t e f c d rest =
    kept glitch (waits c d ++ put (at t e f) rest) ≡ kept glitch (waits (written t e c) (written t f d) ++ rest)

write_scl : (glitch t : ℕ) (e : Edge) (c d : Option Run) (rest : List Moment) → Young glitch t c → Before t d
    → Writes glitch t (Some e) None c d rest
write_scl glitch t e None d rest young before = ap (kept glitch) (scl_last t e d rest before)
write_scl glitch t e (Some c) d rest young before =
    drop_scl glitch t c d (at t (Some e) None ∷ rest) refl young ∙ ap (kept glitch) (scl_last t e d rest before)

write_sda : (glitch t : ℕ) (e : Edge) (c d : Option Run) (rest : List Moment) → Young glitch t d → Before t c
    → Writes glitch t None (Some e) c d rest
write_sda glitch t e c None rest young before = ap (kept glitch) (sda_last t e c rest before)
write_sda glitch t e c (Some d) rest young before =
    drop_sda glitch t c d (at t None (Some e) ∷ rest) refl young ∙ ap (kept glitch) (sda_last t e c rest before)

drop_both : (glitch t : ℕ) (e f : Edge) (c d : Option Run) (rest : List Moment) → Young glitch t c → Young glitch t d
    → kept glitch (waits c d ++ (at t (Some e) (Some f) ∷ rest)) ≡ kept glitch (at t (Some e) (Some f) ∷ rest)
drop_both glitch t e f None None rest scl_young sda_young = refl
drop_both glitch t e f (Some c) None rest scl_young sda_young =
    drop_scl glitch t c None (at t (Some e) (Some f) ∷ rest) refl scl_young
drop_both glitch t e f None (Some d) rest scl_young sda_young =
    drop_sda glitch t None d (at t (Some e) (Some f) ∷ rest) refl sda_young
drop_both glitch t e f (Some c) (Some d) rest scl_young sda_young =
    drop_scl glitch t c (Some d) (at t (Some e) (Some f) ∷ rest) refl scl_young
    ∙ drop_sda glitch t None d (at t (Some e) (Some f) ∷ rest) refl sda_young

pub write : (glitch t : ℕ) (e f : Option Edge) (c d : Option Run) (rest : List Moment) → Young glitch t c
    → Young glitch t d → Before t c → Before t d → Writes glitch t e f c d rest
write glitch t None None c d rest scl_young sda_young scl_before sda_before = refl
write glitch t (Some e) None c d rest scl_young sda_young scl_before sda_before =
    write_scl glitch t e c d rest scl_young sda_before
write glitch t None (Some f) c d rest scl_young sda_young scl_before sda_before =
    write_sda glitch t f c d rest sda_young scl_before
write glitch t (Some e) (Some f) c d rest scl_young sda_young scl_before sda_before =
    drop_both glitch t e f c d rest scl_young sda_young ∙ ap (kept glitch) (both_last t e f rest)
