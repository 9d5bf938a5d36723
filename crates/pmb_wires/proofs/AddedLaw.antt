-- A spike that is added inside a run leaves the changes without spikes the same: the law `added_spikes_are_dropped`.
--
-- In front of the spike each run of SDA ends later with it than without, or sooner, and is long enough in both cases. At
-- `up` the spike's own run is dropped, and at `down` SDA gets the level that it kept.
use Rattle.std.proofs.Common.{◌≡◌, ◌∙◌, ◌<◌, ◌≤◌, ◌+◌, ◌-◌, ◌&&◌, ℕ, true, false, Bool, Option, Some, None, List, [], ◌∷◌, ◌++◌, ◌⊎◌}
use Rattle.std.proofs.Common.{ap, refl, sym, subst, arith, nat_lt, is_none, is_some, inl, inr, if◌then◌else◌}
use Rattle.std.proofs.lemmas.Bool.{cases_Bool}
use Rattle.std.proofs.lemmas.Bool.Decides.{nat_tests}
use Rattle.pmb_wires.specs.Added.{IsFar, IsSpike, calm, is_calm, last_by, last_sda, levels_behind, time_if, with_sda, with_spike}
use Rattle.pmb_wires.specs.Added.{without_spike}
use Rattle.pmb_wires.specs.Changes.{after, change, changed, changes, is_blank, level_after, nothing, put, same}
use Rattle.pmb_wires.specs.Spikes.{behind_first, filtered, kept, next_scl, next_sda, unless_spike, without}
use Rattle.pmb_wires.specs.declared.level.Level.{Level}
use Rattle.pmb_wires.specs.declared.level.Level.TheVariants.{Low, High, Unknown}
use Rattle.pmb_wires.specs.declared.level.Levels.{Levels}
use Rattle.pmb_wires.specs.declared.moment.Edge.{Edge}
use Rattle.pmb_wires.specs.declared.moment.Moment.{Moment}
use Rattle.pmb_wires.proofs.SpikeLemmas.{no_edge}
use Rattle.pmb_wires.proofs.TrackerLaw.{after_changed}

abbrev at : ℕ → Option Edge → Option Edge → Moment
at time e f = record { time = time; scl = e; sda = f }

abbrev levels : Option Level → Option Level → Levels
levels c d = record { scl = c; sda = d }

same_sym : (a b : Level) → same a b ≡ same b a
same_sym Low Low = refl
same_sym Low High = refl
same_sym Low Unknown = refl
same_sym High Low = refl
same_sym High High = refl
same_sym High Unknown = refl
same_sym Unknown Low = refl
same_sym Unknown High = refl
same_sym Unknown Unknown = refl

same_self : (a : Level) → same a a ≡ true
same_self Low = refl
same_self High = refl
same_self Unknown = refl

-- ---- lists that are joined

put_append : (m : Moment) (a b : List Moment) → put m a ++ b ≡ put m (a ++ b)
put_append m a b = elim (cases_Bool (is_blank m)) [
  | inl blank ↦ rw blank refl
  | inr some ↦ rw some refl
]

changes_append : (now : Levels) (a b : List Moment)
    → changes now (a ++ b) ≡ changes now a ++ changes (levels_behind now a) b
changes_append now [] b = refl
changes_append now (m ∷ a) b =
    ap (put (changed now m)) (changes_append (after now m) a b)
    ∙ sym (put_append (changed now m) (changes (after now m) a) (changes (levels_behind (after now m) a) b))

levels_append : (now : Levels) (a b : List Moment) → levels_behind now (a ++ b) ≡ levels_behind (levels_behind now a) b
levels_append now [] b = refl
levels_append now (m ∷ a) b = levels_append (after now m) a b

changes_put : (now : Levels) (time : ℕ) (e f : Option Edge) (rest : List Moment)
    → changes now (put (at time e f) rest) ≡ put (changed now (at time e f)) (changes (after now (at time e f)) rest)
changes_put now time (Some e) f rest = refl
changes_put now time None (Some f) rest = refl
changes_put now time None None rest = refl

levels_put : (now : Levels) (time : ℕ) (e f : Option Edge) (rest : List Moment)
    → levels_behind now (put (at time e f) rest) ≡ levels_behind (after now (at time e f)) rest
levels_put now time (Some e) f rest = refl
levels_put now time None (Some f) rest = refl
levels_put now time None None rest = refl

levels_changes : (now : Levels) (ms : List Moment) → levels_behind now (changes now ms) ≡ levels_behind now ms
levels_changes now [] = refl
levels_changes now (m ∷ ms) =
    levels_put now m.time (changed now m).scl (changed now m).sda (changes (after now m) ms)
    ∙ ap (λ (l : Levels). levels_behind l (changes (after now m) ms)) (after_changed now m)
    ∙ levels_changes (after now m) ms

abbrev or : Option ℕ → Option ℕ → Option ℕ
or (Some time) other = Some time
or None other = other

next_scl_append : (a b : List Moment) → next_scl (a ++ b) ≡ or (next_scl a) (next_scl b)
next_scl_append [] b = refl
next_scl_append (m ∷ a) b = elim (cases_Bool (is_some m.scl)) [
  | inl some ↦ rw some refl
  | inr none ↦ rw none (next_scl_append a b)
]

next_sda_append : (a b : List Moment) → next_sda (a ++ b) ≡ or (next_sda a) (next_sda b)
next_sda_append [] b = refl
next_sda_append (m ∷ a) b = elim (cases_Bool (is_some m.sda)) [
  | inl some ↦ rw some refl
  | inr none ↦ rw none (next_sda_append a b)
]

-- ---- the front of a list, in front of the next changes

abbrev stays_of : ℕ → Moment → Option ℕ → Option ℕ → Moment
stays_of glitch m c d =
    at m.time (unless_spike glitch m.time c m.scl) (unless_spike glitch m.time d m.sda)

abbrev kept_front : ℕ → List Moment → Option ℕ → Option ℕ → List Moment
kept_front glitch [] c d = []
kept_front glitch (m ∷ ms) c d = put (stays_of glitch m (or (next_scl ms) c) (or (next_sda ms) d)) (kept_front glitch ms c d)

kept_append : (glitch : ℕ) (a b : List Moment)
    → kept glitch (a ++ b) ≡ kept_front glitch a (next_scl b) (next_sda b) ++ kept glitch b
kept_append glitch [] b = refl
kept_append glitch (m ∷ a) b =
    let first : without glitch m (a ++ b) ≡ stays_of glitch m (or (next_scl a) (next_scl b)) (or (next_sda a) (next_sda b)) =
    ap (λ (c : Option ℕ). stays_of glitch m c (next_sda (a ++ b))) (next_scl_append a b)
    ∙ ap (λ (d : Option ℕ). stays_of glitch m (or (next_scl a) (next_scl b)) d) (next_sda_append a b) in
    ap (λ (n : Moment). put n (kept glitch (a ++ b))) first
    ∙ ap (put (stays_of glitch m (or (next_scl a) (next_scl b)) (or (next_sda a) (next_sda b)))) (kept_append glitch a b)
    ∙ sym (put_append (stays_of glitch m (or (next_scl a) (next_scl b)) (or (next_sda a) (next_sda b)))
    (kept_front glitch a (next_scl b) (next_sda b)) (kept glitch b))

kept_put : (glitch time : ℕ) (e f : Option Edge) (rest : List Moment)
    → kept glitch (put (at time e f) rest) ≡ put (without glitch (at time e f) rest) (kept glitch rest)
kept_put glitch time (Some e) f rest = refl
kept_put glitch time None (Some f) rest = refl
kept_put glitch time None None rest =
    rw (no_edge glitch time (next_scl rest), no_edge glitch time (next_sda rest)) refl

-- ---- far from the next change

not_short : (glitch time next : ℕ) → time + glitch ≤ next → nat_lt (next - time) glitch ≡ false
not_short glitch time next far = grind (arith, nat_tests)

far_stays : (glitch time : ℕ) (next : Option ℕ) (e : Option Edge) → IsFar glitch (Some time) next
    → unless_spike glitch time next e ≡ e
far_stays glitch time None e far = refl
far_stays glitch time (Some next) e far =
    let long : nat_lt (next - time) glitch ≡ false = not_short glitch time next far in
    rw long refl

is_short : (glitch time next : ℕ) → time < next → next < time + glitch → nat_lt (next - time) glitch ≡ true
is_short glitch time next rises near = grind (arith, nat_tests)

far_on : (glitch from to : ℕ) (last next : Option ℕ) → IsFar glitch last (Some from) → from < to
    → IsFar glitch (Some to) next → IsFar glitch last next
far_on glitch from to None next far rises behind = tt
far_on glitch from to (Some last) None far rises behind = tt
far_on glitch from to (Some last) (Some next) far rises behind = omega arith

-- where SDA does not change any more, it has no last change
none_at : (e : Option Edge) (time : ℕ) (next : Option ℕ) → (if is_some e then Some time else next) ≡ None
    → (e ≡ None) × (next ≡ None)
none_at None time next none = (refl, none)
none_at (Some e) time next none = cc

none_last : (ms : List Moment) → next_sda ms ≡ None → last_sda ms ≡ None
none_last [] none = refl
none_last (m ∷ ms) none =
    let both = none_at m.sda m.time (next_sda ms) none in
    rw (both.1, both.0) refl

far_if_none : (glitch : ℕ) (ms : List Moment) (next : Option ℕ) → next_sda ms ≡ None → IsFar glitch (last_sda ms) next
far_if_none glitch ms next none =
    subst (λ (last : Option ℕ). IsFar glitch last next) (sym (none_last ms none)) tt

-- an edge of SDA that is the last one, far from the next change
sda_stays : (glitch time : ℕ) (e : Option Edge) (next : Option ℕ) → IsFar glitch (time_if e time) next
    → unless_spike glitch time next e ≡ e
sda_stays glitch time (Some e) next far = far_stays glitch time next (Some e) far
sda_stays glitch time None next far = no_edge glitch time next

-- the front doesn't depend on when SDA changes next, where that is far
abbrev Unaffected : ℕ → Option ℕ → Option ℕ → Option ℕ → List Moment → Type 0
Unaffected glitch c d d' ms = IsFar glitch (last_sda ms) d → IsFar glitch (last_sda ms) d'
    → kept_front glitch ms c d ≡ kept_front glitch ms c d'

unaffected_by : (glitch : ℕ) (m : Moment) (ms : List Moment) (c d d' n : Option ℕ) → next_sda ms ≡ n
    → IsFar glitch (last_by n (last_sda ms) m) d → IsFar glitch (last_by n (last_sda ms) m) d'
    → Unaffected glitch c d d' ms → kept_front glitch (m ∷ ms) c d ≡ kept_front glitch (m ∷ ms) c d'
unaffected_by glitch m ms c d d' (Some n) is far far' rest =
    rw (is, rest far far') refl
unaffected_by glitch m ms c d d' None is far far' rest =
    let others = rest (far_if_none glitch ms d is) (far_if_none glitch ms d' is) in
    rw (is, others, sda_stays glitch m.time m.sda d far, sda_stays glitch m.time m.sda d' far') refl

unaffected : (glitch : ℕ) (c d d' : Option ℕ) (ms : List Moment) → Unaffected glitch c d d' ms
unaffected glitch c d d' [] far far' = refl
unaffected glitch c d d' (m ∷ ms) far far' =
    unaffected_by glitch m ms c d d' (next_sda ms) refl far far' (unaffected glitch c d d' ms)

-- ---- the level of SDA behind a front

-- it is that of the last change
tail_next_scl : (s : ℕ) (sc : Option Edge) (leaves : Edge) (a b : List Moment) → next_scl a ≡ next_scl b
    → next_scl (put (at s sc (Some leaves)) a) ≡ next_scl (put (at s sc None) b)
tail_next_scl s None leaves a b same = same
tail_next_scl s (Some e) leaves a b same = refl

sda_alike : (ms : List Moment) (a b : Levels) → a.sda ≡ b.sda → (levels_behind a ms).sda ≡ (levels_behind b ms).sda
sda_alike [] a b same = same
sda_alike (m ∷ ms) a b same = sda_alike ms (after a m) (after b m) (ap (λ (l : Option Level). level_after l m.sda) same)

some_at : (e : Option Edge) (time n : ℕ) (next : Option ℕ) → (if is_some e then Some time else next) ≡ Some n
    → (is_some e ≡ true) ⊎ ((e ≡ None) × (next ≡ Some n))
some_at None time n next some = inr (refl, some)
some_at (Some e) time n next some = inl refl

an_edge : (e : Option Edge) (a b : Option Level) → is_some e ≡ true → level_after a e ≡ level_after b e
an_edge None a b is = cc
an_edge (Some e) a b is = refl

sda_settled : (ms : List Moment) (n : ℕ) (a b : Levels) → next_sda ms ≡ Some n
    → (levels_behind a ms).sda ≡ (levels_behind b ms).sda
sda_settled [] n a b is = cc
sda_settled (m ∷ ms) n a b is = elim (some_at m.sda m.time n (next_sda ms) is) [
  | inl here ↦ sda_alike ms (after a m) (after b m) (an_edge m.sda a.sda b.sda here)
  | inr later ↦ sda_settled ms n (after a m) (after b m) later.1
]

sda_kept_by : (glitch : ℕ) (now : Levels) (m : Moment) (ms : List Moment) (c d n : Option ℕ) → next_sda ms ≡ n
    → IsFar glitch (last_by n (last_sda ms) m) d
    → ((l : Levels) → IsFar glitch (last_sda ms) d
    → (levels_behind l (kept_front glitch ms c d)).sda ≡ (levels_behind l ms).sda)
    → (levels_behind now (kept_front glitch (m ∷ ms) c d)).sda ≡ (levels_behind now (m ∷ ms)).sda
sda_kept_by glitch now m ms c d (Some n) is far rest =
    let first = stays_of glitch m (or (next_scl ms) c) (or (next_sda ms) d) in
    ap (λ (l : Levels). l.sda) (levels_put now m.time first.scl first.sda (kept_front glitch ms c d))
    ∙ rest (after now first) far
    ∙ sda_settled ms n (after now first) (after now m) is
sda_kept_by glitch now m ms c d None is far rest =
    let first = stays_of glitch m (or (next_scl ms) c) (or (next_sda ms) d) in
    let stays : first.sda ≡ m.sda = rw is (sda_stays glitch m.time m.sda d far) in
    ap (λ (l : Levels). l.sda) (levels_put now m.time first.scl first.sda (kept_front glitch ms c d))
    ∙ rest (after now first) (far_if_none glitch ms d is)
    ∙ sda_alike ms (after now first) (after now m) (ap (level_after now.sda) stays)

sda_kept : (glitch : ℕ) (c d : Option ℕ) (ms : List Moment) (now : Levels) → IsFar glitch (last_sda ms) d
    → (levels_behind now (kept_front glitch ms c d)).sda ≡ (levels_behind now ms).sda
sda_kept glitch c d [] now far = refl
sda_kept glitch c d (m ∷ ms) now far =
    sda_kept_by glitch now m ms c d (next_sda ms) refl far (λ l rest. sda_kept glitch c d ms l rest)

-- ---- moments without an edge of SDA

calm_front : (m : Option Edge) (rest : Bool) → (is_none m && rest) ≡ true → (m ≡ None) × (rest ≡ true)
calm_front None rest is = (refl, is)
calm_front (Some e) rest is = cc

calm_next : (ms : List Moment) → is_calm ms ≡ true → next_sda ms ≡ None
calm_next [] is = refl
calm_next (m ∷ ms) is =
    let both = calm_front m.sda (is_calm ms) is in
    rw both.0 (calm_next ms both.1)

calm_put : (time : ℕ) (e : Option Edge) (rest : List Moment) → is_calm (put (at time e None) rest) ≡ is_calm rest
calm_put time None rest = refl
calm_put time (Some e) rest = refl

calm_changes : (now : Levels) (ms : List Moment) → is_calm ms ≡ true → is_calm (changes now ms) ≡ true
calm_changes now [] is = refl
calm_changes now (m ∷ ms) is =
    let both = calm_front m.sda (is_calm ms) is in
    let none : change now.sda m.sda ≡ None = rw both.0 refl in
    ap (λ (f : Option Edge). is_calm (put (at m.time (change now.scl m.scl) f) (changes (after now m) ms))) none
    ∙ calm_put m.time (change now.scl m.scl) (changes (after now m) ms)
    ∙ calm_changes (after now m) ms both.1

calm_kept : (glitch : ℕ) (c d : Option ℕ) (ms : List Moment) → is_calm ms ≡ true
    → is_calm (kept_front glitch ms c d) ≡ true
calm_kept glitch c d [] is = refl
calm_kept glitch c d (m ∷ ms) is =
    let both = calm_front m.sda (is_calm ms) is in
    let later = or (next_sda ms) d in
    let none : unless_spike glitch m.time later m.sda ≡ None = rw both.0 (no_edge glitch m.time later) in
    let scl = unless_spike glitch m.time (or (next_scl ms) c) m.scl in
    ap (λ (f : Option Edge). is_calm (put (at m.time scl f) (kept_front glitch ms c d))) none
    ∙ calm_put m.time scl (kept_front glitch ms c d)
    ∙ calm_kept glitch c d ms both.1

-- what SCL does there doesn't depend on SDA
calm_alike : (ms : List Moment) (a b : Levels) → a.scl ≡ b.scl → is_calm ms ≡ true → changes a ms ≡ changes b ms
calm_alike [] a b scl is = refl
calm_alike (m ∷ ms) a b scl is =
    let both = calm_front m.sda (is_calm ms) is in
    let rest = calm_alike ms (after a m) (after b m) (ap (λ (l : Option Level). level_after l m.scl) scl) both.1 in
    let none : change a.sda m.sda ≡ None = rw both.0 refl in
    let none_too : change b.sda m.sda ≡ None = rw both.0 refl in
    ap (λ (f : Option Edge). put (at m.time (change a.scl m.scl) f) (changes (after a m) ms)) none
    ∙ ap (λ (l : Option Level). put (at m.time (change l m.scl) None) (changes (after a m) ms)) scl
    ∙ ap (put (at m.time (change b.scl m.scl) None)) rest
    ∙ ap (λ (f : Option Edge). put (at m.time (change b.scl m.scl) f) (changes (after b m) ms)) (sym none_too)

calm_level : (ms : List Moment) (now : Levels) → is_calm ms ≡ true → (levels_behind now ms).sda ≡ now.sda
calm_level [] now is = refl
calm_level (m ∷ ms) now is =
    let both = calm_front m.sda (is_calm ms) is in
    calm_level ms (after now m) both.1 ∙ ap (level_after now.sda) both.0

scl_alike : (ms : List Moment) (a b : Levels) → a.scl ≡ b.scl → (levels_behind a ms).scl ≡ (levels_behind b ms).scl
scl_alike [] a b same = same
scl_alike (m ∷ ms) a b same = scl_alike ms (after a m) (after b m) (ap (λ (l : Option Level). level_after l m.scl) same)

-- ---- what changes at the spike, and behind it

abbrev tail : ℕ → Option Edge → Option Edge → List Moment → ℕ → Option Edge → Option Edge → List Moment → List Moment
tail s sc x m e ec y b = put (at s sc x) (m ++ put (at e ec y) b)

abbrev middle : Levels → Moment → List Moment → Levels
middle now up mid = levels_behind (after now (calm up)) mid

abbrev tail_of : Levels → Moment → List Moment → Moment → List Moment → Option Edge → Option Edge → List Moment
tail_of now up mid down back x y =
    tail up.time (change now.scl up.scl) x (changes (after now (calm up)) mid)
    down.time (change (middle now up mid).scl down.scl) y (changes (after (middle now up mid) (calm down)) back)

calm_tail : (now : Levels) (up : Moment) (mid : List Moment) (down : Moment) (back : List Moment)
    → changes now (calm up ∷ mid ++ calm down ∷ back) ≡ tail_of now up mid down back None None
calm_tail now up mid down back =
    ap (put (at up.time (change now.scl up.scl) None)) (changes_append (after now (calm up)) mid (calm down ∷ back))

change_to : (now : Option Level) (level : Level) (e : Edge) → now ≡ Some level → same level e.level ≡ false
    → change now (Some e) ≡ Some e
change_to now level e is other = rw (is, other) refl

spike_tail : (now : Levels) (up : Moment) (leaves : Edge) (mid : List Moment) (down : Moment) (returns : Edge)
    (back : List Moment) → now.sda ≡ Some returns.level → same returns.level leaves.level ≡ false → is_calm mid ≡ true
    → changes now (with_sda up leaves ∷ mid ++ with_sda down returns ∷ back)
    ≡ tail_of now up mid down back (Some leaves) (Some returns)
spike_tail now up leaves mid down returns back run other alone =
    let with = after now (with_sda up leaves) in
    let calmly = after now (calm up) in
    let with_mid = levels_behind with mid in
    let calm_mid = levels_behind calmly mid in
    let scl : with_mid.scl ≡ calm_mid.scl = scl_alike mid with calmly refl in
    let sda : with_mid.sda ≡ Some leaves.level = calm_level mid with alone in
    let kept_level : calm_mid.sda ≡ Some returns.level = calm_level mid calmly alone ∙ run in
    let back_other : same leaves.level returns.level ≡ false = same_sym leaves.level returns.level ∙ other in
    let first : change now.sda (Some leaves) ≡ Some leaves = change_to now.sda returns.level leaves run other in
    let second : change with_mid.sda (Some returns) ≡ Some returns =
    change_to with_mid.sda leaves.level returns sda back_other in
    let behind : after with_mid (with_sda down returns) ≡ after calm_mid (calm down) =
    ap (λ (c : Option Level). levels (level_after c down.scl) (Some returns.level)) scl
    ∙ ap (λ (d : Option Level). levels (level_after calm_mid.scl down.scl) d) (sym kept_level) in
    let last : changes with_mid (with_sda down returns ∷ back)
    ≡ put (at down.time (change calm_mid.scl down.scl) (Some returns)) (changes (after calm_mid (calm down)) back) =
    ap (λ (f : Option Edge). put (at down.time (change with_mid.scl down.scl) f)
    (changes (after with_mid (with_sda down returns)) back)) second
    ∙ ap (λ (c : Option Level). put (at down.time (change c down.scl) (Some returns))
    (changes (after with_mid (with_sda down returns)) back)) scl
    ∙ ap (λ (l : Levels). put (at down.time (change calm_mid.scl down.scl) (Some returns)) (changes l back)) behind in
    let rest : changes with (mid ++ with_sda down returns ∷ back)
    ≡ changes calmly mid ++ put (at down.time (change calm_mid.scl down.scl) (Some returns))
    (changes (after calm_mid (calm down)) back) =
    changes_append with mid (with_sda down returns ∷ back)
    ∙ ap (λ (m : List Moment). m ++ changes with_mid (with_sda down returns ∷ back))
    (calm_alike mid with calmly refl alone)
    ∙ ap (λ (b : List Moment). changes calmly mid ++ b) last in
    ap (λ (f : Option Edge). put (at up.time (change now.scl up.scl) f)
    (changes with (mid ++ with_sda down returns ∷ back))) first
    ∙ ap (put (at up.time (change now.scl up.scl) (Some leaves))) rest

-- ---- what stays of that

scl_put : (time : ℕ) (e : Option Edge) (f : Edge) (rest : List Moment)
    → next_scl (put (at time e (Some f)) rest) ≡ next_scl (put (at time e None) rest)
scl_put time None f rest = refl
scl_put time (Some e) f rest = refl

sda_put : (time : ℕ) (e : Option Edge) (f : Edge) (rest : List Moment)
    → next_sda (put (at time e (Some f)) rest) ≡ Some time
sda_put time None f rest = refl
sda_put time (Some e) f rest = refl

sda_calm_put : (time : ℕ) (e : Option Edge) (rest : List Moment) → next_sda (put (at time e None) rest) ≡ next_sda rest
sda_calm_put time None rest = refl
sda_calm_put time (Some e) rest = refl

-- the tail without its spikes, where SDA changes so
abbrev stays : ℕ → ℕ → Option Edge → Option ℕ → List Moment → Option ℕ → ℕ → Option Edge → Option Edge → List Moment
    → List Moment
stays glitch s sc c m d e ec y b =
    put (at s (unless_spike glitch s c sc) None)
    (kept_front glitch m d None ++ put (at e (unless_spike glitch e (next_scl b) ec) y) (kept glitch b))

kept_tail : (glitch s : ℕ) (sc x : Option Edge) (m : List Moment) (e : ℕ) (ec y : Option Edge) (b : List Moment)
    → is_calm m ≡ true
    → unless_spike glitch s (next_sda (m ++ put (at e ec y) b)) x ≡ None
    → unless_spike glitch e (next_sda b) y ≡ y
    → kept glitch (tail s sc x m e ec y b)
    ≡ stays glitch s sc (next_scl (m ++ put (at e ec y) b)) m (next_scl (put (at e ec y) b)) e ec y b
kept_tail glitch s sc x m e ec y b alone drops keeps =
    let p = put (at e ec y) b in
    let none : next_sda m ≡ None = calm_next m alone in
    let front : kept_front glitch m (next_scl p) (next_sda p) ≡ kept_front glitch m (next_scl p) None =
    unaffected glitch (next_scl p) (next_sda p) None m (far_if_none glitch m (next_sda p) none)
    (far_if_none glitch m None none) in
    let last : kept glitch p ≡ put (at e (unless_spike glitch e (next_scl b) ec) y) (kept glitch b) =
    kept_put glitch e ec y b
    ∙ ap (λ (f : Option Edge). put (at e (unless_spike glitch e (next_scl b) ec) f) (kept glitch b)) keeps in
    let rest : kept glitch (m ++ p) ≡ kept_front glitch m (next_scl p) None
    ++ put (at e (unless_spike glitch e (next_scl b) ec) y) (kept glitch b) =
    kept_append glitch m p
    ∙ ap (λ (l : List Moment). l ++ kept glitch p) front
    ∙ ap (λ (l : List Moment). kept_front glitch m (next_scl p) None ++ l) last in
    kept_put glitch s sc x (m ++ p)
    ∙ ap (λ (f : Option Edge). put (at s (unless_spike glitch s (next_scl (m ++ p)) sc) f) (kept glitch (m ++ p))) drops
    ∙ ap (put (at s (unless_spike glitch s (next_scl (m ++ p)) sc) None)) rest

-- SDA gets the level that it kept: no change
again_put : (now : Levels) (e : ℕ) (ec : Option Edge) (returns : Edge) (rest : List Moment)
    → now.sda ≡ Some returns.level
    → changes now (put (at e ec (Some returns)) rest) ≡ changes now (put (at e ec None) rest)
again_put now e ec returns rest run =
    let none : change now.sda (Some returns) ≡ None = rw (run, same_self returns.level) refl in
    let behind : after now (at e ec (Some returns)) ≡ after now (at e ec None) =
    ap (levels (level_after now.scl ec)) (sym run) in
    changes_put now e ec (Some returns) rest
    ∙ ap (λ (f : Option Edge). put (at e (change now.scl ec) f) (changes (after now (at e ec (Some returns))) rest)) none
    ∙ ap (λ (l : Levels). put (at e (change now.scl ec) None) (changes l rest)) behind
    ∙ sym (changes_put now e ec None rest)

again_tail : (now : Levels) (s : ℕ) (sc : Option Edge) (m : List Moment) (e : ℕ) (ec : Option Edge) (returns : Edge)
    (rest : List Moment) → now.sda ≡ Some returns.level → is_calm m ≡ true
    → changes now (put (at s sc None) (m ++ put (at e ec (Some returns)) rest))
    ≡ changes now (put (at s sc None) (m ++ put (at e ec None) rest))
again_tail now s sc m e ec returns rest run alone =
    let up = after now (at s sc None) in
    let mid = levels_behind up m in
    let level : mid.sda ≡ Some returns.level = calm_level m up alone ∙ run in
    let same_rest = again_put mid e ec returns rest level in
    changes_put now s sc None (m ++ put (at e ec (Some returns)) rest)
    ∙ ap (put (changed now (at s sc None)))
    (changes_append up m (put (at e ec (Some returns)) rest)
    ∙ ap (λ (l : List Moment). changes up m ++ l) same_rest
    ∙ sym (changes_append up m (put (at e ec None) rest)))
    ∙ sym (changes_put now s sc None (m ++ put (at e ec None) rest))

-- ---- the whole

abbrev drops_at : ℕ → Moment → List Moment → List Moment → List Moment
drops_at glitch first ms rest = changes nothing (first ∷ kept glitch (ms ++ rest))

whole_front : (glitch : ℕ) (first : Moment) (ms rest : List Moment)
    → drops_at glitch first ms rest
    ≡ changes nothing (first ∷ kept_front glitch ms (next_scl rest) (next_sda rest))
    ++ changes (levels_behind nothing (first ∷ kept_front glitch ms (next_scl rest) (next_sda rest))) (kept glitch rest)
whole_front glitch first ms rest =
    ap (λ (l : List Moment). changes nothing (first ∷ l)) (kept_append glitch ms rest)
    ∙ changes_append nothing (first ∷ kept_front glitch ms (next_scl rest) (next_sda rest)) (kept glitch rest)

far_by : (glitch : ℕ) (m : Moment) (ms : List Moment) (next n : Option ℕ) → next_sda ms ≡ n
    → IsFar glitch (last_by n (last_sda ms) m) next → IsFar glitch (last_sda ms) next
far_by glitch m ms next (Some n) is far = far
far_by glitch m ms next None is far = far_if_none glitch ms next is

far_behind : (glitch : ℕ) (m : Moment) (ms : List Moment) (next : Option ℕ) → IsFar glitch (last_sda (m ∷ ms)) next
    → IsFar glitch (last_sda ms) next
far_behind glitch m ms next far = far_by glitch m ms next (next_sda ms) refl far

alike : (glitch : ℕ) (first : Moment) (ms : List Moment) (s : ℕ) (sc : Option Edge) (leaves : Edge) (m : List Moment)
    (e : ℕ) (ec : Option Edge) (returns : Edge) (b : List Moment)
    → (levels_behind nothing (first ∷ ms)).sda ≡ Some returns.level → is_calm m ≡ true → s < e → e < s + glitch
    → IsFar glitch (last_sda (first ∷ ms)) (Some s) → IsFar glitch (Some e) (next_sda b)
    → drops_at glitch first ms (tail s sc (Some leaves) m e ec (Some returns) b)
    ≡ drops_at glitch first ms (tail s sc None m e ec None b)
alike glitch first ms s sc leaves m e ec returns b run alone rises short behind before =
    let with = tail s sc (Some leaves) m e ec (Some returns) b in
    let calmly = tail s sc None m e ec None b in
    let with_end = put (at e ec (Some returns)) b in
    let calm_end = put (at e ec None) b in
    let no_change : next_sda m ≡ None = calm_next m alone in
    let next_with : next_sda (m ++ with_end) ≡ Some e =
    next_sda_append m with_end ∙ ap (λ (n : Option ℕ). or n (next_sda with_end)) no_change ∙ sda_put e ec returns b in
    let next_calm : next_sda (m ++ calm_end) ≡ next_sda b =
    next_sda_append m calm_end ∙ ap (λ (n : Option ℕ). or n (next_sda calm_end)) no_change ∙ sda_calm_put e ec b in
    let end_scl : next_scl with_end ≡ next_scl calm_end = scl_put e ec returns b in
    let rest_scl : next_scl (m ++ with_end) ≡ next_scl (m ++ calm_end) =
    next_scl_append m with_end ∙ ap (or (next_scl m)) end_scl ∙ sym (next_scl_append m calm_end) in
    let is_spike : unless_spike glitch s (next_sda (m ++ with_end)) (Some leaves) ≡ None =
    rw (next_with, is_short glitch s e rises short) refl in
    let kept_with = kept_tail glitch s sc (Some leaves) m e ec (Some returns) b alone is_spike
    (far_stays glitch e (next_sda b) (Some returns) before) in
    let kept_calm = kept_tail glitch s sc None m e ec None b alone (no_edge glitch s (next_sda (m ++ calm_end)))
    (no_edge glitch e (next_sda b)) in
    let alike_tails : stays glitch s sc (next_scl (m ++ with_end)) m (next_scl with_end) e ec None b
    ≡ stays glitch s sc (next_scl (m ++ calm_end)) m (next_scl calm_end) e ec None b =
    ap (λ (c : Option ℕ). stays glitch s sc c m (next_scl with_end) e ec None b) rest_scl
    ∙ ap (λ (d : Option ℕ). stays glitch s sc (next_scl (m ++ calm_end)) m d e ec None b) end_scl in
    let tail_scl : next_scl with ≡ next_scl calmly = tail_next_scl s sc leaves (m ++ with_end) (m ++ calm_end) rest_scl in
    let far_with : IsFar glitch (last_sda ms) (next_sda with) =
    subst (λ (n : Option ℕ). IsFar glitch (last_sda ms) n) (sym (sda_put s sc leaves (m ++ with_end)))
    (far_behind glitch first ms (Some s) behind) in
    let far_calm : IsFar glitch (last_sda ms) (next_sda calmly) =
    subst (λ (n : Option ℕ). IsFar glitch (last_sda ms) n) (sym (sda_calm_put s sc (m ++ calm_end) ∙ next_calm))
    (far_on glitch s e (last_sda ms) (next_sda b) (far_behind glitch first ms (Some s) behind) rises before) in
    let front : kept_front glitch ms (next_scl with) (next_sda with)
    ≡ kept_front glitch ms (next_scl calmly) (next_sda calmly) =
    unaffected glitch (next_scl with) (next_sda with) (next_sda calmly) ms far_with far_calm
    ∙ ap (λ (c : Option ℕ). kept_front glitch ms c (next_sda calmly)) tail_scl in
    let now = levels_behind nothing (first ∷ kept_front glitch ms (next_scl calmly) (next_sda calmly)) in
    let level : now.sda ≡ Some returns.level =
    sda_kept glitch (next_scl calmly) (next_sda calmly) ms (after nothing first) far_calm ∙ run in
    let same_changes : changes now (kept glitch with) ≡ changes now (kept glitch calmly) =
    ap (changes now) kept_with
    ∙ again_tail now s (unless_spike glitch s (next_scl (m ++ with_end)) sc)
    (kept_front glitch m (next_scl with_end) None) e (unless_spike glitch e (next_scl b) ec) returns
    (kept glitch b) level (calm_kept glitch (next_scl with_end) None m alone)
    ∙ ap (changes now) (alike_tails ∙ sym kept_calm) in
    whole_front glitch first ms with
    ∙ ap (λ (l : List Moment). changes nothing (first ∷ l) ++ changes (levels_behind nothing (first ∷ l)) (kept glitch with))
    front
    ∙ ap (λ (l : List Moment). changes nothing (first ∷ kept_front glitch ms (next_scl calmly) (next_sda calmly)) ++ l)
    same_changes
    ∙ sym (whole_front glitch first ms calmly)

-- a front whose SDA has a level is not empty
alike_if : (glitch : ℕ) (front : List Moment) (s : ℕ) (sc : Option Edge) (leaves : Edge) (m : List Moment)
    (e : ℕ) (ec : Option Edge) (returns : Edge) (b : List Moment)
    → (levels_behind nothing front).sda ≡ Some returns.level → is_calm m ≡ true → s < e → e < s + glitch
    → IsFar glitch (last_sda front) (Some s) → IsFar glitch (Some e) (next_sda b)
    → changes nothing (behind_first glitch (front ++ tail s sc (Some leaves) m e ec (Some returns) b))
    ≡ changes nothing (behind_first glitch (front ++ tail s sc None m e ec None b))
alike_if glitch [] s sc leaves m e ec returns b run alone rises short behind before = cc
alike_if glitch (first ∷ ms) s sc leaves m e ec returns b run alone rises short behind before =
    alike glitch first ms s sc leaves m e ec returns b run alone rises short behind before

pub added_spike : (glitch : ℕ) (front : List Moment) (up : Moment) (leaves : Edge) (mid : List Moment) (down : Moment)
    (returns : Edge) (back : List Moment) → IsSpike glitch front up leaves mid down returns back
    → filtered glitch (with_spike front up leaves mid down returns back)
    ≡ filtered glitch (without_spike front up mid down back)
added_spike glitch front up leaves mid down returns back spike =
    let now = levels_behind nothing front in
    let calmly = after now (calm up) in
    let with : changes nothing (with_spike front up leaves mid down returns back)
    ≡ changes nothing front ++ tail_of now up mid down back (Some leaves) (Some returns) =
    changes_append nothing front (with_sda up leaves ∷ mid ++ with_sda down returns ∷ back)
    ∙ ap (λ (l : List Moment). changes nothing front ++ l)
    (spike_tail now up leaves mid down returns back spike.run spike.other spike.alone) in
    let without_it : changes nothing (without_spike front up mid down back)
    ≡ changes nothing front ++ tail_of now up mid down back None None =
    changes_append nothing front (calm up ∷ mid ++ calm down ∷ back)
    ∙ ap (λ (l : List Moment). changes nothing front ++ l) (calm_tail now up mid down back) in
    let run : (levels_behind nothing (changes nothing front)).sda ≡ Some returns.level =
    ap (λ (l : Levels). l.sda) (levels_changes nothing front) ∙ spike.run in
    let levels_there : levels_behind nothing (without_spike front up mid down [])
    ≡ after (middle now up mid) (calm down) =
    levels_append nothing front (calm up ∷ mid ++ calm down ∷ [])
    ∙ levels_append calmly mid (calm down ∷ []) in
    let before : IsFar glitch (Some down.time) (next_sda (changes (after (middle now up mid) (calm down)) back)) =
    subst (λ (l : Levels). IsFar glitch (Some down.time) (next_sda (changes l back))) levels_there
    spike.before_next in
    ap (λ (l : List Moment). changes nothing (behind_first glitch l)) with
    ∙ alike_if glitch (changes nothing front) up.time (change now.scl up.scl) leaves (changes calmly mid)
    down.time (change (middle now up mid).scl down.scl) returns
    (changes (after (middle now up mid) (calm down)) back) run (calm_changes calmly mid spike.alone)
    spike.rises spike.short spike.behind_last before
    ∙ sym (ap (λ (l : List Moment). changes nothing (behind_first glitch l)) without_it)
