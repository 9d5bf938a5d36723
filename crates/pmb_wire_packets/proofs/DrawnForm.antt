-- No stroke of a wave form begins a spike: its signals are those of its strokes. For the law `reads_drawn_packets`.
use Rattle.std.proofs.Common.{◌≡◌, ◌∙◌, ◌<◌, ◌≤◌, ◌+◌, ◌-◌, ℕ, suc, false, Bool, Option, Some, None, List, [], ◌∷◌, ◌++◌}
use Rattle.std.proofs.Common.{ap, refl, sym, subst, arith, nat_lt, inl, inr, if◌then◌else◌, append-nil}
use Rattle.std.proofs.lemmas.Bool.{cases_Bool}
use Rattle.std.proofs.lemmas.Bool.Decides.{nat_tests}
use Rattle.pmb_wire_packets.specs.Drawn.{Pen, Stroke, Scl, Sda, all_read, drawn, rest_at}
use Rattle.pmb_wire_packets.specs.Packets.{Item}
use Rattle.pmb_wire_packets.specs.Pieces.{EachRises, RisesBehind, all_say, first_items, first_piece, items, items_behind}
use Rattle.pmb_wires.specs.Changes.{Rises, RisesFrom, after, change, changed, changes, has, put}
use Rattle.pmb_wires.specs.Signals.{signals_of_piece}
use Rattle.pmb_wires.specs.Spikes.{filtered, kept, next_scl, next_sda, unless_spike, without}
use Rattle.pmb_wires.specs.declared.level.Level.{Level}
use Rattle.pmb_wires.specs.declared.level.Level.TheVariants.{High}
use Rattle.pmb_wires.specs.declared.level.Levels.{Levels}
use Rattle.pmb_wires.specs.declared.moment.Edge.{Edge}
use Rattle.pmb_wires.specs.declared.moment.Moment.{Moment}
use Rattle.pmb_wires.proofs.SpikeLemmas.{NotBefore, no_edge, sooner}
use Rattle.pmb_wires.proofs.TrackerLaw.{after_changed}

abbrev at : ℕ → Option Edge → Option Edge → Moment
at time e f = record { time = time; scl = e; sda = f }

-- both wires are 1
abbrev pub high : Levels
high = record { scl = Some High; sda = Some High }

-- ---- one piece

first_piece_all : (ms : List Moment) → first_piece (all_read ms) ≡ ms
first_piece_all [] = refl
first_piece_all (m ∷ ms) = ap (λ (l : List Moment). m ∷ l) (first_piece_all ms)

none_behind : (glitch : ℕ) (ms : List Moment) → items_behind glitch (all_read ms) ≡ []
none_behind glitch [] = refl
none_behind glitch (m ∷ ms) = none_behind glitch ms

pub one_piece : (glitch : ℕ) (ms : List Moment) → items glitch (all_read ms) ≡ all_say (signals_of_piece glitch ms)
one_piece glitch ms =
    ap (λ (l : List Item). first_items glitch (all_read ms) ++ l) (none_behind glitch ms)
    ∙ append-nil (first_items glitch (all_read ms))
    ∙ ap (λ (l : List Moment). all_say (signals_of_piece glitch l)) (first_piece_all ms)

none_fails : (ms : List Moment) → RisesBehind (all_read ms)
none_fails [] = tt
none_fails (m ∷ ms) = none_fails ms

rises_drawn : (pen : Pen) → ((k : ℕ) → 0 < pen.phase k) → (n t : ℕ) (strokes : List Stroke)
    → RisesFrom t (drawn pen n t strokes)
rises_drawn pen some n t [] = tt
rises_drawn pen some n t (Scl level ∷ strokes) =
    (omega (arith, some n), rises_drawn pen some (suc n) (t + pen.phase n) strokes)
rises_drawn pen some n t (Sda level ∷ strokes) =
    (omega (arith, some n), rises_drawn pen some (suc n) (t + pen.phase n) strokes)

pub each_rises : (pen : Pen) → ((k : ℕ) → 0 < pen.phase k) → (time : ℕ) (strokes : List Stroke)
    → EachRises (all_read (rest_at pen time ∷ drawn pen 1 time strokes))
each_rises pen some time strokes =
    let ms = drawn pen 1 time strokes in
    let rises : Rises (rest_at pen time ∷ ms) = rises_drawn pen some 1 time strokes in
    (subst Rises (sym (first_piece_all (rest_at pen time ∷ ms))) rises, none_fails ms)

-- ---- moments that are far from each other

abbrev pub Far : ℕ → ℕ → List Moment → Type 0
Far glitch t [] = Unit {0}
Far glitch t (m ∷ ms) = (t + glitch ≤ m.time) × Far glitch m.time ms

pub far_drawn : (glitch : ℕ) (pen : Pen) → ((k : ℕ) → glitch ≤ pen.phase k) → (n t : ℕ) (strokes : List Stroke)
    → Far glitch t (drawn pen n t strokes)
far_drawn glitch pen longer n t [] = tt
far_drawn glitch pen longer n t (Scl level ∷ strokes) =
    (omega (arith, longer n), far_drawn glitch pen longer (suc n) (t + pen.phase n) strokes)
far_drawn glitch pen longer n t (Sda level ∷ strokes) =
    (omega (arith, longer n), far_drawn glitch pen longer (suc n) (t + pen.phase n) strokes)

not_short : (glitch time next : ℕ) → time + glitch ≤ next → nat_lt (next - time) glitch ≡ false
not_short glitch time next far = grind (arith, nat_tests)

stays : (glitch time : ℕ) (next : Option ℕ) (e : Option Edge) → NotBefore (time + glitch) next
    → unless_spike glitch time next e ≡ e
stays glitch time None e far = refl
stays glitch time (Some next) e far =
    let long : nat_lt (next - time) glitch ≡ false = not_short glitch time next far in
    rw long refl

put_scl : (t time : ℕ) (e f : Option Edge) (ms : List Moment) → t ≤ time → NotBefore t (next_scl ms)
    → NotBefore t (next_scl (put (at time e f) ms))
put_scl t time None None ms le behind = behind
put_scl t time None (Some f) ms le behind = behind
put_scl t time (Some e) f ms le behind = le

put_sda : (t time : ℕ) (e f : Option Edge) (ms : List Moment) → t ≤ time → NotBefore t (next_sda ms)
    → NotBefore t (next_sda (put (at time e f) ms))
put_sda t time None None ms le behind = behind
put_sda t time None (Some f) ms le behind = le
put_sda t time (Some e) None ms le behind = behind
put_sda t time (Some e) (Some f) ms le behind = le

scl_far : (glitch t : ℕ) (now : Levels) (ms : List Moment) → Far glitch t ms
    → NotBefore (t + glitch) (next_scl (changes now ms))
scl_far glitch t now [] far = tt
scl_far glitch t now (m ∷ ms) far =
    let le : t + glitch ≤ m.time = far.0 in
    let farther : t + glitch ≤ m.time + glitch = omega arith in
    put_scl (t + glitch) m.time (changed now m).scl (changed now m).sda (changes (after now m) ms) le
    (sooner (t + glitch) (m.time + glitch) (next_scl (changes (after now m) ms)) farther
    (scl_far glitch m.time (after now m) ms far.1))

sda_far : (glitch t : ℕ) (now : Levels) (ms : List Moment) → Far glitch t ms
    → NotBefore (t + glitch) (next_sda (changes now ms))
sda_far glitch t now [] far = tt
sda_far glitch t now (m ∷ ms) far =
    let le : t + glitch ≤ m.time = far.0 in
    let farther : t + glitch ≤ m.time + glitch = omega arith in
    put_sda (t + glitch) m.time (changed now m).scl (changed now m).sda (changes (after now m) ms) le
    (sooner (t + glitch) (m.time + glitch) (next_sda (changes (after now m) ms)) farther
    (sda_far glitch m.time (after now m) ms far.1))

kept_put : (glitch time : ℕ) (e f : Option Edge) (rest : List Moment)
    → kept glitch (put (at time e f) rest) ≡ put (without glitch (at time e f) rest) (kept glitch rest)
kept_put glitch time (Some e) f rest = refl
kept_put glitch time None (Some f) rest = refl
kept_put glitch time None None rest =
    rw (no_edge glitch time (next_scl rest), no_edge glitch time (next_sda rest)) refl

-- all of their changes stay
keeps_all : (glitch t : ℕ) (now : Levels) (ms : List Moment) → Far glitch t ms
    → kept glitch (changes now ms) ≡ changes now ms
keeps_all glitch t now [] far = refl
keeps_all glitch t now (m ∷ ms) far =
    let c = changed now m in
    let rest = changes (after now m) ms in
    kept_put glitch m.time c.scl c.sda rest
    ∙ ap (λ (e : Option Edge). put (at m.time e (unless_spike glitch m.time (next_sda rest) c.sda)) (kept glitch rest))
    (stays glitch m.time (next_scl rest) c.scl (scl_far glitch m.time (after now m) ms far.1))
    ∙ ap (λ (f : Option Edge). put (at m.time c.scl f) (kept glitch rest))
    (stays glitch m.time (next_sda rest) c.sda (sda_far glitch m.time (after now m) ms far.1))
    ∙ ap (put c) (keeps_all glitch m.time (after now m) ms far.1)

-- ---- changes of changes

change_twice : (now : Option Level) (e : Option Edge) → change now (change now e) ≡ change now e
change_twice now None = refl
change_twice now (Some e) = elim (cases_Bool (has now e.level)) [
  | inl is ↦ subst (λ (b : Bool). change now (if b then None else Some e) ≡ (if b then None else Some e)) (sym is) refl
  | inr not ↦
      let stays_so : change now (Some e) ≡ Some e = rw not refl in
      subst (λ (b : Bool). change now (if b then None else Some e) ≡ (if b then None else Some e)) (sym not) stays_so
]

changed_twice : (now : Levels) (m : Moment) → changed now (changed now m) ≡ changed now m
changed_twice now m =
    ap (λ (e : Option Edge). at m.time e (change now.sda (change now.sda m.sda))) (change_twice now.scl m.scl)
    ∙ ap (at m.time (change now.scl m.scl)) (change_twice now.sda m.sda)

changes_put : (now : Levels) (time : ℕ) (e f : Option Edge) (rest : List Moment)
    → changes now (put (at time e f) rest) ≡ put (changed now (at time e f)) (changes (after now (at time e f)) rest)
changes_put now time (Some e) f rest = refl
changes_put now time None (Some f) rest = refl
changes_put now time None None rest = refl

changes_twice : (now : Levels) (ms : List Moment) → changes now (changes now ms) ≡ changes now ms
changes_twice now [] = refl
changes_twice now (m ∷ ms) =
    let c = changed now m in
    let rest = changes (after now m) ms in
    changes_put now m.time c.scl c.sda rest
    ∙ ap (λ (l : Levels). put (changed now c) (changes l rest)) (after_changed now m)
    ∙ ap (λ (n : Moment). put n (changes (after now m) rest)) (changed_twice now m)
    ∙ ap (put c) (changes_twice (after now m) ms)

-- ---- the whole

pub form : (glitch : ℕ) (pen : Pen) (time : ℕ) (ms : List Moment) → Far glitch time ms
    → filtered glitch (rest_at pen time ∷ ms) ≡ rest_at pen time ∷ changes high ms
form glitch pen time ms far =
    ap (λ (l : List Moment). rest_at pen time ∷ changes high l) (keeps_all glitch time high ms far)
    ∙ ap (λ (l : List Moment). rest_at pen time ∷ l) (changes_twice high ms)
