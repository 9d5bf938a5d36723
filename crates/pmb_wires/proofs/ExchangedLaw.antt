-- Spikes of SCL are dropped as those of SDA: the law `wires_are_alike`.
use Rattle.std.proofs.Common.{◌≡◌, ◌∙◌, ℕ, Option, Some, None, List, [], ◌∷◌, ap, refl, is_some, inl, inr}
use Rattle.std.proofs.lemmas.Bool.{cases_Bool}
use Rattle.pmb_wires.specs.Added.{all_exchanged, exchanged}
use Rattle.pmb_wires.specs.Changes.{after, change, changes, nothing, put}
use Rattle.pmb_wires.specs.Spikes.{behind_first, filtered, kept, next_scl, next_sda, unless_spike}
use Rattle.pmb_wires.specs.declared.level.Levels.{Levels}
use Rattle.pmb_wires.specs.declared.moment.Edge.{Edge}
use Rattle.pmb_wires.specs.declared.moment.Moment.{Moment}

abbrev levels_exchanged : Levels → Levels
levels_exchanged now = record { scl = now.sda; sda = now.scl }

abbrev at : ℕ → Option Edge → Option Edge → Moment
at time e f = record { time = time; scl = e; sda = f }

put_exchanged : (time : ℕ) (e f : Option Edge) (ms : List Moment)
    → put (at time f e) (all_exchanged ms) ≡ all_exchanged (put (at time e f) ms)
put_exchanged time None None ms = refl
put_exchanged time None (Some f) ms = refl
put_exchanged time (Some e) None ms = refl
put_exchanged time (Some e) (Some f) ms = refl

changes_exchanged : (now : Levels) (ms : List Moment)
    → changes (levels_exchanged now) (all_exchanged ms) ≡ all_exchanged (changes now ms)
changes_exchanged now [] = refl
changes_exchanged now (m ∷ ms) =
    ap (put (at m.time (change now.sda m.sda) (change now.scl m.scl))) (changes_exchanged (after now m) ms)
    ∙ put_exchanged m.time (change now.scl m.scl) (change now.sda m.sda) (changes (after now m) ms)

next_exchanged : (ms : List Moment) → next_scl (all_exchanged ms) ≡ next_sda ms
next_exchanged [] = refl
next_exchanged (m ∷ ms) = elim (cases_Bool (is_some m.sda)) [
  | inl some ↦ rw some refl
  | inr none ↦ rw none (next_exchanged ms)
]

next_exchanged_back : (ms : List Moment) → next_sda (all_exchanged ms) ≡ next_scl ms
next_exchanged_back [] = refl
next_exchanged_back (m ∷ ms) = elim (cases_Bool (is_some m.scl)) [
  | inl some ↦ rw some refl
  | inr none ↦ rw none (next_exchanged_back ms)
]

kept_exchanged : (glitch : ℕ) (ms : List Moment) → kept glitch (all_exchanged ms) ≡ all_exchanged (kept glitch ms)
kept_exchanged glitch [] = refl
kept_exchanged glitch (m ∷ ms) =
    let t = m.time in
    ap (λ (c : Option ℕ). put (at t (unless_spike glitch t c m.sda)
    (unless_spike glitch t (next_sda (all_exchanged ms)) m.scl)) (kept glitch (all_exchanged ms))) (next_exchanged ms)
    ∙ ap (λ (d : Option ℕ). put (at t (unless_spike glitch t (next_sda ms) m.sda) (unless_spike glitch t d m.scl))
    (kept glitch (all_exchanged ms))) (next_exchanged_back ms)
    ∙ ap (put (at t (unless_spike glitch t (next_sda ms) m.sda) (unless_spike glitch t (next_scl ms) m.scl)))
    (kept_exchanged glitch ms)
    ∙ put_exchanged t (unless_spike glitch t (next_scl ms) m.scl) (unless_spike glitch t (next_sda ms) m.sda)
    (kept glitch ms)

first_exchanged : (glitch : ℕ) (ms : List Moment)
    → behind_first glitch (all_exchanged ms) ≡ all_exchanged (behind_first glitch ms)
first_exchanged glitch [] = refl
first_exchanged glitch (m ∷ ms) = ap (λ (l : List Moment). exchanged m ∷ l) (kept_exchanged glitch ms)

pub filtered_exchanged : (glitch : ℕ) (ms : List Moment) → filtered glitch (all_exchanged ms) ≡ all_exchanged (filtered glitch ms)
filtered_exchanged glitch ms =
    ap (λ (l : List Moment). changes nothing (behind_first glitch l)) (changes_exchanged nothing ms)
    ∙ ap (changes nothing) (first_exchanged glitch (changes nothing ms))
    ∙ changes_exchanged nothing (behind_first glitch (changes nothing ms))
