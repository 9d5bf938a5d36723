-- A tracker behind a filter tells the signals of a piece: the law `tells_signals`.
use Rattle.std.proofs.Common.{◌≡◌, ◌∙◌, ◌||◌, ℕ, true, false, Bool, Option, Some, None, List, [], ◌∷◌}
use Rattle.std.proofs.Common.{ap, ap₂, refl, sym, subst, inl, inr, if◌then◌else◌}
use Rattle.std.proofs.lemmas.Bool.{cases_Bool}
use Rattle.pmb_wires.specs.Changes.{Rises, after, change, changed, changes, has, level_after, nothing, put}
use Rattle.pmb_wires.specs.Kinds.{kind_by, seen}
use Rattle.pmb_wires.specs.Signals.{known_in, put_signal, signal_of, signals, signals_of_piece}
use Rattle.pmb_wires.specs.Spikes.{behind_first}
use Rattle.pmb_wires.specs.declared.level.Level.{Level}
use Rattle.pmb_wires.specs.declared.level.Level.TheVariants.{Low, High, Unknown}
use Rattle.pmb_wires.specs.declared.level.Levels.{Levels}
use Rattle.pmb_wires.specs.declared.moment.Edge.{Edge}
use Rattle.pmb_wires.specs.declared.moment.Moment.{Moment}
use Rattle.pmb_wires.specs.declared.signal.Kind.TheVariants.{Nothing}
use Rattle.pmb_wires.specs.declared.signal.Tracker.{Tracker}
use Rattle.pmb_wires.specs.machine.Tracker.{take, told_of, unknown_yet}
use Rattle.pmb_wires.specs.machine.Waiting.{fresh, given_for}
use Rattle.pmb_wires.proofs.FilterLaw.{filters}

-- ---- levels that a wire has already

has_it : (now : Option Level) (level : Level) → has now level ≡ true → now ≡ Some level
has_it None level is = cc
has_it (Some Low) Low is = refl
has_it (Some High) High is = refl
has_it (Some Unknown) Unknown is = refl
has_it (Some Low) High is = cc
has_it (Some Low) Unknown is = cc
has_it (Some High) Low is = cc
has_it (Some High) Unknown is = cc
has_it (Some Unknown) Low is = cc
has_it (Some Unknown) High is = cc

level_behind : (now : Option Level) (e : Option Edge) → level_after now (change now e) ≡ level_after now e
level_behind now None = refl
level_behind now (Some e) = elim (cases_Bool (has now e.level)) [
  | inl is ↦ subst (λ (b : Bool). level_after now (if b then None else Some e) ≡ Some e.level) (sym is)
      (has_it now e.level is)
  | inr not ↦ subst (λ (b : Bool). level_after now (if b then None else Some e) ≡ Some e.level) (sym not) refl
]

abbrev levels : Option Level → Option Level → Levels
levels c d = record { scl = c; sda = d }

pub after_changed : (now : Levels) (m : Moment) → after now (changed now m) ≡ after now m
after_changed now m = ap₂ levels (level_behind now.scl m.scl) (level_behind now.sda m.sda)

-- ---- no change says nothing

no_kind : (c d : Level) → kind_by c c d d ≡ Nothing
no_kind Low d = refl
no_kind Unknown d = refl
no_kind High Low = refl
no_kind High High = refl
no_kind High Unknown = refl

abbrev at : ℕ → Option Edge → Option Edge → Moment
at time e f = record { time = time; scl = e; sda = f }

abbrev Tells : Levels → Bool → Moment → List Moment → Type 0
Tells now known n rest =
    put_signal (signal_of known now (after now n) n) (signals (after now n) (known || known_in (after now n)) rest)
    ≡ signals now known (put n rest)

tells_next : (now : Levels) (known : Bool) (time : ℕ) (e f : Option Edge) (rest : List Moment)
    → (known || known_in now) ≡ known → Tells now known (at time e f) rest
tells_next now known time (Some e) f rest so_far = refl
tells_next now known time None (Some f) rest so_far = refl
tells_next now known time None None rest so_far =
    rw (no_kind (seen now.scl) (seen now.sda), so_far) refl

known_so_far : (known more : Bool) → ((known || more) || more) ≡ (known || more)
known_so_far true more = refl
known_so_far false true = refl
known_so_far false false = refl

tells : (t : Tracker) (ms : List Moment) → (t.is_known || known_in t.levels) ≡ t.is_known
    → told_of t ms ≡ signals t.levels t.is_known (changes t.levels ms)
tells t [] so_far = refl
tells t (m ∷ ms) so_far =
    let now = t.levels in
    let news = changed now m in
    let next = (take t m).now in
    let rest = tells next ms (known_so_far t.is_known (known_in (after now news))) in
    let same = after_changed now m in
    ap (put_signal (signal_of t.is_known now (after now news) news))
    (rest ∙ ap (λ (l : Levels). signals (after now news) (t.is_known || known_in (after now news)) (changes l ms)) same)
    ∙ tells_next now t.is_known m.time news.scl news.sda (changes (after now m) ms) so_far

pub tells_signals : (glitch : ℕ) (ms : List Moment) → Rises ms
    → told_of unknown_yet (given_for (fresh glitch) ms) ≡ signals_of_piece glitch ms
tells_signals glitch ms rises =
    ap (told_of unknown_yet) (filters glitch ms rises)
    ∙ tells unknown_yet (behind_first glitch (changes nothing ms)) refl
