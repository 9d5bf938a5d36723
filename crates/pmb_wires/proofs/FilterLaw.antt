-- What a filter gives for moments is what stays of their changes: the law `filters_spikes`.
use Rattle.std.proofs.Common.{◌≡◌, ◌∙◌, ◌<◌, ◌≤◌, ◌-◌, ◌&&◌, ℕ, false, Bool, Option, Some, None, List, [], ◌∷◌, ◌++◌}
use Rattle.std.proofs.Common.{ap, refl, sym, subst, arith, nat_lt, is_none, inl, inr, if◌then◌else◌}
use Rattle.std.proofs.lemmas.Bool.{cases_Bool}
use Rattle.pmb_wires.specs.Changes.{Rises, RisesFrom, after, changed, changes, level_after, nothing}
use Rattle.pmb_wires.specs.Changes.{put}
use Rattle.pmb_wires.specs.Spikes.{behind_first, kept, next_scl, next_sda}
use Rattle.pmb_wires.specs.declared.filter.Filter.{Filter}
use Rattle.pmb_wires.specs.declared.filter.Run.{Run}
use Rattle.pmb_wires.specs.declared.level.Level.{Level}
use Rattle.pmb_wires.specs.declared.level.Levels.{Levels}
use Rattle.pmb_wires.specs.declared.moment.Edge.{Edge}
use Rattle.pmb_wires.specs.declared.moment.Moment.{Moment}
use Rattle.pmb_wires.specs.machine.Waiting.{due, fresh, given_for, go_on, is_fresh, left, listed, waiting}
use Rattle.pmb_wires.specs.machine.Waiting.{written}
use Rattle.pmb_wires.proofs.SpikeLemmas.{Before, NotBefore, Young, no_edge, settle, sooner, write}

-- ---- times

abbrev UpTo : ℕ → Option Run → Type 0
UpTo t (Some run) = run.time ≤ t
UpTo t None = Unit {0}

before_by : (s t : ℕ) (c : Option Run) → UpTo s c → s < t → Before t c
before_by s t None up lt = tt
before_by s t (Some run) up lt = omega arith

left_before : (glitch t : ℕ) (c : Option Run) → Before t c → Before t (left glitch t c)
left_before glitch t None before = tt
left_before glitch t (Some c) before = elim (cases_Bool (nat_lt (t - c.time) glitch)) [
  | inl young ↦ subst (λ (b : Bool). Before t (if b then Some c else None)) (sym young) before
  | inr old ↦ subst (λ (b : Bool). Before t (if b then Some c else None)) (sym old) tt
]

left_young : (glitch t : ℕ) (c : Option Run) → Young glitch t (left glitch t c)
left_young glitch t None = tt
left_young glitch t (Some c) = elim (cases_Bool (nat_lt (t - c.time) glitch)) [
  | inl young ↦ subst (λ (b : Bool). Young glitch t (if b then Some c else None)) (sym young) young
  | inr old ↦ subst (λ (b : Bool). Young glitch t (if b then Some c else None)) (sym old) tt
]

written_up_to : (t : ℕ) (e : Option Edge) (c : Option Run) → Before t c → UpTo t (written t e c)
written_up_to t (Some e) c before = omega arith
written_up_to t None None before = tt
written_up_to t None (Some c) before = omega arith

-- the next change of a wire in a list with one more moment
put_scl : (t time : ℕ) (e f : Option Edge) (ms : List Moment) → t ≤ time → NotBefore t (next_scl ms)
    → NotBefore t (next_scl (put (record { time = time; scl = e; sda = f }) ms))
put_scl t time None None ms le behind = behind
put_scl t time None (Some f) ms le behind = behind
put_scl t time (Some e) f ms le behind = le

put_sda : (t time : ℕ) (e f : Option Edge) (ms : List Moment) → t ≤ time → NotBefore t (next_sda ms)
    → NotBefore t (next_sda (put (record { time = time; scl = e; sda = f }) ms))
put_sda t time None None ms le behind = behind
put_sda t time None (Some f) ms le behind = le
put_sda t time (Some e) None ms le behind = behind
put_sda t time (Some e) (Some f) ms le behind = le

scl_rises : (t : ℕ) (now : Levels) (ms : List Moment) → RisesFrom t ms → NotBefore t (next_scl (changes now ms))
scl_rises t now [] rises = tt
scl_rises t now (m ∷ ms) rises =
    let le : t ≤ m.time = omega (arith, rises.0) in
    put_scl t m.time (changed now m).scl (changed now m).sda (changes (after now m) ms) le
    (sooner t m.time (next_scl (changes (after now m) ms)) le (scl_rises m.time (after now m) ms rises.1))

sda_rises : (t : ℕ) (now : Levels) (ms : List Moment) → RisesFrom t ms → NotBefore t (next_sda (changes now ms))
sda_rises t now [] rises = tt
sda_rises t now (m ∷ ms) rises =
    let le : t ≤ m.time = omega (arith, rises.0) in
    put_sda t m.time (changed now m).scl (changed now m).sda (changes (after now m) ms) le
    (sooner t m.time (next_sda (changes (after now m) ms)) le (sda_rises m.time (after now m) ms rises.1))

-- ---- the end

last_stays : (glitch : ℕ) (c d : Option Run) → listed (waiting c d) ≡ kept glitch (listed (waiting c d) ++ [])
last_stays glitch None None = refl
last_stays glitch (Some c) None = refl
last_stays glitch None (Some d) = refl
last_stays glitch (Some c) (Some d) = elim (cases_Bool (nat_lt c.time d.time)) [
  | inl before ↦ rw (before, no_edge glitch c.time (Some d.time)) refl
  | inr not ↦ elim (cases_Bool (nat_lt d.time c.time)) [
    | inl before ↦ rw (not, before, no_edge glitch d.time (Some c.time)) refl
    | inr nor ↦ rw (not, nor) refl
  ]
]

-- ---- each moment behind the first

not_fresh : (a b : Option Level) (e f : Option Edge) → (is_none a && is_none b) ≡ false
    → (is_none (level_after a e) && is_none (level_after b f)) ≡ false
not_fresh a b (Some e) f not = refl
not_fresh a b None None not = not
not_fresh (Some a) b None (Some f) not = refl
not_fresh None b None (Some f) not = refl

abbrev Gives : Filter → List Moment → Type 0
Gives f ms = given_for f ms ≡ kept f.glitch (listed (waiting f.scl f.sda) ++ changes f.given ms)

gives_next : (f : Filter) (m : Moment) (ms : List Moment) → is_fresh f.given ≡ false → Before m.time f.scl
    → Before m.time f.sda → RisesFrom m.time ms → Gives (go_on f m (changed f.given m)).now ms → Gives f (m ∷ ms)
gives_next f m ms not_first scl_before sda_before rises rest =
    let g = f.glitch in
    let t = m.time in
    let news = changed f.given m in
    let others = changes (after f.given m) ms in
    let split = settle g t f.scl f.sda (put news others)
    (put_scl t t news.scl news.sda others (omega arith) (scl_rises t (after f.given m) ms rises))
    (put_sda t t news.scl news.sda others (omega arith) (sda_rises t (after f.given m) ms rises)) in
    let more = write g t news.scl news.sda (left g t f.scl) (left g t f.sda) others
    (left_young g t f.scl) (left_young g t f.sda)
    (left_before g t f.scl scl_before) (left_before g t f.sda sda_before) in
    rw not_first
    (ap (λ (l : List Moment). listed (waiting (due g t f.scl) (due g t f.sda)) ++ l) (rest ∙ sym more) ∙ sym split)

gives : (f : Filter) (ms : List Moment) (t : ℕ) → is_fresh f.given ≡ false → UpTo t f.scl → UpTo t f.sda
    → RisesFrom t ms → Gives f ms
gives f [] t not_first scl sda rises = last_stays f.glitch f.scl f.sda
gives f (m ∷ ms) t not_first scl sda rises =
    let scl_before = before_by t m.time f.scl scl rises.0 in
    let sda_before = before_by t m.time f.sda sda rises.0 in
    let news = changed f.given m in
    gives_next f m ms not_first scl_before sda_before rises.1
    (gives (go_on f m news).now ms m.time
    (not_fresh f.given.scl f.given.sda m.scl m.sda not_first)
    (written_up_to m.time news.scl (left f.glitch m.time f.scl)
    (left_before f.glitch m.time f.scl scl_before))
    (written_up_to m.time news.sda (left f.glitch m.time f.sda)
    (left_before f.glitch m.time f.sda sda_before))
    rises.1)

-- ---- the first one

abbrev at : ℕ → Option Edge → Option Edge → Moment
at t e f = record { time = t; scl = e; sda = f }

abbrev begun : ℕ → Moment → Filter
begun glitch m = record { glitch = glitch; given = after nothing m; scl = None; sda = None }

abbrev Filters : ℕ → List Moment → Type 0
Filters glitch ms = given_for (fresh glitch) ms ≡ behind_first glitch (changes nothing ms)

first : (glitch t : ℕ) (e f : Option Edge) (ms : List Moment) → RisesFrom t ms → Filters glitch ms
    → Filters glitch (at t e f ∷ ms)
first glitch t None None ms rises rest = rest
first glitch t (Some e) None ms rises rest =
    ap (λ (l : List Moment). at t (Some e) None ∷ l) (gives (begun glitch (at t (Some e) None)) ms t refl tt tt rises)
first glitch t None (Some f) ms rises rest =
    ap (λ (l : List Moment). at t None (Some f) ∷ l) (gives (begun glitch (at t None (Some f))) ms t refl tt tt rises)
first glitch t (Some e) (Some f) ms rises rest =
    ap (λ (l : List Moment). at t (Some e) (Some f) ∷ l)
    (gives (begun glitch (at t (Some e) (Some f))) ms t refl tt tt rises)

behind : (t : ℕ) (ms : List Moment) → RisesFrom t ms → Rises ms
behind t [] rises = tt
behind t (m ∷ ms) rises = rises.1

pub filters : (glitch : ℕ) (ms : List Moment) → Rises ms → Filters glitch ms
filters glitch [] rises = refl
filters glitch (m ∷ ms) rises =
    first glitch m.time m.scl m.sda ms rises (filters glitch ms (behind m.time ms rises))
