-- What holds of what steps give, where each of them gives something: for all that is read of a profile.
use Rattle.std.proofs.Common.{◌≡◌, ℕ, suc, Bool, true, false, Option, Some, None, Result, Ok, Err, List, [], ◌∷◌}
use Rattle.std.proofs.Common.{ap, length, refl}
use Rattle.std.specs.Prelude.{IfOk, IfSome, if◌then◌else◌}
use Rattle.std.specs.List.{AllByRecursion}
use Rattle.std.specs.Str.{bytes_eq}
use Rattle.toml.specs.Data.{Data, Items, no_items, item, Members, get_member}
use Rattle.pmb_keys.specs.declared.fault.FaultKind.{FaultKind}
use Rattle.pmb_keys.specs.declared.fault.FaultKind.TheVariants as faults
use Rattle.pmb_keys.specs.Rules.{bind, each_of, item_count, named, or_fault, unless, required, optional}
use Rattle.pmb_keys.specs.Rules.{optional_of, defaulted, defaulted_of}

-- ---- one step after the other

-- what holds after each answer of a step holds of the two
pub if_bind : {X Y E : Type 0} (r : Result X E) (next : X → Result Y E) (P : Y → Type 0)
    → ((x : X) → r ≡ Ok x → IfOk (next x) P) → IfOk (bind r next) P
if_bind (Ok x) next P all = all x refl
if_bind (Err e) next P all = tt

-- .. where something holds of what the first one answers
pub if_steps : {X Y E : Type 0} (r : Result X E) (next : X → Result Y E) (P : X → Type 0) (Q : Y → Type 0) → IfOk r P
    → ((x : X) → P x → IfOk (next x) Q) → IfOk (bind r next) Q
if_steps (Ok x) next P Q first all = all x first
if_steps (Err e) next P Q first all = tt

-- a test that comes first was passed
pub if_tested : {Y E : Type 0} (e : E) (b : Bool) (next : Unit {0} → Result Y E) (P : Y → Type 0)
    → (b ≡ true → IfOk (next tt) P) → IfOk (bind (unless e b) next) P
if_tested e true next P all = all refl
if_tested e false next P all = tt

-- what is there, or else a fault
pub if_there : {X E : Type 0} (e : E) (o : Option X) (P : X → Type 0) → IfSome o P → IfOk (or_fault e o) P
if_there e (Some x) P is = is
if_there e None P is = tt

-- ---- keys of a table

module _ {X : Type 0} (rule : Data → Result X FaultKind) where
  pub if_required : (key : List ℕ) (ms : Members) (P : X → Type 0) → ((d : Data) → IfOk (rule d) P)
      → IfOk (required rule key ms) P
  if_required key ms P all = if_bind (or_fault faults.MissingKey (get_member key ms)) rule P (λ d there. all d)

  pub if_optional : (key : List ℕ) (ms : Members) (P : X → Type 0) → ((d : Data) → IfOk (rule d) P)
      → IfOk (optional rule key ms) (λ o. IfSome o P)
  if_optional key ms P all = by (get_member key ms)
    where
      by : (o : Option Data) → IfOk (optional_of rule o) (λ o. IfSome o P)
      by None = tt
      by (Some d) = if_steps (rule d) _ P (λ o. IfSome o P) (all d) (λ x is. is)

  pub if_defaulted : (x : X) (key : List ℕ) (ms : Members) (P : X → Type 0) → P x → ((d : Data) → IfOk (rule d) P)
      → IfOk (defaulted rule x key ms) P
  if_defaulted x key ms P is all = by (get_member key ms)
    where
      by : (o : Option Data) → IfOk (defaulted_of rule x o) P
      by None = is
      by (Some d) = all d

-- Values of which this holds of each, as many as there are items.
pub record AreItems {X : Type 0} (P : X → Type 0) (count : ℕ) (xs : List X) : Type 0 where
  pub many : length xs ≡ count
  pub each : AllByRecursion P xs

-- those of an array
pub if_each : {X : Type 0} (rule : Data → Result X FaultKind) (ds : Items) (P : X → Type 0)
    → ((d : Data) → IfOk (rule d) P) → IfOk (each_of rule ds) (AreItems P (item_count ds))
if_each rule no_items P all = record { many = refl; each = tt }
if_each rule (item d ds) P all =
    if_steps (rule d) _ P (AreItems P (suc (item_count ds))) (all d)
    (λ x is. if_steps (each_of rule ds) _ (AreItems P (item_count ds)) (AreItems P (suc (item_count ds)))
    (if_each rule ds P all) (λ xs are. record { many = ap suc are.many; each = (is, are.each) }))

-- ---- words

-- what holds of all that words stand for holds of what a text names
pub if_named : {X : Type 0} (words : List (List ℕ × X)) (text : List ℕ) (P : X → Type 0)
    → AllByRecursion (λ w. P w.1) words → IfSome (named words text) P
if_named [] text P all = tt
if_named (w ∷ ws) text P all = by (bytes_eq text w.0) (if_named ws text P all.1)
  where
    by : (b : Bool) → IfSome (named ws text) P → IfSome (if b then Some w.1 else named ws text) P
    by true rest = all.0
    by false rest = rest
