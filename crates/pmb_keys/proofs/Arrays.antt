-- The items of an array, and steps that may fail: for the functions that read an array of a profile.
use Rattle.std.proofs.Common.{◌≡◌, List, [], ◌∷◌, length, Result, Ok, Err, refl, sym, ap, suc}
use Rattle.toml.specs.View.{items_view}
use Rattle.toml.specs.declared.value.Value.{Value}
use Rattle.pmb_keys.specs.Rules.{bind, item_count}

-- how many values there are
pub item_count-view : (vs : List Value) → item_count (items_view vs) ≡ length vs
item_count-view [] = refl
item_count-view (v ∷ vs) = ap suc (item_count-view vs)

-- a step that changes nothing
pub bind-ok : {X E : Type 0} (r : Result X E) → bind r (λ x. Ok x) ≡ r
bind-ok (Ok x) = refl
bind-ok (Err e) = refl

-- steps that do the same
pub bind-same : {X Y E : Type 0} (r : Result X E) (f g : X → Result Y E) → ((x : X) → f x ≡ g x) → bind r f ≡ bind r g
bind-same (Ok x) f g same = same x
bind-same (Err e) f g same = refl

-- what passes a check, and is refused after it
pub refused : {X Y E : Type 0} (r : Result X E) (next : X → Result Y E) (e : E)
    → bind {Y = Unit} r (λ _. Ok tt) ≡ Ok tt → ((x : X) → next x ≡ Err e) → Err e ≡ bind r next
refused (Ok x) next e passes refuses = sym (refuses x)
refused (Err f) next e passes refuses = cc
