-- The first leg that begins with a device's address for writing is at one place. For
-- `DevicePacket::outcome`, and in `pmb_devices` for the laws on packets.
use Rattle.std.proofs.Common.{◌≡◌, ℕ, Bool, true, false, List, [], ◌∷◌, ◌++◌, refl, sym, ap, ◌∙◌}
use Rattle.std.specs.List.{list_any}
use Rattle.std.proofs.lemmas.Bool.{eq-eqb, or_parts}
use Rattle.std.proofs.lemmas.List.Folds.{list_any-append}
use Rattle.pmb_device.specs.Legs.{Leg, sent, is_first_byte, is_to}

-- none passes among some with one that does
pub some_passes : {X : Type 0} (p : X → Bool) (front : List X) (x : X) (back : List X) → p x ≡ true
    → list_any p (front ++ x ∷ back) ≡ false → ⊥
some_passes p front x back passes none =
    let behind = or_parts (list_any p front) (list_any p (x ∷ back))
    (sym (list_any-append p front (x ∷ back)) ∙ none) in
    let here = or_parts (p x) (list_any p back) behind.1 in
    cc (here.0, passes)

-- There is one place of the first that passes.
pub record SamePlace {X : Type 0} (front before : List X) (a b : X) (back behind : List X) : Type 0 where
  pub in_front : front ≡ before
  pub here : a ≡ b
  pub later : back ≡ behind

pub one_first : {X : Type 0} (p : X → Bool) (front before : List X) (a b : X) (back behind : List X)
    → front ++ a ∷ back ≡ before ++ b ∷ behind
    → list_any p front ≡ false → list_any p before ≡ false → p a ≡ true → p b ≡ true
    → SamePlace front before a b back behind
one_first p [] [] a b back behind same none nor passes also =
    record { in_front = refl; here = cc same; later = cc same }
one_first p [] (y ∷ before) a b back behind same none nor passes also =
    let is : a ≡ y = cc same in
    let other = or_parts (p y) (list_any p before) nor in
    absurd (cc (ap p is, other.0, passes))
one_first p (x ∷ front) [] a b back behind same none nor passes also =
    let is : x ≡ b = cc same in
    let other = or_parts (p x) (list_any p front) none in
    absurd (cc (ap p is, other.0, also))
one_first p (x ∷ front) (y ∷ before) a b back behind same none nor passes also =
    let first : x ≡ y = cc same in
    let rest : front ++ a ∷ back ≡ before ++ b ∷ behind = cc same in
    let later =
    one_first p front before a b back behind rest (or_parts (p x) (list_any p front) none).1
    (or_parts (p y) (list_any p before) nor).1 passes also in
    let front_is : front ≡ before = later.in_front in
    record { in_front = cc; here = later.here; later = later.later }

-- a leg that begins with a byte
pub is_to_first : (address : ℕ) (bytes : List ℕ) (leg : Leg) → sent leg ≡ address ∷ bytes → is_to address leg ≡ true
is_to_first address bytes leg is = ap (is_first_byte address) is ∙ eq-eqb address address refl
