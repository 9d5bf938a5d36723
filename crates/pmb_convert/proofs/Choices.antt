-- What holds of either side of an `if` holds of its value, where each side is asked in its own
-- case only. For the laws on FORMATs and on the answers to an input.
use Rattle.std.proofs.Common.{◌≡◌, Bool, true, false, cond, refl}

pub picks : {A : Type 0} (P : A → Type 0) (b : Bool) (x y : A) → (b ≡ true → P x) → (b ≡ false → P y) → P (cond b x y)
picks P true x y on_true on_false = on_true refl
picks P false x y on_true on_false = on_false refl
