-- Whether devices are made.
use Rattle.std.proofs.Common.{◌≡◌, true, false, Option, Some, None, is_some, IfSome, option_map, true≢false, refl, sym}

-- there are some: the value in them is there too
pub some_inside : {A B : Type 0} (f : A → B) (o : Option A) → is_some o ≡ true → (b : B) × (option_map f o ≡ Some b)
some_inside f (Some a) there = (f a, refl)
some_inside f None there = absurd (true≢false (sym there))

pub none_inside : {A B : Type 0} (f : A → B) (o : Option A) → is_some o ≡ false → option_map f o ≡ None
none_inside f (Some a) none = absurd (true≢false none)
none_inside f None none = refl

-- what holds of them where there are some holds of the value in them
pub made_inside : {A B : Type 0} (f : A → B) (P : B → Type 0) (o : Option A) → IfSome o (λ a. P (f a)) → is_some o ≡ true
    → (b : B) × ((option_map f o ≡ Some b) × P b)
made_inside f P (Some a) holds there = (f a, (refl, holds))
made_inside f P None holds there = absurd (true≢false (sym there))
