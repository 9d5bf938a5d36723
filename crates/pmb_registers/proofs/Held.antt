-- Looking for a register of a code that answers for a page: for the loop of `bytes_on`. None of
-- the first i registers is the one; the next one is, and its bytes are held, or it is not, and
-- there are i + 1.
use Rattle.std.proofs.Common.{◌≡◌, ℕ, zero, suc, ◌+◌, ◌<◌, Bool, true, false, ◌&&◌, cond, Option, Some, None, List, []}
use Rattle.std.proofs.Common.{◌∷◌, length, map, take, get_or, nat_eq, option_map, refl, sym, ap, ◌∙◌, arith, add-one}
use Rattle.std.proofs.Common.{eq-eqb}
use Rattle.std.proofs.lemmas.Bool.{ne_eqb}
use Rattle.pmb_registers.specs.declared.register.Register.{Register}
use Rattle.pmb_registers.specs.State.{RegisterData, held, is_of_page}
use Rattle.pmb_registers.specs.machine.Registers.{register_data}

-- the register has the code, and answers for the page
abbrev pub is_at : ℕ → ℕ → Register → Bool
is_at page code r = nat_eq r.code code && is_of_page page r.page

abbrev bytes_of : Option RegisterData → Option (List ℕ)
bytes_of found = option_map (λ r. r.bytes) found

none_first : (test : Bool) (r : RegisterData) (rest : Option RegisterData) → bytes_of (cond test (Some r) rest) ≡ None
    → (test ≡ false) × (bytes_of rest ≡ None)
none_first true r rest none = absurd (cc none)
none_first false r rest none = (refl, none)

some_first : (test : Bool) (r : RegisterData) (rest : Option RegisterData) → test ≡ true
    → bytes_of (cond test (Some r) rest) ≡ Some r.bytes
some_first true r rest is = refl
some_first false r rest is = absurd (cc is)

skip_first : (test : Bool) (r : RegisterData) (rest : Option RegisterData) → test ≡ false
    → bytes_of (cond test (Some r) rest) ≡ bytes_of rest
skip_first true r rest is = absurd (cc is)
skip_first false r rest is = refl

module _ (page code : ℕ) where
  -- the first one that is found
  pub held_at : (rs : List Register) (i : ℕ) (r : Register) → i < length rs
      → held page code (map register_data (take i rs)) ≡ None → r ≡ get_or rs i r
      → is_at page code r ≡ true → held page code (map register_data rs) ≡ Some r.bytes.items
  held_at [] i r within none read is = absurd (omega arith)
  held_at (x ∷ rs) zero r within none read is =
      let same : is_at page code x ≡ true = ap (is_at page code) (sym read) ∙ is in
      some_first (is_at page code x) (register_data x) _ same ∙ ap (λ (o : Register). Some o.bytes.items) (sym read)
  held_at (x ∷ rs) (suc i) r within none read is =
      let first = none_first (is_at page code x) (register_data x) _ none in
      skip_first (is_at page code x) (register_data x) _ first.0 ∙ held_at rs i r (omega arith) first.1 read is

  not_at : (rs : List Register) (i : ℕ) (r : Register) → i < length rs → held page code (map register_data (take i rs))
      ≡ None → r ≡ get_or rs i r
      → is_at page code r ≡ false → held page code (map register_data (take (suc i) rs)) ≡ None
  not_at [] i r within none read is = absurd (omega arith)
  not_at (x ∷ rs) zero r within none read is =
      let other : is_at page code x ≡ false = ap (is_at page code) (sym read) ∙ is in
      skip_first (is_at page code x) (register_data x) None other
  not_at (x ∷ rs) (suc i) r within none read is =
      let first = none_first (is_at page code x) (register_data x) _ none in
      skip_first (is_at page code x) (register_data x) _ first.0 ∙ not_at rs i r (omega arith) first.1 read is

  -- one register more that is not the one
  pub held_more : (rs : List Register) (i : ℕ) (r : Register) → i < length rs
      → held page code (map register_data (take i rs)) ≡ None → r ≡ get_or rs i r
      → is_at page code r ≡ false → held page code (map register_data (take (i + 1) rs)) ≡ None
  held_more rs i r within none read is = rw add-one (not_at rs i r within none read is)

  pub is_there : (r : Register) → r.code ≡ code → is_of_page page r.page ≡ true → is_at page code r ≡ true
  is_there r same own = let equal : nat_eq r.code code ≡ true = eq-eqb r.code code same in rw equal own

  pub has_another_code : (r : Register) → (r.code ≡ code → ⊥) → is_at page code r ≡ false
  has_another_code r other = let apart : nat_eq r.code code ≡ false = ne_eqb r.code code other in rw apart refl

  pub has_another_page : (r : Register) → r.code ≡ code → is_of_page page r.page ≡ false → is_at page code r ≡ false
  has_another_page r same other = let equal : nat_eq r.code code ≡ true = eq-eqb r.code code same in rw equal other
