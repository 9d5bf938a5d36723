-- The devices of an accepted bus have distinct addresses, and a write body is of one code and
-- data. For the laws on what STOP makes of the devices, `Bus::new` and `Bus::signal`. The first
-- device with an address is the only one; a body begins with its code, which says the form, and
-- that says how many data follow, so that the rest is the packet error code or nothing.
use Rattle.std.proofs.Common.{◌≡◌, ℕ, ◌<◌, zero, suc, Bool, true, false, cond, Option, Some, List, [], ◌∷◌, ◌++◌}
use Rattle.std.proofs.Common.{length, map, get_or, nat_eq, sym, ap, subst, ◌∙◌, arith}
use Rattle.std.specs.List.{AllByRecursion, Contains, IsDistinct}
use Rattle.std.proofs.lemmas.Bool.{eqb-false, eq-eqb, ne_eqb}
use Rattle.std.proofs.lemmas.Option.{same_Some}
use Rattle.pmb_command.specs.declared.form.Form.{Form}
use Rattle.pmb_command.specs.Bus.{IsBus}
use Rattle.pmb_command.specs.Parts.{DeviceParts, device_with}
use Rattle.pmb_bus.specs.Address.{write_address}
use Rattle.pmb_transaction.specs.Body.{WriteBody, forms}
use Rattle.pmb_command.specs.Wire.{wire}
use Rattle.pmb_transaction.proofs.Data.{Data, checked_is, code_behind, data_of, data_with_code}
use Rattle.pmb_registers.specs.State.{InState}

-- a test of two numbers, the other way round
pub nat_eq_flips : (a b : ℕ) → nat_eq a b ≡ false → nat_eq b a ≡ false
nat_eq_flips a b other = ne_eqb b a (λ same. eqb-false a b other (sym same))

-- ---- one address, one device

-- a number that is the address of none of some members
pub other_at : (a : ℕ) (members : List InState) (k : ℕ) (member : InState)
    → AllByRecursion (λ b. nat_eq a b ≡ false) (map (λ d. d.address) (map (λ m. m.device) members))
    → k < length members → get_or members k member ≡ member → nat_eq a member.device.address ≡ false
other_at a [] k member each small is = absurd (omega arith)
other_at a (m ∷ members) zero member each small is =
    subst (λ (m : InState). nat_eq a m.device.address ≡ false) is each.0
other_at a (m ∷ members) (suc k) member each small is = other_at a members k member each.1 (omega arith) is

-- the device that is found in front
found_first : (m member : InState) (o : Option DeviceParts) (found : DeviceParts) → m ≡ member
    → cond (nat_eq m.device.address member.device.address) (Some m.device) o ≡ Some found → found ≡ member.device
found_first m member o found is known =
    let passes : nat_eq m.device.address member.device.address ≡ true = eq-eqb m.device.address member.device.address
    (ap (λ (m : InState). m.device.address) is) in
    let here : Some m.device ≡ Some found = ap (λ (b : Bool). cond b (Some m.device) o) (sym passes) ∙ known in
    sym (same_Some m.device found here) ∙ ap (λ (m : InState). m.device) is

-- the device that is found, by the member's place
found_at : (members : List InState) (k : ℕ) (member : InState) (found : DeviceParts)
    → IsDistinct nat_eq (map (λ d. d.address) (map (λ m. m.device) members)) → k < length members
    → get_or members k member ≡ member
    → device_with member.device.address (map (λ m. m.device) members) ≡ Some found → found ≡ member.device
unfolding IsDistinct
found_at [] k member found own small is known = absurd (omega arith)
found_at (m ∷ members) zero member found own small is known =
    found_first m member (device_with member.device.address (map (λ m. m.device) members)) found is known
found_at (m ∷ members) (suc k) member found own small is known =
    let less : k < length members = omega arith in
    let other : nat_eq m.device.address member.device.address ≡ false =
    other_at m.device.address members k member own.0 less is in
    found_at members k member found own.1 less is
    (
    ap (λ (b : Bool). cond b (Some m.device) (device_with member.device.address (map (λ m. m.device) members)))
    (sym other) ∙ known
    )

-- The device with a member's address is the member's.
pub found_is_own : (profile : List DeviceParts) (members : List InState) (member : InState) → IsBus profile
    → map (λ m. m.device) members ≡ profile
    → Contains members member → (found : DeviceParts) → device_with member.device.address profile ≡ Some found
    → found ≡ member.device
found_is_own profile members member bus is contains found known =
    found_at members contains.0 member found
    (subst (λ (ds : List DeviceParts). IsDistinct nat_eq (map (λ d. d.address) ds)) (sym is) bus.own_addresses)
    contains.1 contains.2
    (subst (λ (ds : List DeviceParts). device_with member.device.address ds ≡ Some found) (sym is) known)

-- ---- one code and data of a body

pub record SameWrite (code other : ℕ) (bytes others : List ℕ) : Type 0 where
  pub code_is : code ≡ other
  pub bytes_are : bytes ≡ others

-- A body is that of one code and data.
pub one_write : (device : DeviceParts) (code other : ℕ) (bytes others : List ℕ) (with_pec also : Bool) (body : List ℕ)
    → WriteBody device code bytes with_pec body → WriteBody device other others also body
    → SameWrite code other bytes others
one_write device code other bytes others with_pec also body a b =
    let before = write_address device.address ∷ [] in
    let first = code ∷ wire a.form bytes in
    let second = other ∷ wire b.form others in
    -- both spellings of the body
    let rows : code ∷ (wire a.form bytes ++ code_behind with_pec before first) ≡ other
    ∷ (wire b.form others ++ code_behind also before second) =
    sym (checked_is with_pec before first) ∙ sym a.spelled ∙ b.spelled ∙ checked_is also before second in
    -- so the codes are the same, and the bytes after them,
    let code_is : code ≡ other = cc rows in
    let rest : wire a.form bytes ++ code_behind with_pec before first ≡ wire b.form others
    ++ code_behind also before second = cc rows in
    -- and with the code the form
    let form_is : Some a.form ≡ Some b.form = sym a.written ∙ ap (λ (n : ℕ). (forms device n).write) code_is
    ∙ b.written in
    -- by the form the bytes after the code are data, with a packet error code or not: of both
    let front : data_of (Some a.form) (wire a.form bytes ++ code_behind with_pec before first)
    ≡ record { bytes = bytes; pec = with_pec } =
    data_with_code a.form bytes with_pec before first a.fits in
    let back : data_of (Some b.form) (wire b.form others ++ code_behind also before second)
    ≡ record { bytes = others; pec = also } =
    data_with_code b.form others also before second b.fits in
    let data_is : data_of (Some a.form) (wire a.form bytes ++ code_behind with_pec before first)
    ≡ data_of (Some b.form) (wire b.form others ++ code_behind also before second) =
    ap (λ (o : Option Form). data_of o (wire a.form bytes ++ code_behind with_pec before first)) form_is
    ∙ ap (data_of (Some b.form)) rest in
    record { code_is = code_is; bytes_are = ap (λ (d : Data). d.bytes) (sym front ∙ data_is ∙ back) }
