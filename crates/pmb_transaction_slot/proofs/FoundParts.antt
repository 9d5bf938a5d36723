-- The parts that are kept: one with an address, at an index below their number, is found by that
-- address. For `TransactionSlot::has_part_at`, which goes through the parts. By induction over the
-- list.
use Rattle.std.proofs.Common.{◌≡◌, ℕ, zero, suc, ◌<◌, ◌||◌, Bool, true, List, [], ◌∷◌, length, map, get_or, nat_eq, sym}
use Rattle.std.proofs.Common.{ap, subst, ◌∙◌, arith}
use Rattle.std.proofs.lemmas.Bool.{or_right}
use Rattle.std.proofs.lemmas.Bool.Decides.{nat_tests}
use Rattle.std.specs.List.{list_any}
use Rattle.pmb_transaction.specs.declared.part.Part.{Part}
use Rattle.pmb_transaction.specs.Transaction.{part_data}
use Rattle.pmb_transaction.specs.Packet.{addresses}

-- a number equals itself
equals_itself : (n : ℕ) → nat_eq n n ≡ true
equals_itself n = grind (arith, nat_tests)

-- a part with an address is found
pub found_part : (addr : ℕ) (items : List Part) (i : ℕ) (part : Part) → i < length items → part ≡ get_or items i part
    → part.addr ≡ addr
    → list_any (nat_eq addr) (addresses (map part_data items)) ≡ true
found_part addr [] i part within is same = absurd (omega (arith, within))
found_part addr (p ∷ items) zero part within is same =
    let here : p.addr ≡ addr = ap (λ (q : Part). q.addr) (sym is) ∙ same in
    let equal : nat_eq addr p.addr ≡ true = subst (λ (a : ℕ). nat_eq a p.addr ≡ true) here (equals_itself p.addr) in
    ap (λ (b : Bool). b || list_any (nat_eq addr) (addresses (map part_data items))) equal
found_part addr (p ∷ items) (suc i) part within is same =
    or_right (nat_eq addr p.addr) (list_any (nat_eq addr) (addresses (map part_data items)))
    (found_part addr items i part (omega (arith, within)) is same)
