-- The command of a device at an index is the one that is found by its code: for the loops of
-- `put_devices`, `put_command` and `put_commands`. No other command of the device has that code.
use Rattle.std.proofs.Common.{◌≡◌, inl, inr, ℕ, zero, suc, ◌<◌, true, false, Some, List, [], ◌∷◌, length, map, nat_eq}
use Rattle.std.proofs.Common.{sym, ap, arith, eq-eqb}
use Rattle.std.specs.List.{AllByRecursion, IsDistinct, slice_get}
use Rattle.std.proofs.lemmas.Option.{slice_get_cases}
use Rattle.pmb_command.specs.Parts.{CommandParts, HaveOwnCodes, command_with}

-- there is one
pub some_at : {X : Type 0} (xs : List X) (i : ℕ) → i < length xs → (x : X) × (slice_get xs i ≡ Some x)
some_at xs i within = elim (slice_get_cases xs i).1 [
  | inl (x, here, is, same) ↦ (x, is)
  | inr past ↦ absurd (let much = past.0 in omega (arith, much))
]

-- no other one has its code
apart_at : (code : ℕ) (cs : List CommandParts) (i : ℕ) (command : CommandParts)
    → AllByRecursion (λ y. nat_eq code y ≡ false) (map (λ c. c.entry.code) cs) → slice_get cs i ≡ Some command
    → nat_eq code command.entry.code ≡ false
apart_at code [] i command all is = cc is
apart_at code (c ∷ cs) zero command (other, all) is = let here : c ≡ command = cc is in rw (sym here) other
apart_at code (c ∷ cs) (suc i) command (other, all) is = apart_at code cs i command all is

-- so it is the one that is found by its code
pub found_at : (cs : List CommandParts) (i : ℕ) (command : CommandParts) → HaveOwnCodes cs
    → slice_get cs i ≡ Some command → command_with command.entry.code cs ≡ Some command
unfolding IsDistinct
found_at [] i command own is = cc is
found_at (c ∷ cs) zero command own is =
    let here : c ≡ command = cc is in
    let same : nat_eq c.entry.code command.entry.code ≡ true = eq-eqb c.entry.code command.entry.code
    (ap (λ (x : CommandParts). x.entry.code) here) in
    rw same (ap (λ (x : CommandParts). Some x) here)
found_at (c ∷ cs) (suc i) command (here, own) is =
    let apart : nat_eq c.entry.code command.entry.code ≡ false = apart_at c.entry.code cs i command here is in
    rw apart (found_at cs i command own is)
