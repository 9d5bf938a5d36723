-- A device that has no other addresses takes what comes to its own. For Full.
use Rattle.std.proofs.Common.{◌≡◌, ℕ, List, [], ◌∷◌, map, refl, ap, ◌∙◌, cond, nat_eq, nat_lt, Bool, false, ◌&&◌, ◌||◌}
use Rattle.std.specs.List.{list_any}
use Rattle.std.specs.Prelude.{count_by}
use Rattle.pmb_command.specs.Forms.{has_write}
use Rattle.pmb_command.specs.Parts.{DeviceParts}
use Rattle.pmb_transaction.specs.Transaction.{PartData, TransactionData, Write, Read, Call, Refused, Alert, NoAlert}
use Rattle.pmb_unknown_start.specs.Past.{PastData, Said, Dropped}
use Rattle.pmb_unknown_start.specs.Taken.{are_crossed, as_taken, one_taken, taken_at, taken_part, takes}
use Rattle.pmb_unknown_start.specs.Taken.{takes_other}

module _ (device : DeviceParts) (none : device.also ≡ []) where
  no_other : (part : PartData) → takes_other device part ≡ false
  no_other part =
      ap (λ (also : List ℕ). list_any (nat_eq part.addr) also && has_write device part.code part.bytes) none

  at_own : (part : PartData) → taken_at device part ≡ part.addr
  at_own part = ap (λ (other : Bool). cond other device.address part.addr) (no_other part)

  own_parts : (parts : List PartData) → map (taken_part device) parts ≡ parts
  own_parts [] = refl
  own_parts (part ∷ parts) =
      ap (λ (addr : ℕ). record part { addr = addr } ∷ map (taken_part device) parts) (at_own part)
      ∙ ap (λ (more : List PartData). part ∷ more) (own_parts parts)

  none_to_other : (parts : List PartData) → list_any (takes_other device) parts ≡ false
  none_to_other [] = refl
  none_to_other (part ∷ parts) =
      ap (λ (other : Bool). other || list_any (takes_other device) parts) (no_other part)
      ∙ none_to_other parts

  not_crossed : (parts : List PartData) → are_crossed device parts ≡ false
  not_crossed parts = ap (λ (other : Bool). other && nat_lt 1 (count_by (takes device) parts)) (none_to_other parts)

  own_one : (t : TransactionData) → one_taken device (Said t) ≡ Said t
  own_one (Write parts) =
      ap (λ (crossed : Bool). cond crossed Dropped (Said (Write (map (taken_part device) parts)))) (not_crossed parts)
      ∙ ap (λ (own : List PartData). Said (Write own)) (own_parts parts)
  own_one (Read t) = refl
  own_one (Call t) = refl
  own_one (Refused t) =
      ap (λ (crossed : Bool). cond crossed Dropped (Said (Refused (record t { parts = map (taken_part device) t.parts }))))
      (not_crossed t.parts)
      ∙ ap (λ (own : List PartData). Said (Refused (record t { parts = own }))) (own_parts t.parts)
  own_one (Alert t) = refl
  own_one NoAlert = refl

  pub none_other : (past : List PastData) → as_taken device past ≡ past
  none_other [] = refl
  none_other (Said t ∷ past) =
      ap (λ (one : PastData). one ∷ as_taken device past) (own_one t)
      ∙ ap (λ (more : List PastData). Said t ∷ more) (none_other past)
  none_other (Dropped ∷ past) = ap (λ (more : List PastData). Dropped ∷ more) (none_other past)
