-- The objects of devices that came, one after the other. For `put_device` and `put_counts`. A
-- device that came has one object, one that didn't has none, so the objects of addresses are those
-- of each in turn.
use Rattle.std.proofs.Common.{◌≡◌, ℕ, Bool, true, Some, List, [], ◌∷◌, ◌++◌, map, ap, ◌∙◌, refl}
use Rattle.std.proofs.lemmas.List.{map-append}
use Rattle.std.proofs.lemmas.List.Elements.{filter-append}
use Rattle.pmb_command.specs.Parts.{DeviceParts}
use Rattle.pmb_json_objects.specs.Counts.{DeviceData, counts_object, has_come}
use Rattle.pmb_json_objects.specs.declared.counts.DeviceCounts.{DeviceCounts}
use Rattle.pmb_fact_stream.specs.machine.Counts.{counts_of}

pub same_counts : (a b : DeviceCounts) → Some a ≡ Some b → a ≡ b
same_counts a b same = cc same

module _ (profile : List DeviceParts) (gives_others : Bool) (counts : ℕ → DeviceData) where
  pub come : (addr : ℕ) → has_come (counts addr) ≡ true
      → counts_of profile gives_others counts (addr ∷ []) ≡ counts_object profile gives_others addr (counts addr) ∷ []
  come addr came = rw came refl

  pub counts_append : (a b : List ℕ) → counts_of profile gives_others counts (a ++ b) ≡ counts_of profile gives_others
      counts a ++ counts_of profile gives_others counts b
  counts_append a b =
      ap (map (λ (addr : ℕ). counts_object profile gives_others addr (counts addr)))
      (filter-append (λ (addr : ℕ). has_come (counts addr)) a b)
      ∙ map-append (λ (addr : ℕ). counts_object profile gives_others addr (counts addr)) _ _
