-- The leg of one part of a write: for `Host::leg_under_way`. The part is found by its index among
-- the host's parts, and so is its leg among those of the task: address, code, its bytes on the
-- wire, and the packet error code if it has one.
use Rattle.std.proofs.Common.{◌≡◌, ℕ, ◌<◌, Bool, true, false, Option, Some, List, [], ◌∷◌, ◌++◌, map, refl, sym, ap}
use Rattle.std.proofs.Common.{subst, ◌∙◌, zero, suc}
use Rattle.std.specs.List.{AllByRecursion, slice_get}
use Rattle.std.specs.Option.{option_map, option_to_list}
use Rattle.pmb_bus.specs.Address.{write_address}
use Rattle.pmb_bus.specs.Pec.{pec}
use Rattle.pmb_command.specs.declared.form.Form.{Form}
use Rattle.pmb_command.specs.Parts.{DeviceParts}
use Rattle.pmb_transaction.specs.declared.part.Part.{Part}
use Rattle.pmb_transaction.specs.Body.{checked}
use Rattle.pmb_transaction.specs.Transaction.{PartData, Write, part_data}
use Rattle.pmb_host.specs.Signals.{leg_form, legs_of, part_bytes, part_form, wire_in}
use Rattle.pmb_host.specs.machine.Legs.{coded_with}

get_map : {X Y : Type 0} (f : X → Y) (xs : List X) (i : ℕ) → slice_get (map f xs) i ≡ option_map f (slice_get xs i)
get_map f [] zero = refl
get_map f [] (suc i) = refl
get_map f (x ∷ xs) zero = refl
get_map f (x ∷ xs) (suc i) = get_map f xs i

all_at : {X : Type 0} (P : X → Type 0) (xs : List X) (i : ℕ) (x : X) → AllByRecursion P xs → slice_get xs i ≡ Some x
    → P x
all_at P [] zero x all is = absurd (cc is)
all_at P [] (suc i) x all is = absurd (cc is)
all_at P (y ∷ xs) zero x all is = let same : y ≡ x = cc is in subst P same all.0
all_at P (y ∷ xs) (suc i) x all is = all_at P xs i x all.1 is

coded_part : (with_pec : Bool) (address code : ℕ) (wire : List ℕ)
    → coded_with with_pec (pec (address ∷ code ∷ wire)) (address ∷ code ∷ wire) ≡ address
    ∷ checked with_pec (address ∷ []) (code ∷ wire)
coded_part false address code wire = refl
coded_part true address code wire = refl

module _ (profile : List DeviceParts) (items : List Part) (index : ℕ) (part : Part)
    (found : slice_get items index ≡ Some part) where
  data_found : slice_get (map part_data items) index ≡ Some (part_data part)
  data_found = get_map part_data items index ∙ ap (option_map part_data) found

  pub small_address : AllByRecursion (λ (p : PartData). p.addr < 128) (map part_data items) → part.addr < 128
  small_address all = all_at (λ (p : PartData). p.addr < 128) (map part_data items) index
      (part_data part) all data_found

  pub part_leg : (form : Option Form) (address : ℕ) (count : Option ℕ) (content : List ℕ)
      → form ≡ leg_form profile (Write (map part_data items)) index
      → address ≡ write_address part.addr → option_to_list count ++ content ≡ wire_in form content
      → content ≡ part.bytes.items
      → Some (coded_with part.pec (pec (address ∷ part.code ∷ (option_to_list count ++ content)))
      (address ∷ part.code ∷ (option_to_list count ++ content)))
      ≡ slice_get (legs_of profile (Write (map part_data items))) index
  part_leg form address count content form_is address_is wire_is content_is =
      let of_part = form_is ∙ ap (part_form profile) data_found in
      let wire = wire_is ∙ ap (λ (f : Option Form). wire_in f content) of_part
      ∙ ap (λ (bs : List ℕ). wire_in (part_form profile (Some (part_data part))) bs) content_is in
      ap (λ (w : List ℕ). Some (coded_with part.pec (pec (address ∷ part.code ∷ w)) (address ∷ part.code ∷ w))) wire
      ∙ ap Some (coded_part part.pec address part.code
      (wire_in (part_form profile (Some (part_data part))) part.bytes.items))
      ∙ ap (λ (a : ℕ). Some (a ∷ checked part.pec (a ∷ [])
      (part.code ∷ wire_in (part_form profile (Some (part_data part))) part.bytes.items))) address_is
      ∙ sym (get_map (part_bytes profile) (map part_data items) index ∙ ap (option_map (part_bytes profile)) data_found)
