-- A value for each device of a profile, kept in a list by address (`KeptByAddress`): what is told
-- of one device changes its value and no other. For `Context` of `pmb_note` (`observe`,
-- `take_bytes`, `take_parts`) and `Late` of `pmb_unknown_start`. A device that is found has the
-- address, and that is below 128, so it has a place of its own.
use Rattle.std.proofs.Common.{◌≡◌, ◌≢◌, ℕ, ◌+◌, ◌<◌, ◌≤◌, cond, get_or, drop, slice_set, Bool, true, false, Some, None}
use Rattle.std.proofs.Common.{List, [], ◌∷◌, ◌++◌, fold, length, map, take, nat_eq, refl, sym, ap, ◌∙◌, subst, arith}
use Rattle.std.specs.List.{refill}
use Rattle.std.proofs.lemmas.Bool.{eq-eqb, eqb-false, eqb-true, ne_eqb}
use Rattle.std.proofs.lemmas.List.{get_or-set_other, get_or-set_same, length-set, map-append, take_all, take_more}
use Rattle.std.proofs.lemmas.List.Sums.{fold-append}
use Rattle.std.proofs.Math.Seq.{take-append_seam}
use Rattle.std.proofs.lemmas.Option.{get_or_from_slice_get, none-some, same_Some, slice_get-get_or}
use Rattle.pmb_command.specs.Bus.{IsBus}
use Rattle.pmb_command.specs.Parts.{DeviceParts, device_with}
use Rattle.pmb_transaction.specs.declared.part.Part.{Part}
use Rattle.pmb_transaction.specs.ByAddress.{KeptByAddress}
use Rattle.pmb_transaction.specs.Transaction.{PartData, part_data}
use Rattle.pmb_transaction.proofs.Known.{device_is}

-- a device that is found has the address, of seven bits
address_is : (profile : List DeviceParts) → IsBus profile → (addr : ℕ) (device : DeviceParts)
    → device_with addr profile ≡ Some device → device.address ≡ addr
address_is profile bus addr device known = (device_is profile addr device bus known).1

seven_bits : (profile : List DeviceParts) → IsBus profile → (addr : ℕ) (device : DeviceParts)
    → device_with addr profile ≡ Some device → addr < 128
seven_bits profile bus addr device known =
    let is = device_is profile addr device bus known in
    omega (arith, is.0.address.greatest, is.1)

module _ {A : Type 0} (kept : List A) (profile : List DeviceParts) where
  -- two ways to say what is kept
  pub alike : (f g : DeviceParts → A) → KeptByAddress kept profile f → ((device : DeviceParts) → f device ≡ g device)
      → KeptByAddress kept profile g
  alike f g keeps same = record {
    bus = keeps.bus;
    long = keeps.long;
    each =
        λ addr device known. keeps.each addr device known ∙ ap Some (same device);
  }

  module _ (now : DeviceParts → A) (keeps : KeptByAddress kept profile now) where
    -- a device has its place
    pub placed : (addr : ℕ) (device : DeviceParts) → Some device ≡ device_with addr profile → addr < length kept
    placed addr device known = omega (arith, keeps.long, seven_bits profile keeps.bus addr device (sym known))

    -- something is told of the device with an address, and of no other one
    module _ (told : ℕ) (change : DeviceParts → A → A) where
      abbrev later : DeviceParts → A
      later device = cond (nat_eq told device.address) (change device (now device)) (now device)

      of_another : (addr : ℕ) (device : DeviceParts) → device_with addr profile ≡ Some device → told ≢ addr
          → later device ≡ now device
      of_another addr device known other =
          ap (λ (b : Bool). cond b (change device (now device)) (now device))
          (ne_eqb told device.address (λ same. other (same ∙ address_is profile keeps.bus addr device known)))

      -- where no device has the address, nothing changes
      pub untold : None ≡ device_with told profile → KeptByAddress kept profile later
      untold none = record {
        bus = keeps.bus;
        long = keeps.long;
        each = λ addr device known.
            let other : told ≢ addr = λ same. none-some device
            (none ∙ ap (λ (a : ℕ). device_with a profile) same ∙ known) in
            keeps.each addr device known ∙ ap Some (sym (of_another addr device known other));
      }

      module _ (device_told : DeviceParts) (before after : A) (known_told : Some device_told ≡ device_with told profile)
          (was : before ≡ get_or kept told before)
          (is_after : after ≡ change device_told before) where
        told_here : (device : DeviceParts) → device_with told profile ≡ Some device → after ≡ later device
        told_here device known =
            let was_now : before ≡ now device = was ∙ get_or_from_slice_get kept told (now device) before
            (keeps.each told device known) in
            is_after ∙ ap (λ (d : DeviceParts). change d before) (same_Some device_told device (known_told ∙ known))
            ∙ ap (change device) was_now
            ∙ sym (ap (λ (b : Bool). cond b (change device (now device)) (now device))
            (eq-eqb told device.address (sym (address_is profile keeps.bus told device known))))

        kept_there : (b : Bool) (addr : ℕ) (device : DeviceParts) → device_with addr profile ≡ Some device
            → nat_eq addr told ≡ b
            → get_or (slice_set kept told after) addr after ≡ later device
        kept_there true addr device known same =
            let is : addr ≡ told = eqb-true addr told same in
            let here : device_with told profile ≡ Some device = ap (λ (a : ℕ). device_with a profile) (sym is)
            ∙ known in
            ap (λ (a : ℕ). get_or (slice_set kept told after) a after) is
            ∙ get_or-set_same kept told after after (placed told device (sym here))
            ∙ told_here device here
        kept_there false addr device known other =
            let differs : addr ≢ told = eqb-false addr told other in
            get_or-set_other kept told addr after after differs
            ∙ get_or_from_slice_get kept addr (now device) after (keeps.each addr device known)
            ∙ sym (of_another addr device known (λ same. differs (sym same)))

        -- what is told of a device is kept at its place
        pub told_at : (place : ℕ) → place ≡ told → KeptByAddress (slice_set kept place after) profile later
        told_at place at =
            let long : length (slice_set kept told after) ≡ length kept = length-set kept told after in
            subst (λ (n : ℕ). KeptByAddress (slice_set kept n after) profile later) (sym at)
            (record {
              bus = keeps.bus;
              long = long ∙ keeps.long;
              each = λ addr device known.
                  let within : addr < length kept = placed addr device (sym known) in
                  slice_get-get_or (slice_set kept told after) addr after (omega (arith, long, within))
                  ∙ ap Some (kept_there (nat_eq addr told) addr device known refl);
            })

-- ---- what is told in turn

module _ {A B : Type 0} (step : DeviceParts → A → B → A) where
  -- one thing more
  one_more : (kept : List A) (profile : List DeviceParts) (now : DeviceParts → A) (some : List B) (last : B)
      (all : List B) → all ≡ some ++ last ∷ []
      → KeptByAddress kept profile (λ device. step device (fold (step device) (now device) some) last)
      → KeptByAddress kept profile (λ device. fold (step device) (now device) all)
  one_more kept profile now some last all split keeps =
      alike kept profile (λ device. step device (fold (step device) (now device) some) last)
      (λ device. fold (step device) (now device) all) keeps
      (λ device. sym (fold-append (step device) (now device) some (last ∷ [])) ∙ ap (fold (step device) (now device))
      (sym split))

  -- what parts tell
  module _ (told : PartData → B) where
    abbrev told_by : List Part → List B
    told_by parts = map told (map part_data parts)

    -- one part more
    pub part_more : (kept : List A) (profile : List DeviceParts) (now : DeviceParts → A) (parts : List Part) (i : ℕ)
        (part : Part)
        → i < length parts → part ≡ get_or parts i part
        → KeptByAddress kept profile (λ device. step device (fold (step device) (now device) (told_by (take i parts)))
        (told (part_data part)))
        → KeptByAddress kept profile (λ device. fold (step device) (now device) (told_by (take (i + 1) parts)))
    part_more kept profile now parts i part within is keeps =
        let more : take (i + 1) parts ≡ take i parts ++ part ∷ [] = take_more parts i part within
        ∙ ap (λ (p : Part). take i parts ++ p ∷ []) (sym is) in
        let split : told_by (take (i + 1) parts) ≡ told_by (take i parts) ++ told (part_data part) ∷ [] =
        ap told_by more ∙ ap (map told) (map-append part_data (take i parts) (part ∷ []))
        ∙ map-append told (map part_data (take i parts)) (part_data part ∷ []) in
        one_more kept profile now (told_by (take i parts)) (told (part_data part)) (told_by (take (i + 1) parts)) split
        keeps

    -- all of them
    pub parts_all : (kept : List A) (profile : List DeviceParts) (now : DeviceParts → A) (parts : List Part) (i : ℕ)
        → length parts ≤ i
        → KeptByAddress kept profile (λ device. fold (step device) (now device) (told_by (take i parts)))
        → KeptByAddress kept profile (λ device. fold (step device) (now device) (told_by parts))
    parts_all kept profile now parts i whole keeps =
        subst (λ (ps : List Part). KeptByAddress kept profile (λ device. fold (step device) (now device) (told_by ps)))
        (take_all i parts whole) keeps

  -- what is kept in place of what was given
  pub observed : (items given new : List A) (own profile : List DeviceParts) (first : DeviceParts → A) (some : List B)
      (last : B) → own ≡ profile
      → KeptByAddress items profile (λ device. fold (step device) (first device) some) → given ≡ items
      → ((now : DeviceParts → A) → KeptByAddress given own now
      → KeptByAddress new own (λ device. step device (now device) last))
      → KeptByAddress (refill (length items) items new) profile
      (λ device. fold (step device) (first device) (some ++ last ∷ []))
  observed items given new own profile first some last is_own keeps is_given takes =
      let now : DeviceParts → A = λ device. fold (step device) (first device) some in
      let before : KeptByAddress given own now =
      subst (λ (xs : List A). KeptByAddress xs own now) (sym is_given)
      (subst (λ (devices : List DeviceParts). KeptByAddress items devices now) (sym is_own) keeps) in
      let after : KeptByAddress new profile (λ device. step device (now device) last) =
      subst (λ (devices : List DeviceParts). KeptByAddress new devices (λ device. step device (now device) last)) is_own
      (takes now before) in
      let written : refill (length items) items new ≡ new =
      ap (λ (n : ℕ). take n (new ++ drop (length new) items)) (keeps.long ∙ sym after.long)
      ∙ take-append_seam new (drop (length new) items) in
      subst (λ (xs : List A). KeptByAddress xs profile
      (λ device. fold (step device) (first device) (some ++ last ∷ []))) (sym written)
      (one_more new profile first some last (some ++ last ∷ []) refl after)

-- a list of one byte
pub one_byte : (bytes : List ℕ) → 1 ≤ length bytes → length bytes < 2 → bytes ≡ get_or bytes 0 0 ∷ []
one_byte [] some few = absurd (omega (arith, some))
one_byte (b ∷ []) some few = refl
one_byte (b ∷ c ∷ bytes) some few = absurd (omega (arith, few))
