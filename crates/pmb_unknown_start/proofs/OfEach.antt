-- What is kept of each device by address, where a loop over the devices of a profile changes those that take something:
-- one device more (`one_written`, `one_left`), and all of them (`all_written`). For `take_write_at` and `take_write`.
-- A device that is found by its address is the one at its index, since no two have one address.
use Rattle.std.proofs.Common.{◌≡◌, ℕ, ◌+◌, ◌≤◌, cond, get_or, slice_set, Bool, true, false, ◌||◌, Some, List, [], ◌∷◌, ◌++◌}
use Rattle.std.proofs.Common.{length, map, option_map, slice_get, take, nat_eq, refl, sym, ap, ◌∙◌, subst}
use Rattle.std.specs.List.{list_any}
use Rattle.std.proofs.lemmas.Bool.{eq-eqb, eqb-true}
use Rattle.std.proofs.lemmas.List.{map-append, take-map, take_all, take_more}
use Rattle.std.proofs.lemmas.List.Folds.{list_any-append}
use Rattle.std.proofs.lemmas.Option.{get_or_from_slice_get, none-some, same_Some, slice_get-map, slice_get_within}
use Rattle.pmb_command.specs.Bus.{IsBus}
use Rattle.pmb_command.specs.Parts.{DeviceParts, IsNew, device_with}
use Rattle.pmb_table.proofs.Places.{find-at, new_to_earlier, same_both_ways}
use Rattle.pmb_transaction.proofs.ByAddress.{alike, told_at}
use Rattle.pmb_transaction.proofs.Known.{device_is}
use Rattle.pmb_unknown_start.specs.machine.Keeping.{Keeps, KeptData, written_to}

abbrev addresses : List DeviceParts → List ℕ
addresses devices = map (λ d. d.address) devices

or_true : (b : Bool) → b || true ≡ true
or_true true = refl
or_true false = refl

-- the address of a device that is found is among those of all
has : (addr : ℕ) (device : DeviceParts) (devices : List DeviceParts) → device.address ≡ addr
    → device_with addr devices ≡ Some device → list_any (nat_eq device.address) (addresses devices) ≡ true
has addr device [] at known = absurd (none-some device known)
has addr device (d ∷ devices) at known =
    first (nat_eq d.address addr) refl known (λ later. has addr device devices at later)
  where
    first : (b : Bool) → nat_eq d.address addr ≡ b → cond b (Some d) (device_with addr devices) ≡ Some device
        → (device_with addr devices ≡ Some device → list_any (nat_eq device.address) (addresses devices) ≡ true)
        → nat_eq device.address d.address || list_any (nat_eq device.address) (addresses devices) ≡ true
    first true is found later = ap (λ (b : Bool). b || list_any (nat_eq device.address) (addresses devices))
        (eq-eqb device.address d.address (at ∙ sym (eqb-true d.address addr is)))
    first false is found later =
        ap (λ (b : Bool). nat_eq device.address d.address || b) (later found)
        ∙ or_true (nat_eq device.address d.address)

module _ (profile : List DeviceParts) (after now : DeviceParts → KeptData) where
  -- what is kept of a device after those so far
  abbrev so_far : ℕ → DeviceParts → KeptData
  so_far i = written_to (take i profile) after now

  module _ (bus : IsBus profile) (i : ℕ) (d : DeviceParts) (here : slice_get profile i ≡ Some d) where
    address_here : slice_get (addresses profile) i ≡ Some d.address
    address_here = slice_get-map (λ (x : DeviceParts). x.address) profile i ∙ ap (option_map (λ x. x.address)) here

    -- it is the one that its address finds
    pub found_here : device_with d.address profile ≡ Some d
    found_here = find-at (λ (x : DeviceParts). x.address) profile i d.address bus.own_addresses address_here ∙ here

    -- .. and none before it has the address
    none_before : list_any (nat_eq d.address) (addresses (take i profile)) ≡ false
    none_before = subst (IsNew d.address) (take-map (λ (x : DeviceParts). x.address) i profile)
        (new_to_earlier (addresses profile) i d.address bus.own_addresses address_here)

    pub not_yet : so_far i d ≡ now d
    not_yet = ap (λ (b : Bool). cond b (after d) (now d)) none_before

    both : (before is : Bool) (there then : KeptData) → cond is there (cond before there then)
        ≡ cond (before || (is || false)) there then
    both true true there then = refl
    both true false there then = refl
    both false true there then = refl
    both false false there then = refl

    -- with one device more
    more : (device : DeviceParts) → cond (nat_eq device.address d.address) (after device) (so_far i device)
        ≡ so_far (i + 1) device
    more device =
        let next : take (i + 1) profile ≡ take i profile ++ d ∷ [] =
        take_more profile i d (slice_get_within profile i d here)
        ∙ ap (λ (x : DeviceParts). take i profile ++ x ∷ []) (get_or_from_slice_get profile i d d here) in
        both (list_any (nat_eq device.address) (addresses (take i profile))) (nat_eq device.address d.address)
        (after device) (now device)
        ∙ ap (λ (b : Bool). cond b (after device) (now device))
        (sym (list_any-append (nat_eq device.address) (addresses (take i profile)) (d.address ∷ []))
        ∙ ap (list_any (nat_eq device.address))
        (sym (map-append (λ (x : DeviceParts). x.address) (take i profile) (d ∷ [])))
        ∙ ap (λ (ds : List DeviceParts). list_any (nat_eq device.address) (addresses ds)) (sym next))

    -- it is changed at its place
    pub one_written : (kept : List KeptData) → Keeps kept profile (so_far i) → (before new : KeptData)
        → before ≡ get_or kept d.address before → (before ≡ now d → new ≡ after d) → (place : ℕ) → place ≡ d.address
        → Keeps (slice_set kept place new) profile (so_far (i + 1))
    one_written kept keeps before new was becomes place at =
        let is_now : before ≡ now d = was
        ∙ get_or_from_slice_get kept d.address (so_far i d) before (keeps.each d.address d found_here)
        ∙ not_yet in
        alike (slice_set kept place new) profile
        (λ device. cond (nat_eq d.address device.address) (after device) (so_far i device)) (so_far (i + 1))
        (told_at kept profile (so_far i) keeps d.address (λ device k. after device) d before new (sym found_here) was
        (becomes is_now) place at)
        (λ device. ap (λ (b : Bool). cond b (after device) (so_far i device))
        (same_both_ways d.address device.address) ∙ more device)

    -- it stays as it is
    pub one_left : (kept : List KeptData) → Keeps kept profile (so_far i) → after d ≡ now d
        → Keeps kept profile (so_far (i + 1))
    one_left kept keeps stays = record {
      bus = keeps.bus;
      long = keeps.long;
      each = λ addr device known. keeps.each addr device known
          ∙ ap Some (by addr device known (nat_eq device.address d.address) refl);
    }
      where
        by : (addr : ℕ) (device : DeviceParts) → device_with addr profile ≡ Some device → (b : Bool)
            → nat_eq device.address d.address ≡ b → so_far i device ≡ so_far (i + 1) device
        by addr device known true is =
            let at : device.address ≡ addr = (device_is profile addr device bus known).1 in
            let same : d ≡ device = same_Some d device
            (sym found_here
            ∙ ap (λ (a : ℕ). device_with a profile) (sym (eqb-true device.address d.address is) ∙ at) ∙ known) in
            let stays_here : after device ≡ so_far i device = subst (λ (x : DeviceParts). after x ≡ so_far i x) same
            (stays ∙ sym not_yet) in
            sym (ap (λ (b : Bool). cond b (after device) (so_far i device)) is ∙ stays_here)
            ∙ more device
        by addr device known false is =
            sym (ap (λ (b : Bool). cond b (after device) (so_far i device)) is) ∙ more device

  -- none was changed yet
  pub none_written : (kept : List KeptData) → Keeps kept profile now → Keeps kept profile (so_far 0)
  none_written kept keeps = alike kept profile now (so_far 0) keeps (λ device. refl)

  -- all were
  pub all_written : (kept : List KeptData) (i : ℕ) → length profile ≤ i → Keeps kept profile (so_far i)
      → Keeps kept profile after
  all_written kept i whole keeps = record {
    bus = keeps.bus;
    long = keeps.long;
    each = λ addr device known. keeps.each addr device known ∙ ap Some (among addr device known);
  }
    where
      among : (addr : ℕ) (device : DeviceParts) → device_with addr profile ≡ Some device → so_far i device ≡ after device
      among addr device known =
          ap (λ (ds : List DeviceParts). written_to ds after now device) (take_all i profile whole)
          ∙ ap (λ (b : Bool). cond b (after device) (now device))
          (has addr device profile (device_is profile addr device keeps.bus known).1 known)
