-- The leg of a packet that is a device's own: there is one at most, and it says what STOP does.
-- For `Bus::new`, `Bus::signal` and the laws on packets. It is the first leg that begins with the
-- device's write address, and a first that passes a test is at one place (`one_first` of `pmb_device`).
use Rattle.std.proofs.Common.{◌≡◌, ℕ, false, List, [], ◌∷◌, ◌++◌, refl, sym, ap, subst, ◌∙◌}
use Rattle.std.proofs.lemmas.Bool.{ne_eqb}
use Rattle.pmb_command.specs.Parts.{DeviceParts}
use Rattle.pmb_bus.specs.Address.{write_address}
use Rattle.pmb_registers.specs.State.{DeviceState}
use Rattle.pmb_device.specs.declared.signal.HostSignal.TheVariants.{Byte}
use Rattle.pmb_device.specs.Legs.{Leg, sent, is_first_byte, is_to, some_is_to}
use Rattle.pmb_device.specs.Ends.{LegsEnd, OwnLegEnds, own_leg, no_leg}
use Rattle.pmb_device.proofs.FirstLeg.{is_to_first, one_first, some_passes}

-- ---- legs of bytes alone

abbrev pub byte_leg : List ℕ → Leg
byte_leg [] = []
byte_leg (b ∷ bytes) = Byte b ∷ byte_leg bytes

-- the bytes that were sent in it
pub sent_bytes : (bytes : List ℕ) → sent (byte_leg bytes) ≡ bytes
sent_bytes [] = refl
sent_bytes (b ∷ bytes) = ap (λ (bs : List ℕ). b ∷ bs) (sent_bytes bytes)

-- one more byte
pub one_byte_more : (bytes : List ℕ) (b : ℕ) → byte_leg bytes ++ Byte b ∷ [] ≡ byte_leg (bytes ++ b ∷ [])
one_byte_more [] b = refl
one_byte_more (c ∷ bytes) b = ap (λ (leg : Leg). Byte c ∷ leg) (one_byte_more bytes b)

-- ---- what STOP does

-- a leg that begins with another byte
pub is_to_other : (address first : ℕ) (bytes : List ℕ) (leg : Leg) → (first ≡ address → ⊥) → sent leg ≡ first ∷ bytes
    → is_to address leg ≡ false
is_to_other address first bytes leg other is = ap (is_first_byte address) is ∙ ne_eqb first address other

module _ (device : DeviceParts) (before after : DeviceState) where
  -- without an own leg nothing changes
  pub ends_without : (legs : List Leg) → some_is_to (write_address device.address) legs ≡ false
      → LegsEnd device legs before after → after ≡ before
  ends_without legs none (own_leg bytes o ends) =
      let w = write_address device.address in
      absurd
      (
      some_passes (is_to w) o.earlier o.own o.behind (is_to_first w bytes o.own o.bytes_are)
      (subst (λ (legs : List Leg). some_is_to w legs ≡ false) o.split none)
      )
  ends_without legs none (no_leg nor same) = same

  -- The own leg acts: the first that begins with the device's address for writing.
  pub ends_at : (front : List Leg) (leg : Leg) (back : List Leg) (bytes : List ℕ)
      → some_is_to (write_address device.address) front ≡ false
      → sent leg ≡ write_address device.address ∷ bytes → LegsEnd device (front ++ leg ∷ back) before after
      → OwnLegEnds device front bytes back before after
  ends_at front leg back bytes new is (own_leg others o ends) =
      let w = write_address device.address in
      let place =
      one_first (is_to w) front o.earlier leg o.own back o.behind o.split new o.first (is_to_first w bytes leg is)
      (is_to_first w others o.own o.bytes_are) in
      let rows : w ∷ bytes ≡ w ∷ others = sym is ∙ ap sent place.here ∙ o.bytes_are in
      let same : bytes ≡ others = cc rows in
      subst (λ (fs : List Leg). OwnLegEnds device fs bytes back before after) (sym place.in_front)
      (
      subst (λ (bs : List ℕ). OwnLegEnds device o.earlier bs back before after) (sym same)
      (subst (λ (ls : List Leg). OwnLegEnds device o.earlier others ls before after) (sym place.later) ends)
      )
  ends_at front leg back bytes new is (no_leg none same) =
      let w = write_address device.address in
      absurd (some_passes (is_to w) front leg back (is_to_first w bytes leg is) none)
