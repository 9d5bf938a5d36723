-- A device's own leg in a packet, while more signals come (`OwnIsIn`). For all steps of a
-- `DevicePacket`. A signal that adds no byte changes nothing; a byte after the address changes no
-- address; and a leg that has ended stays where it is, before the later ones.
use Rattle.std.proofs.Common.{◌≡◌, ℕ, Bool, true, false, ◌||◌, Option, List, [], ◌∷◌, ◌++◌, refl, sym, ap, subst, ◌∙◌}
use Rattle.std.proofs.Common.{append_assoc, nat_eq, eq-eqb}
use Rattle.pmb_command.specs.Parts.{DeviceParts}
use Rattle.pmb_bus.specs.Address.{write_address, read_address}
use Rattle.pmb_registers.specs.declared.cml_bit.CmlBit.{CmlBit}
use Rattle.pmb_registers.specs.State.{DeviceState}
use Rattle.pmb_device.specs.Legs.{Leg, is_first_byte, is_to, leg_place, sent, some_is_to}
use Rattle.pmb_device.specs.Rules.{IsWritten, TakesAll}
use Rattle.pmb_device.specs.machine.Standing.{BytesAre, IsOwn, Kept, Notes, OwnIsIn, answers, ended, head_is_to}
use Rattle.pmb_device.specs.machine.Standing.{no_answer, none, under_way}
use Rattle.pmb_device.proofs.Signals.{is_to_first, some_of_both}

-- ---- legs after

-- some legs begin with the same addresses where their last ones do
pub same_head : (a : ℕ) (mid : List Leg) (leg other : Leg) → is_to a leg ≡ is_to a other
    → head_is_to a (mid ++ leg ∷ []) ≡ head_is_to a (mid ++ other ∷ [])
same_head a [] leg other same = same
same_head a (first ∷ mid) leg other same = refl

pub same_some : (a : ℕ) (mid : List Leg) (leg other : Leg) → is_to a leg ≡ is_to a other
    → some_is_to a (mid ++ leg ∷ []) ≡ some_is_to a (mid ++ other ∷ [])
same_some a mid leg other same =
    some_of_both a mid (leg ∷ []) ∙ ap (λ (b : Bool). some_is_to a mid || (b || false)) same
    ∙ sym (some_of_both a mid (other ∷ []))

-- one leg more
pub head_more : (a : ℕ) (mid : List Leg) (leg : Leg) (more : List Leg)
    → head_is_to a (mid ++ leg ∷ []) ≡ head_is_to a ((mid ++ leg ∷ []) ++ more)
head_more a [] leg more = refl
head_more a (first ∷ mid) leg more = refl

pub or_nothing : (b : Bool) → b ≡ (b || false)
or_nothing true = refl
or_nothing false = refl

pub some_more : (a : ℕ) (legs : List Leg) → some_is_to a legs ≡ some_is_to a (legs ++ [] ∷ [])
some_more a legs = or_nothing (some_is_to a legs) ∙ sym (some_of_both a legs ([] ∷ []))

-- the first leg is one of them
pub head_is_some : (a : ℕ) (legs : List Leg) → head_is_to a legs ≡ true → some_is_to a legs ≡ true
head_is_some a [] is = is
head_is_some a (leg ∷ legs) is = ap (λ (b : Bool). b || some_is_to a legs) is

or_right : (b c : Bool) → c ≡ true → (b || c) ≡ true
or_right true c is = refl
or_right false c is = is

-- one leg among others
pub is_some : (a : ℕ) (before : List Leg) (leg : Leg) (behind : List Leg) → is_to a leg ≡ true
    → some_is_to a (before ++ leg ∷ behind) ≡ true
is_some a before leg behind is =
    some_of_both a before (leg ∷ behind) ∙ or_right (some_is_to a before) _
    (ap (λ (b : Bool). b || some_is_to a behind) is)

-- a byte is itself
pub same_byte : (a : ℕ) → nat_eq a a ≡ true
same_byte a = eq-eqb a a refl

module _ (device : DeviceParts) (state : DeviceState) where
  -- ---- the own leg, where other legs stand after it

  pub same_notes : (noted : Option CmlBit) (before : List Leg) (bytes : List ℕ) (behind others : List Leg)
      → head_is_to (read_address device.address) behind ≡ head_is_to (read_address device.address) others
      → Notes device state noted before bytes behind → Notes device state noted before bytes others
  same_notes noted before bytes behind others same (answers has is) =
      answers (record { first = has.first; request = has.request; read = sym same ∙ has.read }) is
  same_notes noted before bytes behind others same (no_answer has is) =
      no_answer (λ h. has (record { first = h.first; request = h.request; read = same ∙ h.read })) is

  pub same_body : (refused : Bool) (k : Kept) (before : List Leg) (bytes : List ℕ) (behind others : List Leg)
      → head_is_to (read_address device.address) behind ≡ head_is_to (read_address device.address) others
      → BytesAre refused device state k before bytes behind → BytesAre refused device state k before bytes others
  same_body false k before bytes behind others same all =
      record {
        leg_is = all.leg_is;
        taken = all.taken;
        notes =
            same_notes k.noted before bytes behind others same all.notes;
      }
  same_body true k before bytes behind others same refuses = refuses

  pub same_own : (k : Kept) (before : List Leg) (own : Leg) (bytes : List ℕ) (behind others : List Leg)
      → head_is_to (read_address device.address) behind ≡ head_is_to (read_address device.address) others
      → some_is_to (read_address device.address) behind ≡ some_is_to (read_address device.address) others
      → IsOwn device state k before own bytes behind → IsOwn device state k before own bytes others
  same_own k before own bytes behind others head some o = record {
    kept_own = o.kept_own;
    first = o.first;
    bytes_are = o.bytes_are;
    body = same_body k.refused k before bytes behind others head o.body;
    read = o.read ∙ some;
  }

  -- ---- a signal more in the leg under way

  -- a leg that is longer, with no other address
  ended_longer : (k : Kept) (before : List Leg) (own : Leg) (bytes : List ℕ) (mid : List Leg) (leg longer : Leg)
      → is_to (read_address device.address) leg ≡ is_to (read_address device.address) longer
      → IsOwn device state k before own bytes (mid ++ leg ∷ [])
      → IsOwn device state k before own bytes (mid ++ longer ∷ [])
  ended_longer k before own bytes mid leg longer same o =
      same_own k before own bytes (mid ++ leg ∷ []) (mid ++ longer ∷ []) (same_head _ mid leg longer same)
      (same_some _ mid leg longer same) o

  -- a signal that is no byte
  pub own_stays : (k : Kept) (earlier : List Leg) (leg longer : Leg) → sent longer ≡ sent leg
      → OwnIsIn device state k earlier leg → OwnIsIn device state k earlier longer
  own_stays k earlier leg longer same (none own before is) =
      none own before (ap (is_first_byte (write_address device.address)) same ∙ is)
  own_stays k earlier leg longer same (under_way bytes o) =
      under_way bytes (record {
        kept_own = o.kept_own;
        first = o.first;
        bytes_are = same ∙ o.bytes_are;
        body =
            o.body;
        read = o.read;
      })
  own_stays k earlier leg longer same (ended before own mid bytes split o) =
      ended before own mid bytes split (ended_longer k before own bytes mid leg longer
      (ap (is_first_byte (read_address device.address)) (sym same)) o)

  refuses_more : (k : Kept) (refused : Bool) (earlier : List Leg) (leg : Leg) (bytes : List ℕ) (byte : ℕ)
      → (TakesAll device (leg_place earlier) [] bytes → ⊥) → BytesAre refused device state k earlier bytes []
      → BytesAre refused device state k earlier (bytes ++ byte ∷ []) []
  refuses_more k false earlier leg bytes byte never all = absurd (never all.taken)
  refuses_more k true earlier leg bytes byte never r = record {
    front = r.front;
    byte = r.byte;
    rest = r.rest ++ byte ∷ [];
    split = ap (λ (bs : List ℕ). bs ++ byte ∷ []) r.split ∙ append_assoc r.front (r.byte ∷ r.rest) (byte ∷ []);
    taken = r.taken;
    refused = r.refused;
    noted = r.noted;
  }

  -- a byte after the address, of which the device takes none
  pub own_passes : (k : Kept) (earlier : List Leg) (leg longer : Leg) (address : ℕ) (bytes : List ℕ) (byte : ℕ)
      → sent leg ≡ address ∷ bytes
      → sent longer ≡ address ∷ bytes ++ byte ∷ []
      → (IsWritten device earlier address → TakesAll device (leg_place earlier) [] bytes → ⊥)
      → OwnIsIn device state k earlier leg → OwnIsIn device state k earlier longer
  -- no leg is its own, nor does this byte make it so
  own_passes k earlier leg longer address bytes byte is more never (none own before other) =
      let wa = write_address device.address in
      none own before (is_to_first wa address (bytes ++ byte ∷ []) longer more
      ∙ sym (is_to_first wa address bytes leg is) ∙ other)
  -- its own leg is this one: a byte before was refused, so this one is passed over as well
  own_passes k earlier leg longer address bytes byte is more never (under_way front o) =
      let same : address ∷ bytes ≡ write_address device.address ∷ front = sym is ∙ o.bytes_are in
      let same_bytes : bytes ≡ front = cc same in
      let same_address : address ≡ write_address device.address = cc same in
      let refused : TakesAll device (leg_place earlier) [] bytes
      → ⊥ = never (record { own = same_address; once = o.first }) in
      let body : BytesAre k.refused device state k earlier bytes [] =
      subst (λ (bs : List ℕ). BytesAre k.refused device state k earlier bs []) (sym same_bytes) o.body in
      under_way (bytes ++ byte ∷ []) (record {
        kept_own = o.kept_own;
        first = o.first;
        bytes_are = more ∙ ap (λ (a : ℕ). a ∷ bytes ++ byte ∷ []) same_address;
        body = refuses_more k k.refused earlier leg bytes byte refused body;
        read = o.read;
      })
  -- its own leg ended before: this one keeps its address
  own_passes k earlier leg longer address bytes byte is more never (ended before own mid front split o) =
      let ra = read_address device.address in
      ended before own mid front split
      (ended_longer k before own front mid leg longer
      (is_to_first ra address bytes leg is ∙ sym (is_to_first ra address (bytes ++ byte ∷ []) longer more)) o)

  -- ---- a leg more

  pub own_at_start : (k : Kept) (earlier : List Leg) (leg : Leg) → OwnIsIn device state k earlier leg
      → OwnIsIn device state k (earlier ++ leg ∷ []) []
  own_at_start k earlier leg (none own before is) =
      none own (some_of_both (write_address device.address) earlier (leg ∷ [])
      ∙ ap (λ (b : Bool). b || (is_to (write_address device.address) leg || false)) before
      ∙ ap (λ (b : Bool). b || false) is) refl
  own_at_start k earlier leg (under_way bytes o) =
      ended earlier leg [] bytes refl (same_own k earlier leg bytes [] ([] ∷ []) refl refl o)
  own_at_start k earlier leg (ended before own mid bytes split o) =
      ended before own (mid ++ leg ∷ []) bytes
      (ap (λ (legs : List Leg). legs ++ leg ∷ []) split ∙ append_assoc before (own ∷ mid) (leg ∷ []))
      (same_own k before own bytes (mid ++ leg ∷ []) ((mid ++ leg ∷ []) ++ [] ∷ []) (head_more _ mid leg ([] ∷ []))
      (some_more _ (mid ++ leg ∷ [])) o)

  -- it stands after the device's own leg, and that is the packet's first
  pub own_is : (k : Kept) (earlier : List Leg) (leg : Leg) → OwnIsIn device state k earlier leg
      → k.own ≡ some_is_to (write_address device.address) (earlier ++ leg ∷ [])
  own_is k earlier leg (none own before is) =
      own ∙ sym (some_of_both (write_address device.address) earlier (leg ∷ [])
      ∙ ap (λ (b : Bool). b || (is_to (write_address device.address) leg || false)) before
      ∙ ap (λ (b : Bool). b || false) is)
  own_is k earlier leg (under_way bytes o) =
      o.kept_own ∙ sym (is_some (write_address device.address) earlier leg []
      (is_to_first _ _ bytes leg o.bytes_are ∙ same_byte (write_address device.address)))
  own_is k earlier leg (ended before own mid bytes split o) =
      let here : is_to (write_address device.address) own ≡ true = is_to_first _ _ bytes own o.bytes_are
      ∙ same_byte (write_address device.address) in
      let all : earlier ++ leg ∷ [] ≡ before ++ own ∷ (mid ++ leg ∷ []) =
      ap (λ (legs : List Leg). legs ++ leg ∷ []) split ∙ append_assoc before (own ∷ mid) (leg ∷ []) in
      o.kept_own ∙ sym (ap (some_is_to (write_address device.address)) all
      ∙ is_some _ before own (mid ++ leg ∷ []) here)
