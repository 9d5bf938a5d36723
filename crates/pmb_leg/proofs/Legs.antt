-- Written legs, by what the code keeps of them: which byte may follow, which is taken, and what is
-- kept after it. For `WrittenLeg::begins`, `goes_on`, `take_code` and `take_data`. What is left of
-- a write and of a call is kept side by side, and a byte is taken if either takes it.
use Rattle.std.proofs.Common.{◌≡◌, ◌≢◌, ℕ, ◌<◌, ◌⊎◌, ◌↔◌, inl, inr, Bool, true, false, ◌||◌, ◌==◌, IsTrue, List, []}
use Rattle.std.proofs.Common.{◌∷◌, ◌++◌, length, refl, sym, subst, arith}
use Rattle.std.proofs.lemmas.Bool.{eqb-true, or_left, or_right}
use Rattle.pmb_bus.specs.Pec.{pec}
use Rattle.pmb_command.specs.declared.form.Shape.{Shape}
use Rattle.pmb_command.specs.declared.pec_mode.PecMode.TheVariants.{Off}
use Rattle.pmb_command.specs.Fitting.{calls_fit}
use Rattle.pmb_command.specs.Parts.{DeviceParts}
use Rattle.pmb_transaction.specs.Transaction.{PartData}
use Rattle.pmb_transaction.specs.Body.{forms}
use Rattle.pmb_transaction.specs.Viable.{BeginsBody, IsInsideBody}
use Rattle.pmb_leg.specs.declared.place.LegPlace.{LegPlace}
use Rattle.pmb_leg.specs.Leg.{begins_with, call_form, place_of}
use Rattle.pmb_leg.specs.machine.Legs.{IsBehindCode, IsKeptLeg, Kept}
use Rattle.pmb_leg.specs.machine.DataLeft.{after, goes_on, start, takes, LeavesOf}
use Rattle.pmb_leg.proofs.Bodies.{begins_body, begins_code, code_begins, begins_takes_of, body_begins, body_inside}
use Rattle.pmb_leg.proofs.Bodies.{goes_on_of, in_front, inside_body, inside_of, moved_on_of, on_of, room_of}
use Rattle.pmb_leg.proofs.Bodies.{takes_begins_of, BeginsOf, InsideOf}
use Rattle.pmb_leg.proofs.Lefts.{started_of}
use Rattle.std.proofs.Math.Dec.{eqb-suc-zero}
use Rattle.pmb_command.specs.Wire.{IsByte}

pub either : (a b : Bool) → (a || b) ≡ true → (a ≡ true) ⊎ (b ≡ true)
either true b is = inl refl
either false b is = inr is

module _ (leg : Kept) (code : ℕ) (behind : List ℕ) (is : IsBehindCode leg code behind) where
  abbrev pub the_device : DeviceParts
  the_device = leg.device

  pub write_leaves : LeavesOf (forms the_device code).write the_device.pec (in_front the_device code) behind leg.write
  write_leaves = subst (λ (s : Shape). LeavesOf s.write the_device.pec (in_front the_device code) behind leg.write)
      is.shape_is is.write

  pub call_leaves : (place : LegPlace) → place ≡ leg.place
      → LeavesOf (call_form place (forms the_device code)) Off (in_front the_device code) behind leg.call
  call_leaves place same =
      let P : LegPlace → Shape → Type 0 = λ (p : LegPlace) (s : Shape). LeavesOf (call_form p s) Off
      (in_front the_device code) behind leg.call in
      subst (λ (s : Shape). P place s) is.shape_is (subst (λ (p : LegPlace). P p leg.shape) (sym same) is.call)

  so_far : leg.crc ≡ pec (in_front the_device code ++ behind)
  so_far = sym is.crc

  module _ (parts : List PartData) (here : place_of parts ≡ leg.place) where
    goes_on_inside : (goes_on leg.write ≡ true) ⊎ (goes_on leg.call ≡ true)
        → IsInsideBody the_device parts (code ∷ behind)
    goes_on_inside (inl on) =
        body_inside the_device parts code behind
        (inl (inside_of (in_front the_device code) (forms the_device code).write the_device.pec behind leg.write
        write_leaves on))
    goes_on_inside (inr on) =
        body_inside the_device parts code behind
        (inr (inside_of (in_front the_device code) (call_form (place_of parts) (forms the_device code)) Off behind
        leg.call (call_leaves (place_of parts) here) on))

    inside_goes_on : InsideOf (forms the_device code).write the_device.pec (in_front the_device code) behind
        ⊎ InsideOf (call_form (place_of parts) (forms the_device code)) Off (in_front the_device code) behind
        → (goes_on leg.write || goes_on leg.call) ≡ true
    inside_goes_on (inl within) =
        or_left (goes_on leg.write) (goes_on leg.call)
        (goes_on_of (in_front the_device code) (forms the_device code).write the_device.pec behind leg.write
        write_leaves within)
    inside_goes_on (inr within) =
        or_right (goes_on leg.write) (goes_on leg.call)
        (goes_on_of (in_front the_device code) (call_form (place_of parts) (forms the_device code)) Off behind leg.call
        (call_leaves (place_of parts) here) within)

    pub goes_on_is : IsTrue (goes_on leg.write || goes_on leg.call) ↔ IsInsideBody the_device parts (code ∷ behind)
    goes_on_is = (
      λ on. goes_on_inside (either (goes_on leg.write) (goes_on leg.call) on),
      λ within. inside_goes_on (inside_body the_device parts code behind within),
    )

    takes_begins : (byte : ℕ) → IsByte byte → (takes leg.write leg.crc byte ≡ true)
        ⊎ (takes leg.call leg.crc byte ≡ true) → BeginsBody the_device parts (code ∷ behind ++ byte ∷ [])
    takes_begins byte small (inl taken) =
        body_begins the_device parts code (behind ++ byte ∷ [])
        (inl (takes_begins_of (in_front the_device code) (forms the_device code).write the_device.pec behind leg.write
        write_leaves leg.crc byte so_far small taken))
    takes_begins byte small (inr taken) =
        body_begins the_device parts code (behind ++ byte ∷ [])
        (inr (takes_begins_of (in_front the_device code) (call_form (place_of parts) (forms the_device code)) Off behind
        leg.call (call_leaves (place_of parts) here) leg.crc byte so_far small taken))

    begins_takes : (byte : ℕ) → IsByte byte → BeginsOf (forms the_device code).write the_device.pec
        (in_front the_device code) (behind ++ byte ∷ [])
        ⊎ BeginsOf (call_form (place_of parts) (forms the_device code)) Off (in_front the_device code)
        (behind ++ byte ∷ [])
        → (takes leg.write leg.crc byte || takes leg.call leg.crc byte) ≡ true
    begins_takes byte small (inl begins) =
        or_left (takes leg.write leg.crc byte) (takes leg.call leg.crc byte)
        (begins_takes_of (in_front the_device code) (forms the_device code).write the_device.pec behind leg.write
        write_leaves leg.crc byte so_far small begins)
    begins_takes byte small (inr begins) =
        or_right (takes leg.write leg.crc byte) (takes leg.call leg.crc byte)
        (begins_takes_of (in_front the_device code) (call_form (place_of parts) (forms the_device code)) Off behind
        leg.call (call_leaves (place_of parts) here) leg.crc byte so_far small begins)

    pub takes_is : (byte : ℕ) → IsByte byte → IsTrue (takes leg.write leg.crc byte || takes leg.call leg.crc byte)
        ↔ BeginsBody the_device parts (code ∷ behind ++ byte ∷ [])
    takes_is byte small = (
      λ taken. takes_begins byte small (either (takes leg.write leg.crc byte) (takes leg.call leg.crc byte) taken),
      λ begins. begins_takes byte small (begins_body the_device parts code behind byte begins),
    )

  one_room : (byte : ℕ) → (takes leg.write leg.crc byte ≡ true) ⊎ (takes leg.call leg.crc byte ≡ true)
      → length behind < 257
  one_room byte (inl taken) = room_of (in_front the_device code) leg.shape.write the_device.pec behind leg.write
      is.write leg.crc byte taken
  one_room byte (inr taken) = room_of (in_front the_device code) (call_form leg.place leg.shape) Off behind leg.call
      is.call leg.crc byte taken

  pub has_room : (byte : ℕ) → (takes leg.write leg.crc byte || takes leg.call leg.crc byte) ≡ true → length behind < 257
  has_room byte taken = one_room byte (either (takes leg.write leg.crc byte) (takes leg.call leg.crc byte) taken)

  -- what is kept after one byte more
  pub next_behind : (byte next : ℕ) → IsByte byte
      → ((bytes : List ℕ) → pec bytes ≡ leg.crc → next ≡ pec (bytes ++ byte ∷ []))
      → IsBehindCode (record leg {
        write = after leg.write the_device.pec leg.crc byte;
        call =
            after leg.call Off leg.crc byte;
        crc = next;
      }) code (behind ++ byte ∷ [])
  next_behind byte next small goes_on = record {
    shape_is = is.shape_is;
    called_with_data = is.called_with_data;
    crc = sym (goes_on (in_front the_device code ++ behind) is.crc);
    write = moved_on_of (in_front the_device code) leg.shape.write the_device.pec behind leg.write is.write leg.crc byte
        so_far small;
    call = moved_on_of (in_front the_device code) (call_form leg.place leg.shape) Off behind leg.call is.call leg.crc
        byte so_far small;
  }

  one_on : (goes_on leg.write ≡ true) ⊎ (goes_on leg.call ≡ true) → length behind < 257
  one_on (inl on) = on_of (in_front the_device code) leg.shape.write the_device.pec behind leg.write is.write on
  one_on (inr on) = on_of (in_front the_device code) (call_form leg.place leg.shape) Off behind leg.call is.call on

  pub room_to_go_on : (goes_on leg.write || goes_on leg.call) ≡ true → length behind < 257
  room_to_go_on on = one_on (either (goes_on leg.write) (goes_on leg.call) on)

-- ---- by the bytes that were taken, of which there are some

module _ (leg : Kept) where
  pub tells_goes_on : (bytes : List ℕ) → IsKeptLeg leg bytes → (length bytes == 0) ≡ false → (parts : List PartData)
      → place_of parts ≡ leg.place
      → IsTrue (goes_on leg.write || goes_on leg.call) ↔ IsInsideBody leg.device parts bytes
  tells_goes_on [] kept some parts here = absurd (cc some)
  tells_goes_on (code ∷ behind) is some parts here = goes_on_is leg code behind is parts here

  pub tells_takes : (bytes : List ℕ) → IsKeptLeg leg bytes → (length bytes == 0) ≡ false → (parts : List PartData)
      → place_of parts ≡ leg.place
      → (byte : ℕ) → IsByte byte → IsTrue (takes leg.write leg.crc byte || takes leg.call leg.crc byte)
      ↔ BeginsBody leg.device parts (bytes ++ byte ∷ [])
  tells_takes [] kept some parts here byte small = absurd (cc some)
  tells_takes (code ∷ behind) is some parts here byte small = takes_is leg code behind is parts here byte small

  -- 258: the bytes of a body, at most
  pub tells_room : (bytes : List ℕ) → IsKeptLeg leg bytes → bytes ≢ [] → (byte : ℕ)
      → (takes leg.write leg.crc byte || takes leg.call leg.crc byte) ≡ true → length bytes < 258
  tells_room [] kept some byte taken = absurd (some refl)
  tells_room (code ∷ behind) is some byte taken = omega (arith, has_room leg code behind is byte taken)

  pub tells_room_to_go_on : (bytes : List ℕ) → IsKeptLeg leg bytes → (length bytes == 0) ≡ false
      → (goes_on leg.write || goes_on leg.call) ≡ true → length bytes < 258
  tells_room_to_go_on [] kept some on = absurd (cc some)
  tells_room_to_go_on (code ∷ behind) is some on = omega (arith, room_to_go_on leg code behind is on)

  pub next_kept : (bytes : List ℕ) → IsKeptLeg leg bytes → bytes ≢ [] → (byte next : ℕ) → IsByte byte
      → ((bs : List ℕ) → pec bs ≡ leg.crc → next ≡ pec (bs ++ byte ∷ []))
      → IsKeptLeg (record leg {
        write = after leg.write leg.device.pec leg.crc byte;
        call =
            after leg.call Off leg.crc byte;
        crc = next;
      }) (bytes ++ byte ∷ [])
  next_kept [] kept some byte next small goes_on = absurd (some refl)
  next_kept (code ∷ behind) is some byte next small goes_on = next_behind leg code behind is byte next small goes_on

-- after the code
pub first_kept : (device : DeviceParts) (place : LegPlace) (code crc : ℕ) → calls_fit (forms device code).call ≡ true
    → crc ≡ pec (in_front device code)
    → IsKeptLeg (record {
      device = device;
      place = place;
      shape = forms device code;
      write =
          start (forms device code).write device.pec;
      call = start (call_form place (forms device code)) Off;
      crc = crc;
    })
    (code ∷ [])
first_kept device place code crc called is = record {
  shape_is = refl;
  called_with_data = called;
  crc = sym is;
  write = started_of (in_front device code) (forms device code).write device.pec;
  call = started_of (in_front device code) (call_form place (forms device code)) Off;
}

pub not_empty : (bytes : List ℕ) → bytes ≢ [] → (length bytes == 0) ≡ false
not_empty [] some = absurd (some refl)
not_empty (b ∷ bytes) some = eqb-suc-zero (length bytes)

pub is_empty : (bytes : List ℕ) → (length bytes == 0) ≡ true → bytes ≡ []
is_empty [] none = refl
is_empty (b ∷ bytes) none = absurd (omega (arith, eqb-true (length (b ∷ bytes)) 0 none))

-- a code, after nothing
pub tells_code : (device : DeviceParts) (place : LegPlace) (bytes : List ℕ) → bytes ≡ [] → (parts : List PartData)
    → place_of parts ≡ place
    → (code : ℕ) → IsTrue (begins_with (forms device code) place) ↔ BeginsBody device parts (bytes ++ code ∷ [])
tells_code device place bytes none parts here code =
    let P : List ℕ → LegPlace → Type 0 = λ (bs : List ℕ) (p : LegPlace). IsTrue (begins_with (forms device code) p)
    ↔ BeginsBody device parts (bs ++ code ∷ []) in
    subst (λ (bs : List ℕ). P bs place) (sym none)
    (subst (P []) here (begins_code device parts code, code_begins device parts code))
