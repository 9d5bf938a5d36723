-- What STOP does to a simulated device by its own legs of the packet. Its registers and its page change
-- at STOP alone: this project's own rule, for which PMBus Part I 1.3 section 5.2.3 asks in groups. What
-- it takes after that, of what was written at other addresses, is of the bus (`Stops` of `pmb_devices`).
use Rattle.std.specs.Prelude.{◌≡◌, ℕ, Bool, true, false, Option, Some, None, List, [], ◌∷◌, ◌++◌}
use Rattle.pmb_command.specs.Parts.{DeviceParts}
use Rattle.pmb_bus.specs.Address.{write_address, read_address}
use Rattle.pmb_transaction.specs.Transaction.{PartData}
use Rattle.pmb_transaction.specs.Body.{WriteBody, IsWriteBody, IsRequest}
use Rattle.pmb_transaction.specs.Reason.{Whether}
use Rattle.pmb_registers.specs.State.{DeviceState}
use Rattle.pmb_registers.specs.Answer.{answer}
use Rattle.pmb_registers.specs.Apply.{after_write, bit_of_answer, bit_of_sent, with_noted}
use Rattle.pmb_leg.specs.declared.place.LegPlace.{LegPlace}
use Rattle.pmb_device.specs.Legs.{Leg, Legs, Outside, Inside, sent, some_is_to, leg_place}
use Rattle.pmb_device.specs.Rules.{GoesOn, TakesByte, TakesAll}

module _ (device : DeviceParts) where
  -- The leg of a packet that is written to the device: the first that begins with its address for
  -- writing. After the address these bytes were sent.
  pub record OwnLeg (legs : List Leg) (bytes : List ℕ) : Type 0 where
    pub earlier : List Leg
    pub own : Leg
    pub behind : List Leg
    pub split : legs ≡ earlier ++ own ∷ behind
    pub first : some_is_to (write_address device.address) earlier ≡ false
    pub bytes_are : sent own ≡ write_address device.address ∷ bytes

  -- A body in a leg all of whose bytes were taken, where the device is not read after it: a write
  -- takes effect, and nothing else does.
  pub data Acts (bytes : List ℕ) (before after : DeviceState) : Type 0 where
    writes : (code : ℕ) (content : List ℕ) (with_pec : Bool) → WriteBody device code content with_pec bytes
        → after ≡ after_write device code content before → Acts bytes before after
    no_write : (IsWriteBody device bytes → ⊥) → after ≡ before → Acts bytes before after

  -- Where it is read directly after the packet's first leg, in which it was asked, and refuses,
  -- that is noted in STATUS_CML.
  pub data NotesAnswer (earlier : List Leg) (bytes : List ℕ) (behind : List Leg) (before after : DeviceState) : Type
      0 where
    asked : earlier ≡ [] → IsRequest device bytes → (next : Leg) (more : List Leg) → behind ≡ next ∷ more
        → some_is_to (read_address device.address) (next ∷ []) ≡ true
        → after ≡ with_noted device (bit_of_answer (answer device before bytes)) before
        → NotesAnswer earlier bytes behind before after
    not_asked : (earlier ≡ [] → IsRequest device bytes → (next : Leg) (more : List Leg) → behind ≡ next ∷ more
        → some_is_to (read_address device.address) (next ∷ []) ≡ true → ⊥) → after ≡ before
        → NotesAnswer earlier bytes behind before after

  -- A byte was refused, after some that were taken: that is noted where some byte had a place
  -- there.
  pub record Refuses (place : LegPlace) (bytes : List ℕ) (before after : DeviceState) : Type 0 where
    pub front : List ℕ
    pub byte : ℕ
    pub rest : List ℕ
    pub split : bytes ≡ front ++ byte ∷ rest
    pub taken : TakesAll device place [] front
    pub refused : TakesByte device place front byte → ⊥
    pub noted : Whether (GoesOn device place front)
        (after ≡ with_noted device (bit_of_sent (front ++ byte ∷ [])) before) (after ≡ before)

  abbrev pub ReadOrActs : Bool → List Leg → List ℕ → List Leg → DeviceState → DeviceState → Type 0
  ReadOrActs true earlier bytes behind before after = NotesAnswer earlier bytes behind before after
  ReadOrActs false earlier bytes behind before after = Acts bytes before after

  abbrev pub OwnLegEnds : List Leg → List ℕ → List Leg → DeviceState → DeviceState → Type 0
  OwnLegEnds earlier bytes behind before after =
      Whether (TakesAll device (leg_place earlier) [] bytes)
      (ReadOrActs (some_is_to (read_address device.address) behind) earlier bytes behind before after)
      (Refuses (leg_place earlier) bytes before after)

  -- What STOP makes of the device's state after the legs of a packet: its own leg acts, or it notes
  -- what it refused; without an own leg nothing changes.
  pub data LegsEnd (legs : List Leg) (before after : DeviceState) : Type 0 where
    own_leg : (bytes : List ℕ) → (own : OwnLeg legs bytes) → OwnLegEnds own.earlier bytes own.behind before after
        → LegsEnd legs before after
    no_leg : some_is_to (write_address device.address) legs ≡ false → after ≡ before → LegsEnd legs before after

  abbrev pub Ends : Legs → DeviceState → DeviceState → Type 0
  Ends Outside before after = after ≡ before
  Ends (Inside earlier leg) before after = LegsEnd (earlier ++ leg ∷ []) before after

  -- ---- the write that it took

  -- A complete write that the device took: the bytes of its own leg are the write's body, it took all of
  -- them, and its address for reading does not follow in the packet.
  pub record TookWrite (legs : List Leg) (part : PartData) : Type 0 where
    pub to_device : part.addr ≡ device.address
    pub bytes : List ℕ
    pub own : OwnLeg legs bytes
    pub taken : TakesAll device (leg_place own.earlier) [] bytes
    pub unread : some_is_to (read_address device.address) own.behind ≡ false
    pub body : WriteBody device part.code part.bytes part.pec bytes

  abbrev pub TookPart : Legs → PartData → Type 0
  TookPart Outside part = ⊥
  TookPart (Inside earlier leg) part = TookWrite (earlier ++ leg ∷ []) part

  -- What the device took in the legs of a packet: this complete write, or none.
  abbrev pub Took : Legs → Option PartData → Type 0
  Took legs None = (part : PartData) → TookPart legs part → ⊥
  Took legs (Some part) = TookPart legs part
