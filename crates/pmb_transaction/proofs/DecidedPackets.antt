-- Whether a transaction has a packet, and whether that begins with given events, is decided. For
-- the law `viability_is_decided`, by FinitePackets. The definition of each packet is some premises,
-- each of them decided, and events that these fix: so it is taken apart into its premises and put
-- together again (`either_way`).
use Rattle.std.proofs.Common.{◌≡◌, ℕ, ◌<◌, ◌≤◌, inl, inr, Bool, true, false, Some, List, [], ◌∷◌, ◌++◌, length, nat_eq}
use Rattle.std.proofs.Common.{refl, sym, ap, ◌∙◌, subst}
use Rattle.std.specs.List.{AllByRecursion, IsDistinct, list_any}
use Rattle.std.proofs.lemmas.List.{same_from_push}
use Rattle.pmb_bus.specs.declared.event.Event.{Event}
use Rattle.pmb_bus.specs.declared.event.Event.TheVariants.{Start, Byte, Ack, Nack, Stop}
use Rattle.pmb_bus.specs.Address.{write_address, read_address, alert_address}
use Rattle.pmb_command.specs.declared.form.Form.{Form}
use Rattle.pmb_command.specs.Parts.{DeviceParts, IsNew, device_with}
use Rattle.pmb_command.specs.PecMode.{AllowsPec}
use Rattle.pmb_command.specs.Wire.{AreByteValues, Fits, wire}
use Rattle.pmb_transaction.specs.Transaction.{PartData, ReadData, CallData, RefusedData, TransactionData, Write, Read}
use Rattle.pmb_transaction.specs.Transaction.{Call, Refused, Alert, NoAlert}
use Rattle.pmb_transaction.specs.Body.{forms, checked, IsRequest}
use Rattle.pmb_transaction.specs.Packet.{Packet, PartEvents, PartsEvents, WritePacket, ReadPacket, CallPacket}
use Rattle.pmb_transaction.specs.Packet.{RefusedPacket, AlertPacket, AddressRefused, ByteRefused, ReadRefused}
use Rattle.pmb_transaction.specs.Packet.{RefusedLeg, addresses, answered, leg, nacked}
use Rattle.pmb_transaction.proofs.Decided.{Decided, at_most, begins_with, below, both, either_way, of_each, of_some}
use Rattle.pmb_transaction.proofs.Decided.{same_bool, same_number}
use Rattle.pmb_transaction.proofs.OnePacket.{one_packet}
use Rattle.pmb_transaction.proofs.DecidedBodies.{Goes, allows, are_bytes, asks, fits, goes}

-- ---- addresses

are_distinct : (xs : List ℕ) → Decided (IsDistinct nat_eq xs)
unfolding IsDistinct
are_distinct [] = inl tt
are_distinct (x ∷ xs) =
    both (AllByRecursion (λ y. nat_eq x y ≡ false) xs) (IsDistinct nat_eq xs)
    (of_each ℕ (λ y. nat_eq x y ≡ false) (λ y. same_bool (nat_eq x y) false) xs)
    (are_distinct xs)

-- the last byte, and those before it
last_of : (b : ℕ) (bytes : List ℕ) → (front : List ℕ) × (last : ℕ) × (b ∷ bytes ≡ front ++ last ∷ [])
last_of b [] = ([], b, refl)
last_of b (c ∷ bytes) = let w = last_of c bytes in (b ∷ w.0, w.1, ap (λ bs. b ∷ bs) w.2)

-- ---- events

pub same_event : (a b : Event) → Decided (a ≡ b)
same_event (Byte a) (Byte b) = either_way (a ≡ b) (Byte a ≡ Byte b) (λ same. ap Byte same) (λ same. cc same)
    (same_number a b)
same_event Start Start = inl refl
same_event Ack Ack = inl refl
same_event Nack Nack = inl refl
same_event Stop Stop = inl refl
same_event a b = inr (λ same. cc same)

module _ (profile : List DeviceParts) where
  -- ---- parts

  abbrev Writes : PartData → DeviceParts → Type 0
  Writes part device =
      (form : Form) × ((forms device part.code).write ≡ Some form)
      × (Fits form part.bytes × AllowsPec device.pec part.pec)

  part_events : (part : PartData) → Decided ((events : List Event) × PartEvents profile part events)
  part_events part =
      either_way ((device : DeviceParts) × (device_with part.addr profile ≡ Some device) × Writes part device)
      ((events : List Event) × PartEvents profile part events) (λ w. spelled w.0 w.1 w.2) (λ w. parts_of w.0 w.1)
      (
      of_some DeviceParts (device_with part.addr profile) (Writes part)
      (λ device.
      of_some Form (forms device part.code).write (λ form. Fits form part.bytes × AllowsPec device.pec part.pec)
      (λ form. both (Fits form part.bytes) (AllowsPec device.pec part.pec) (fits form part.bytes)
      (allows device.pec part.pec)))
      )
    where
      spelled : (device : DeviceParts) → device_with part.addr profile ≡ Some device → Writes part device
          → (events : List Event) × PartEvents profile part events
      spelled device known w =
          let body = checked part.pec (write_address device.address ∷ []) (part.code ∷ wire w.0 part.bytes) in (
            leg (write_address part.addr ∷ body),
            record {
              device = device;
              body = body;
              known = known;
              allowed = record { form = w.0; written = w.1; fits = w.2.0; mode = w.2.1; spelled = refl };
              spelled = refl;
            },
          )

      parts_of : (events : List Event) → PartEvents profile part events
          → (device : DeviceParts) × (device_with part.addr profile ≡ Some device) × Writes part device
      parts_of events w = (w.device, w.known, (w.allowed.form, w.allowed.written, (w.allowed.fits, w.allowed.mode)))

  parts_events : (parts : List PartData) → Decided ((events : List Event) × PartsEvents profile parts events)
  parts_events [] = inl ([], refl)
  parts_events (part ∷ parts) =
      either_way (((events : List Event) × PartEvents profile part events)
      × ((events : List Event) × PartsEvents profile parts events))
      ((events : List Event) × PartsEvents profile (part ∷ parts) events)
      (λ w. (w.0.0 ++ w.1.0, (w.0.0, w.1.0, refl, w.0.1, w.1.1))) (λ w. ((w.1.0, w.1.3), (w.1.1, w.1.4)))
      (
      both ((events : List Event) × PartEvents profile part events)
      ((events : List Event) × PartsEvents profile parts events) (part_events part)
      (parts_events parts)
      )

  -- ---- each sort of transaction

  write_packet : (parts : List PartData) → Decided ((events : List Event) × WritePacket profile parts events)
  write_packet parts =
      let Legs : Type 0 = (events : List Event) × PartsEvents profile parts events in
      let Distinct : Type 0 = IsDistinct nat_eq (addresses parts) in
      -- its premises,
      either_way ((1 ≤ length parts) × ((length parts ≤ 16) × (Distinct × Legs)))
      ((events : List Event) × WritePacket profile parts events)
      -- from them the packet,
      (λ w. (
        w.1.1.1.0 ++ Stop ∷ [],
        record {
          some = w.0;
          few = w.1.0;
          distinct = w.1.1.0;
          legs = w.1.1.1.0;
          each =
              w.1.1.1.1;
          spelled = refl;
        },
      ))
      -- from the packet them again,
      (λ w. (w.1.some, (w.1.few, (w.1.distinct, (w.1.legs, w.1.each)))))
      (
      -- and each one is decided
      both (1 ≤ length parts) ((length parts ≤ 16) × (Distinct × Legs)) (at_most 1 (length parts))
      (
      both (length parts ≤ 16) (Distinct × Legs) (at_most (length parts) 16)
      (both Distinct Legs (are_distinct (addresses parts)) (parts_events parts))
      )
      )

  read_packet : (t : ReadData) → Decided ((events : List Event) × ReadPacket profile t events)
  read_packet t =
      either_way
      -- a device, a form in which the code is read, a reply in it, and the mode,
      ((device : DeviceParts) × (device_with t.addr profile ≡ Some device)
      × ((form : Form) × ((forms device t.code).read ≡ Some form) × (Fits form t.reply × AllowsPec device.pec t.pec)))
      ((events : List Event) × ReadPacket profile t events)
      -- from them the packet,
      (λ w. (
        answered t.addr (t.code ∷ []) (wire w.2.0 t.reply) t.pec,
        record {
          device = w.0;
          form = w.2.0;
          known = w.1;
          read = w.2.1;
          fits = w.2.2.0;
          mode = w.2.2.1;
          spelled =
              refl;
        },
      ))
      -- from the packet them again,
      (λ w. (w.1.device, w.1.known, (w.1.form, w.1.read, (w.1.fits, w.1.mode))))
      (
      -- and each one is decided
      of_some DeviceParts (device_with t.addr profile)
      (λ device. (form : Form) × ((forms device t.code).read ≡ Some form)
      × (Fits form t.reply × AllowsPec device.pec t.pec))
      (λ device.
      of_some Form (forms device t.code).read (λ form. Fits form t.reply × AllowsPec device.pec t.pec)
      (λ form. both (Fits form t.reply) (AllowsPec device.pec t.pec) (fits form t.reply) (allows device.pec t.pec)))
      )

  call_packet : (t : CallData) → Decided ((events : List Event) × CallPacket profile t events)
  call_packet t =
      either_way
      -- a device, a form in which the code is called, data and a reply in it, and the mode,
      ((device : DeviceParts) × (device_with t.addr profile ≡ Some device)
      × ((form : Form) × ((forms device t.code).call ≡ Some form)
      × (Fits form t.bytes × (Fits form t.reply × AllowsPec device.pec t.pec))))
      ((events : List Event) × CallPacket profile t events)
      -- from them the packet,
      (λ w. (
        answered t.addr (t.code ∷ wire w.2.0 t.bytes) (wire w.2.0 t.reply) t.pec,
        record {
          device = w.0;
          form = w.2.0;
          known = w.1;
          called = w.2.1;
          sent = w.2.2.0;
          replied = w.2.2.1.0;
          mode =
              w.2.2.1.1;
          spelled = refl;
        },
      ))
      -- from the packet them again,
      (λ w. (w.1.device, w.1.known, (w.1.form, w.1.called, (w.1.sent, (w.1.replied, w.1.mode)))))
      (
      -- and each one is decided
      of_some DeviceParts (device_with t.addr profile)
      (λ device.
      (form : Form) × ((forms device t.code).call ≡ Some form)
      × (Fits form t.bytes × (Fits form t.reply × AllowsPec device.pec t.pec)))
      (λ device.
      of_some Form (forms device t.code).call (λ form. Fits form t.bytes
      × (Fits form t.reply × AllowsPec device.pec t.pec))
      (λ form.
      both (Fits form t.bytes) (Fits form t.reply × AllowsPec device.pec t.pec) (fits form t.bytes)
      (both (Fits form t.reply) (AllowsPec device.pec t.pec) (fits form t.reply) (allows device.pec t.pec))))
      )

  -- ---- refused packets

  byte_refused : (parts : List PartData) (addr : ℕ) (sent front : List ℕ) (last : ℕ) → sent ≡ front ++ last ∷ []
      → Decided ((events : List Event) × ByteRefused profile parts addr sent events)
  byte_refused parts addr sent front last split =
      -- a device, bytes, and a body that goes on after all but the last of them
      either_way ((device : DeviceParts) × (device_with addr profile ≡ Some device)
      × (AreByteValues sent × Goes device parts front))
      ((events : List Event) × ByteRefused profile parts addr sent events) (λ w. spelled w.0 w.1 w.2)
      (λ w. parts_of w.0 w.1)
      (
      of_some DeviceParts (device_with addr profile) (λ device. AreByteValues sent × Goes device parts front)
      (λ device. both (AreByteValues sent) (Goes device parts front) (are_bytes sent) (goes device parts front))
      )
    where
      -- from these the refused leg
      spelled : (device : DeviceParts) → device_with addr profile ≡ Some device
          → AreByteValues sent × Goes device parts front
          → (events : List Event) × ByteRefused profile parts addr sent events
      spelled device known w = (
        leg (write_address addr ∷ []) ++ nacked sent,
        record {
          device = device;
          known = known;
          bytes = w.0;
          front = front;
          last = last;
          split = split;
          begins = w.1;
          spelled = refl;
        },
      )

      parts_of : (events : List Event) → ByteRefused profile parts addr sent events
          → (device : DeviceParts) × (device_with addr profile ≡ Some device)
          × (AreByteValues sent × Goes device parts front)
      parts_of events w =
          let same = same_from_push w.front front w.last last (sym w.split ∙ split) in
          (w.device, w.known, (w.bytes, subst (Goes w.device parts) same.0 w.begins))

  no_parts : (parts : List PartData) → Decided (parts ≡ [])
  no_parts [] = inl refl
  no_parts (part ∷ parts) = inr (λ none. cc none)

  read_refused : (parts : List PartData) (addr : ℕ) (sent : List ℕ)
      → Decided ((events : List Event) × ReadRefused profile parts addr sent events)
  read_refused parts addr sent =
      either_way ((parts ≡ []) × ((device : DeviceParts) × (device_with addr profile ≡ Some device)
      × IsRequest device sent))
      ((events : List Event) × ReadRefused profile parts addr sent events)
      (λ w. (
        leg (write_address addr ∷ sent) ++ Start ∷ Byte (read_address addr) ∷ Nack ∷ [],
        record { alone = w.0; device = w.1.0; known = w.1.1; body = w.1.2; spelled = refl },
      ))
      (λ w. (w.1.alone, (w.1.device, w.1.known, w.1.body)))
      (
      both (parts ≡ []) ((device : DeviceParts) × (device_with addr profile ≡ Some device) × IsRequest device sent)
      (no_parts parts)
      (of_some DeviceParts (device_with addr profile) (λ device. IsRequest device sent) (λ device. asks device sent))
      )

  refused_leg : (parts : List PartData) (addr : ℕ) (sent : List ℕ) (at_read : Bool)
      → Decided ((events : List Event) × RefusedLeg profile parts addr sent at_read events)
  refused_leg parts addr [] false =
      either_way (addr < 128) ((events : List Event) × AddressRefused profile addr events)
      (λ seven. (Start ∷ Byte (write_address addr) ∷ Nack ∷ [], record { seven = seven; spelled = refl }))
      (λ w. w.1.seven) (below addr 128)
  refused_leg parts addr (b ∷ sent) false =
      let split = last_of b sent in
      byte_refused parts addr (b ∷ sent) split.0 split.1 split.2
  refused_leg parts addr [] true = read_refused parts addr []
  refused_leg parts addr (b ∷ sent) true = read_refused parts addr (b ∷ sent)

  refused_packet : (t : RefusedData) → Decided ((events : List Event) × RefusedPacket profile t events)
  refused_packet t =
      let Legs : Type 0 = (events : List Event) × PartsEvents profile t.parts events in
      let Last : Type 0 = (events : List Event) × RefusedLeg profile t.parts t.addr t.sent t.at_read events in
      let Distinct : Type 0 = IsDistinct nat_eq (addresses t.parts) in
      let New : Type 0 = IsNew t.addr (addresses t.parts) in
      -- its premises, with the parts' events and the refused leg's,
      either_way ((length t.parts ≤ 15) × (Distinct × (New × (Legs × Last))))
      ((events : List Event) × RefusedPacket profile t events)
      -- from them the packet,
      (λ w. (
        w.1.1.1.0.0 ++ w.1.1.1.1.0 ++ Stop ∷ [],
        record {
          few = w.0;
          distinct = w.1.0;
          another = w.1.1.0;
          legs = w.1.1.1.0.0;
          each = w.1.1.1.0.1;
          last = w.1.1.1.1.0;
          refused = w.1.1.1.1.1;
          spelled = refl;
        },
      ))
      -- from the packet them again,
      (λ w. (w.1.few, (w.1.distinct, (w.1.another, ((w.1.legs, w.1.each), (w.1.last, w.1.refused))))))
      (
      -- and each one is decided
      both (length t.parts ≤ 15) (Distinct × (New × (Legs × Last))) (at_most (length t.parts) 15)
      (
      both Distinct (New × (Legs × Last)) (are_distinct (addresses t.parts))
      (
      both New (Legs × Last) (same_bool (list_any (nat_eq t.addr) (addresses t.parts)) false)
      (both Legs Last (parts_events t.parts) (refused_leg t.parts t.addr t.sent t.at_read))
      )
      )
      )

  -- whether a transaction has a packet
  has_packet : (t : TransactionData) → Decided ((events : List Event) × Packet profile t events)
  has_packet (Write parts) = write_packet parts
  has_packet (Read t) = read_packet t
  has_packet (Call t) = call_packet t
  has_packet (Refused t) = refused_packet t
  has_packet (Alert t) =
      either_way (t.byte < 256) ((events : List Event) × AlertPacket t events)
      (λ small. (
        leg (read_address alert_address ∷ []) ++ nacked (checked t.pec (read_address alert_address ∷ []) (t.byte ∷ []))
            ++ Stop ∷ [],
        record { byte = small; spelled = refl },
      ))
      (λ w. w.1.byte) (below t.byte 256)
  has_packet NoAlert = inl (Start ∷ Byte (read_address alert_address) ∷ Nack ∷ Stop ∷ [], refl)

  -- ---- what begins a packet

  begins_at : (t : TransactionData) (events : List Event) → Decided ((packet : List Event) × Packet profile t packet)
      → Decided ((more : List Event) × Packet profile t (events ++ more))
  begins_at t events (inl w) =
      either_way ((more : List Event) × (w.0 ≡ events ++ more))
      ((more : List Event) × Packet profile t (events ++ more))
      (λ v. (v.0, subst (Packet profile t) v.1 w.1)) (λ v. (v.0, one_packet profile t w.0 (events ++ v.0) w.1 v.1))
      (begins_with Event same_event events w.0)
  begins_at t events (inr none) = inr (λ v. none (events ++ v.0, v.1))

  -- whether a transaction's packet begins with some events
  pub begins_packet : (events : List Event) (t : TransactionData)
      → Decided ((more : List Event) × Packet profile t (events ++ more))
  begins_packet events t = begins_at t events (has_packet t)
