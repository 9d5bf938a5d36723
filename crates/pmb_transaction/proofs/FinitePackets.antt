-- Transactions that have packets are within bounds (`InBounds`), so they are finitely many, and
-- whether some packet begins with events is decided. For the laws `viability_is_decided` and
-- `each_list_has_a_reading`. Addresses are below 128, bytes below 256, data at most 255 bytes,
-- parts at most 16; all transactions within these are tried.
use Rattle.std.proofs.Common.{◌≡◌, ℕ, ◌+◌, ◌<◌, ◌≤◌, ◌⊎◌, inl, inr, Bool, true, false, List, [], ◌∷◌, ◌++◌, length}
use Rattle.std.proofs.Common.{refl, ap, arith}
use Rattle.std.specs.List.{AllByRecursion}
use Rattle.std.proofs.lemmas.List.{length-append}
use Rattle.pmb_bus.specs.Event as of_events
use Rattle.pmb_bus.specs.Pec.{pec}
use Rattle.pmb_bus.specs.declared.event.Event.{Event}
use Rattle.pmb_bus.specs.declared.event.Event.TheVariants.{Start, Byte, Ack, Nack, Stop}
use Rattle.pmb_command.specs.declared.form.Form.{Form}
use Rattle.pmb_command.specs.declared.form.Shape.{Shape}
use Rattle.pmb_command.specs.Bus.{IsBus}
use Rattle.pmb_command.specs.Parts.{DeviceParts}
use Rattle.pmb_command.specs.Wire.{Fits}
use Rattle.pmb_transaction.specs.Transaction.{PartData, ReadData, CallData, RefusedData, AlertData, TransactionData}
use Rattle.pmb_transaction.specs.Transaction.{Write, Read, Call, Refused, Alert, NoAlert}
use Rattle.pmb_transaction.specs.Packet.{Packet, PartEvents, PartsEvents, ReadRefused, RefusedLeg}
use Rattle.pmb_transaction.specs.Capture.{MayFollow, Viable}
use Rattle.pmb_transaction.specs.Reason.{FollowsAlone}
use Rattle.pmb_transaction.proofs.Bytes.{packets_are_bytes, seven_bits, small_sent}
use Rattle.pmb_transaction.proofs.Decided.{Decided, both, either_way, not_so, one_of, settled}
use Rattle.pmb_transaction.proofs.DecidedBodies.{few_that_fit}
use Rattle.pmb_transaction.proofs.DecidedPackets.{begins_packet, same_event}
use Rattle.pmb_transaction.proofs.Finite.{Few, Finite, bools, bytes, data_bytes, image, lists, numbers, pairs, some_of}
use Rattle.pmb_transaction.proofs.Fronts.{no_end}
use Rattle.pmb_transaction.proofs.Known.{code_is_byte, device_is}
use Rattle.pmb_transaction.proofs.Lengths.{body_is_short, front_is_short}

-- ---- transactions within bounds

abbrev Data : List ℕ → Type 0
Data bytes = Few (λ b. b < 256) 255 bytes

-- an address, a code, bytes, and whether a packet error code follows
abbrev Fields : Type 0
Fields = ℕ × (ℕ × (List ℕ × Bool))

abbrev InFields : Fields → Type 0
InFields f = (f.0 < 128) × ((f.1.0 < 256) × (Data f.1.1.0 × Unit {0}))

fields : Finite Fields InFields
fields =
    pairs ℕ (ℕ × (List ℕ × Bool)) (λ addr. addr < 128) (λ f. (f.0 < 256) × (Data f.1.0 × Unit {0})) (numbers 128)
    (
    pairs ℕ (List ℕ × Bool) (λ code. code < 256) (λ f. Data f.0 × Unit {0}) bytes
    (pairs (List ℕ) Bool Data (λ b. Unit {0}) (data_bytes 255) bools)
    )

abbrev InPart : PartData → Type 0
InPart part = InFields (part.addr, (part.code, (part.bytes, part.pec)))

parts : Finite PartData InPart
parts =
    image Fields PartData InFields InPart
    (λ f. record { addr = f.0; code = f.1.0; bytes = f.1.1.0; pec = f.1.1.1 })
    (λ f in_there. in_there)
    (λ part in_there. ((part.addr, (part.code, (part.bytes, part.pec))), in_there, refl))
    fields

abbrev InRead : ReadData → Type 0
InRead t = InFields (t.addr, (t.code, (t.reply, t.pec)))

reads : Finite ReadData InRead
reads =
    image Fields ReadData InFields InRead
    (λ f. record { addr = f.0; code = f.1.0; reply = f.1.1.0; pec = f.1.1.1 })
    (λ f in_there. in_there)
    (λ t in_there. ((t.addr, (t.code, (t.reply, t.pec))), in_there, refl))
    fields

abbrev InCall : CallData → Type 0
InCall t = InFields (t.addr, (t.code, (t.bytes, t.pec))) × Data t.reply

calls : Finite CallData InCall
calls =
    image (Fields × List ℕ) CallData (λ f. InFields f.0 × Data f.1) InCall
    (λ f. record { addr = f.0.0; code = f.0.1.0; bytes = f.0.1.1.0; reply = f.1; pec = f.0.1.1.1 })
    (λ f in_there. in_there)
    (λ t in_there. (((t.addr, (t.code, (t.bytes, t.pec))), t.reply), in_there, refl))
    (pairs Fields (List ℕ) InFields Data fields (data_bytes 255))

-- parts in front, an address, bytes that were sent, and whether reading was refused
abbrev RefusedFields : Type 0
RefusedFields = List PartData × (ℕ × (List ℕ × Bool))

abbrev InRefusedFields : RefusedFields → Type 0
-- 259 is more than any body has, which is 258 bytes at most
InRefusedFields f = Few InPart 15 f.0 × ((f.1.0 < 128) × (Few (λ b. b < 256) 259 f.1.1.0 × Unit {0}))

abbrev InRefused : RefusedData → Type 0
InRefused t = InRefusedFields (t.parts, (t.addr, (t.sent, t.at_read)))

refusals : Finite RefusedData InRefused
refusals =
    image RefusedFields RefusedData InRefusedFields InRefused
    (λ f. record { parts = f.0; addr = f.1.0; sent = f.1.1.0; at_read = f.1.1.1 })
    (λ f in_there. in_there)
    (λ t in_there. ((t.parts, (t.addr, (t.sent, t.at_read))), in_there, refl))
    (
    pairs (List PartData) (ℕ × (List ℕ × Bool)) (Few InPart 15)
    (λ f. (f.0 < 128) × (Few (λ b. b < 256) 259 f.1.0 × Unit {0}))
    (lists PartData InPart parts 15)
    (
    pairs ℕ (List ℕ × Bool) (λ addr. addr < 128) (λ f. Few (λ b. b < 256) 259 f.0 × Unit {0}) (numbers 128)
    (pairs (List ℕ) Bool (Few (λ b. b < 256) 259) (λ b. Unit {0}) (data_bytes 259) bools)
    )
    )

abbrev InAlert : AlertData → Type 0
InAlert t = (t.byte < 256) × Unit {0}

alerts : Finite AlertData InAlert
alerts =
    image (ℕ × Bool) AlertData (λ f. (f.0 < 256) × Unit {0}) InAlert (λ f. record { byte = f.0; pec = f.1 })
    (λ f in_there. in_there)
    (λ t in_there. ((t.byte, t.pec), in_there, refl))
    (pairs ℕ Bool (λ b. b < 256) (λ b. Unit {0}) bytes bools)

abbrev InBounds : TransactionData → Type 0
InBounds (Write group) = Few InPart 16 group
InBounds (Read t) = InRead t
InBounds (Call t) = InCall t
InBounds (Refused t) = InRefused t
InBounds (Alert t) = InAlert t
InBounds NoAlert = Unit {0}

-- a transaction with a property, by its sort
abbrev SomeWrite : (TransactionData → Type 0) → Type 0
SomeWrite P = (group : List PartData) × Few InPart 16 group × P (Write group)

abbrev SomeRead : (TransactionData → Type 0) → Type 0
SomeRead P = (t : ReadData) × InRead t × P (Read t)

abbrev SomeCall : (TransactionData → Type 0) → Type 0
SomeCall P = (t : CallData) × InCall t × P (Call t)

abbrev SomeRefused : (TransactionData → Type 0) → Type 0
SomeRefused P = (t : RefusedData) × InRefused t × P (Refused t)

abbrev SomeAlert : (TransactionData → Type 0) → Type 0
SomeAlert P = (t : AlertData) × InAlert t × P (Alert t)

abbrev Sorts : (TransactionData → Type 0) → Type 0
Sorts P = SomeWrite P ⊎ (SomeRead P ⊎ (SomeCall P ⊎ (SomeRefused P ⊎ (SomeAlert P ⊎ P NoAlert))))

of_sort : (P : TransactionData → Type 0) → Sorts P → (t : TransactionData) × InBounds t × P t
of_sort P (inl w) = (Write w.0, w.1, w.2)
of_sort P (inr (inl w)) = (Read w.0, w.1, w.2)
of_sort P (inr (inr (inl w))) = (Call w.0, w.1, w.2)
of_sort P (inr (inr (inr (inl w)))) = (Refused w.0, w.1, w.2)
of_sort P (inr (inr (inr (inr (inl w))))) = (Alert w.0, w.1, w.2)
of_sort P (inr (inr (inr (inr (inr p))))) = (NoAlert, tt, p)

sort_of : (P : TransactionData → Type 0) (t : TransactionData) → InBounds t → P t → Sorts P
sort_of P (Write group) in_there p = inl (group, in_there, p)
sort_of P (Read t) in_there p = inr (inl (t, in_there, p))
sort_of P (Call t) in_there p = inr (inr (inl (t, in_there, p)))
sort_of P (Refused t) in_there p = inr (inr (inr (inl (t, in_there, p))))
sort_of P (Alert t) in_there p = inr (inr (inr (inr (inl (t, in_there, p)))))
sort_of P NoAlert in_there p = inr (inr (inr (inr (inr p))))

transactions : Finite TransactionData InBounds
transactions P each =
    either_way (Sorts P) ((t : TransactionData) × InBounds t × P t) (of_sort P) (λ w. sort_of P w.0 w.1 w.2)
    (
    one_of (SomeWrite P) (SomeRead P ⊎ (SomeCall P ⊎ (SomeRefused P ⊎ (SomeAlert P ⊎ P NoAlert))))
    (lists PartData InPart parts 16 (λ group. P (Write group)) (λ group. each (Write group)))
    (
    one_of (SomeRead P) (SomeCall P ⊎ (SomeRefused P ⊎ (SomeAlert P ⊎ P NoAlert)))
    (reads (λ t. P (Read t)) (λ t. each (Read t)))
    (
    one_of (SomeCall P) (SomeRefused P ⊎ (SomeAlert P ⊎ P NoAlert)) (calls (λ t. P (Call t)) (λ t. each (Call t)))
    (
    one_of (SomeRefused P) (SomeAlert P ⊎ P NoAlert) (refusals (λ t. P (Refused t)) (λ t. each (Refused t)))
    (one_of (SomeAlert P) (P NoAlert) (alerts (λ t. P (Alert t)) (λ t. each (Alert t))) (each NoAlert))
    )
    )
    )
    )

module _ (pec_is_byte : (bytes : List ℕ) → pec bytes < 256) (profile : List DeviceParts) (bus : IsBus profile) where
  -- ---- what has a packet is within bounds

  data_in : (form : Form) (bytes : List ℕ) → Fits form bytes → Data bytes
  data_in form bytes fits = few_that_fit form bytes fits

  part_in : (part : PartData) (events : List Event) → PartEvents profile part events → InPart part
  part_in part events w =
      let is = device_is profile part.addr w.device bus w.known in
      let allowed = w.allowed in (
        seven_bits pec_is_byte profile bus part.addr w.device w.known,
        (
          code_is_byte (λ (s : Shape). s.write) w.device part.code allowed.form refl is.0 allowed.written,
          (data_in allowed.form part.bytes allowed.fits, tt),
        ),
      )

  parts_in : (group : List PartData) (events : List Event) → PartsEvents profile group events
      → AllByRecursion InPart group
  parts_in [] events each = tt
  parts_in (part ∷ group) events each = (part_in part each.0 each.3, parts_in group each.1 each.4)

  -- an address, and what was sent to it
  abbrev InLeg : ℕ → List ℕ → Type 0
  InLeg addr sent = (addr < 128) × Few (λ b. b < 256) 259 sent

  read_refused_in : (group : List PartData) (addr : ℕ) (sent : List ℕ) (events : List Event)
      → ReadRefused profile group addr sent events
      → InLeg addr sent
  read_refused_in group addr sent events w = (
    seven_bits pec_is_byte profile bus addr w.device w.known,
    (
      omega (arith, body_is_short w.device [] sent (inr w.body)),
      small_sent pec_is_byte profile bus addr w.device sent w.known w.body,
    ),
  )

  refused_in : (group : List PartData) (addr : ℕ) (sent : List ℕ) (at_read : Bool) (events : List Event)
      → RefusedLeg profile group addr sent at_read events → InLeg addr sent
  refused_in group addr [] false events w = (w.seven, (omega arith, tt))
  refused_in group addr (b ∷ sent) false events w =
      let all : length (b ∷ sent) ≡ length (w.front ++ w.last ∷ []) = ap length w.split in
      let few : length w.front ≤ 257 = front_is_short w.device group w.front w.begins in
      let short : length (b ∷ sent) ≤ 259 = omega (arith, all, few, length-append w.front (w.last ∷ [])) in
      (seven_bits pec_is_byte profile bus addr w.device w.known, (short, w.bytes))
  refused_in group addr [] true events w = read_refused_in group addr [] events w
  refused_in group addr (b ∷ sent) true events w = read_refused_in group addr (b ∷ sent) events w

  in_bounds : (t : TransactionData) (events : List Event) → Packet profile t events → InBounds t
  in_bounds (Write group) events w = (w.few, parts_in group w.legs w.each)
  -- a read: its address, its code, the data of its reply
  in_bounds (Read t) events w =
      let is = device_is profile t.addr w.device bus w.known in (
        seven_bits pec_is_byte profile bus t.addr w.device w.known,
        (
          code_is_byte (λ (s : Shape). s.read) w.device t.code w.form refl is.0 w.read,
          (data_in w.form t.reply w.fits, tt),
        ),
      )
  -- a call: its data too
  in_bounds (Call t) events w =
      let is = device_is profile t.addr w.device bus w.known in (
        (
          seven_bits pec_is_byte profile bus t.addr w.device w.known,
          (
            code_is_byte (λ (s : Shape). s.call) w.device t.code w.form refl is.0 w.called,
            (data_in w.form t.bytes w.sent, tt),
          ),
        ),
        data_in w.form t.reply w.replied,
      )
  -- a refused packet: its parts, its last leg
  in_bounds (Refused t) events w =
      let last = refused_in t.parts t.addr t.sent t.at_read w.last w.refused in
      ((w.few, parts_in t.parts w.legs w.each), (last.0, (last.1, tt)))
  in_bounds (Alert t) events w = (w.byte, tt)
  in_bounds NoAlert events w = tt

  -- ---- what may follow

  -- some packet begins with events
  abbrev Begun : List Event → Type 0
  Begun events = (t : TransactionData) × ((more : List Event) × Packet profile t (events ++ more))

  begun : (events : List Event) → Decided (Begun events)
  begun events =
      some_of TransactionData InBounds (λ t. (more : List Event) × Packet profile t (events ++ more)) transactions
      (λ t w. in_bounds t (events ++ w.0) w.1) (begins_packet profile events)

  begun_if_viable : (event : Event) (events : List Event) → Viable profile (event ∷ events) → Begun (event ∷ events)
  begun_if_viable event events (inl none) = absurd (cc none)
  begun_if_viable event events (inr w) = (w.1.0, (w.0, w.1.1))

  pub viable : (events : List Event) → Decided (Viable profile events)
  viable [] = inl (inl refl)
  viable (event ∷ events) =
      either_way (Begun (event ∷ events)) (Viable profile (event ∷ events)) (λ w. inr (w.1.0, (w.0, w.1.1)))
      (begun_if_viable event events)
      (begun (event ∷ events))

  pub may_follow : (events : List Event) (event : Event) → Decided (MayFollow profile events event)
  may_follow events event = viable (events ++ event ∷ [])

  byte_in : (events : List Event) (b : ℕ) (more : List Event) → of_events.AreBytes ((events ++ Byte b ∷ []) ++ more)
      → b < 256
  byte_in [] b more small = small.0
  byte_in (Byte x ∷ events) b more small = byte_in events b more small.1
  byte_in (Start ∷ events) b more small = byte_in events b more small
  byte_in (Ack ∷ events) b more small = byte_in events b more small
  byte_in (Nack ∷ events) b more small = byte_in events b more small
  byte_in (Stop ∷ events) b more small = byte_in events b more small

  small_byte : (events : List Event) (b : ℕ) → MayFollow profile events (Byte b) → b < 256
  small_byte events b (inl none) = absurd (no_end events (Byte b) [] none)
  small_byte events b (inr w) =
      byte_in events b w.0 (packets_are_bytes pec_is_byte profile bus w.1.0 ((events ++ Byte b ∷ []) ++ w.0) w.1.1)

  pub some_byte : (events : List Event) → Decided ((b : ℕ) × MayFollow profile events (Byte b))
  some_byte events =
      some_of ℕ (λ b. b < 256) (λ b. MayFollow profile events (Byte b)) bytes (small_byte events)
      (λ b. may_follow events (Byte b))

  -- an event of each kind, or of all bytes some
  abbrev SomeEvent : (Event → Type 0) → Type 0
  SomeEvent P = P Start ⊎ (((b : ℕ) × P (Byte b)) ⊎ (P Ack ⊎ (P Nack ⊎ P Stop)))

  of_kind : (P : Event → Type 0) → SomeEvent P → (event : Event) × P event
  of_kind P (inl p) = (Start, p)
  of_kind P (inr (inl w)) = (Byte w.0, w.1)
  of_kind P (inr (inr (inl p))) = (Ack, p)
  of_kind P (inr (inr (inr (inl p)))) = (Nack, p)
  of_kind P (inr (inr (inr (inr p)))) = (Stop, p)

  kind_with : (P : Event → Type 0) (event : Event) → P event → SomeEvent P
  kind_with P Start p = inl p
  kind_with P (Byte b) p = inr (inl (b, p))
  kind_with P Ack p = inr (inr (inl p))
  kind_with P Nack p = inr (inr (inr (inl p)))
  kind_with P Stop p = inr (inr (inr (inr p)))

  -- another event than one that may follow
  abbrev Another : List Event → Event → Event → Type 0
  Another events event other = MayFollow profile events other × (other ≡ event → ⊥)

  another : (events : List Event) (event other : Event) → Decided (Another events event other)
  another events event other =
      both (MayFollow profile events other) (other ≡ event → ⊥) (may_follow events other)
      (not_so (other ≡ event) (same_event other event))

  some_other : (events : List Event) (event : Event) → Decided ((other : Event) × Another events event other)
  some_other events event =
      let P : Event → Type 0 = Another events event in
      let SomeByte : Type 0 = (b : ℕ) × P (Byte b) in
      either_way (SomeEvent P) ((other : Event) × P other) (of_kind P) (λ w. kind_with P w.0 w.1)
      (
      one_of (P Start) (SomeByte ⊎ (P Ack ⊎ (P Nack ⊎ P Stop))) (another events event Start)
      (
      one_of SomeByte (P Ack ⊎ (P Nack ⊎ P Stop))
      (
      some_of ℕ (λ b. b < 256) (λ b. P (Byte b)) bytes (λ b w. small_byte events b w.0)
      (λ b. another events event (Byte b))
      )
      (
      one_of (P Ack) (P Nack ⊎ P Stop) (another events event Ack)
      (one_of (P Nack) (P Stop) (another events event Nack) (another events event Stop))
      )
      )
      )

  pub follows_alone : (events : List Event) (event : Event) → Decided (FollowsAlone profile events event)
  follows_alone events event =
      either_way (MayFollow profile events event × (((other : Event) × Another events event other) → ⊥))
      (FollowsAlone profile events event)
      (λ w. record {
        follows = w.0;
        alone = λ other follows. settled (other ≡ event) (same_event other event)
            (λ diff. w.1 (other, (follows, diff)));
      })
      (λ w. (w.follows, λ v. v.1.1 (w.alone v.0 v.1.0)))
      (
      both (MayFollow profile events event) (((other : Event) × Another events event other) → ⊥)
      (may_follow events event)
      (not_so ((other : Event) × Another events event other) (some_other events event))
      )
