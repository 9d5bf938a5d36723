-- The events that the code writes are the packet. For `events_of` and `append_packet`. The code
-- takes legs with data, and carries the packet error code on from byte to byte; by the laws of that
-- code (`CodeLaws`) it is the code over all bytes that the definition has.
use Rattle.std.proofs.Common.{◌≡◌, ℕ, ◌<◌, Bool, true, false, if◌then◌else◌, Option, Some, None, List, [], ◌∷◌, ◌++◌}
use Rattle.std.proofs.Common.{length, map, nat_eq, refl, sym, ap, subst, ◌∙◌, append_assoc, arith}
use Rattle.std.specs.Prelude.{bit_xor}
use Rattle.std.specs.List.{AllByRecursion, find}
use Rattle.std.proofs.lemmas.Bool.{eqb-true}
use Rattle.std.proofs.lemmas.List.{append-nil}
use Rattle.pmb_bus.specs.declared.event.Event.{Event}
use Rattle.pmb_bus.specs.declared.event.Event.TheVariants.{Start, Byte, Ack, Nack, Stop}
use Rattle.pmb_bus.specs.Pec.{pec}
use Rattle.pmb_bus.specs.Address.{write_address, read_address}
use Rattle.pmb_command.specs.Bus.{IsCommand, IsDevice}
use Rattle.pmb_command.specs.declared.form.Form.{Form}
use Rattle.pmb_command.specs.declared.form.Form.TheVariants.{Zero, One, Two, Four, Eight, Block}
use Rattle.pmb_command.specs.declared.form.Shape.{Shape}
use Rattle.pmb_command.specs.Fitting.{calls_fit, reads_data}
use Rattle.pmb_command.specs.Parts.{CommandParts, DeviceParts, command_with, device_with}
use Rattle.pmb_command.specs.Wire.{Fits, wire}
use Rattle.pmb_transaction.specs.Transaction.{PartData, ReadData, CallData, RefusedData, AlertData, TransactionData}
use Rattle.pmb_transaction.specs.Transaction.{Write, Read, Call, Refused, Alert, NoAlert}
use Rattle.pmb_transaction.specs.Body.{shape_of, forms, checked}
use Rattle.pmb_transaction.specs.Packet.{acked, nacked, leg, answered, PartEvents, PartsEvents, WritePacket, ReadPacket}
use Rattle.pmb_transaction.specs.Packet.{CallPacket, ReadRefused, RefusedLeg, RefusedPacket, AlertPacket, Packet}
use Rattle.pmb_writer.specs.Invalid.{HasPacket, forms_at}
use Rattle.pmb_writer.specs.machine.Legs.{LegData, answered_by, asked_leg, code_on, leg_events, legs_events, part_leg}
use Rattle.pmb_writer.specs.machine.Legs.{read_byte, refused_legs, reply_leg, wire_of, with_code, write_byte}
use Rattle.pmb_writer.specs.machine.Legs.{packet_events}
use Rattle.pmb_writer.proofs.LegBytes.{begin_leg}
use Rattle.pmb_writer.proofs.Packets.{forms_are, known_address, seven_bits}

-- ---- answers, addresses and packet error codes

acked_is : (bytes : List ℕ) → answered_by Ack bytes ≡ acked bytes
acked_is [] = refl
acked_is (b ∷ []) = refl
acked_is (b ∷ c ∷ bytes) = ap (λ events. Byte b ∷ Ack ∷ events) (acked_is (c ∷ bytes))

nacked_is : (bytes : List ℕ) → answered_by Nack bytes ≡ nacked bytes
nacked_is [] = refl
nacked_is (b ∷ []) = refl
nacked_is (b ∷ c ∷ bytes) = ap (λ events. Byte b ∷ Ack ∷ events) (nacked_is (c ∷ bytes))

-- a byte with others after it
nacked_behind : (b : ℕ) (bytes : List ℕ) → 0 < length bytes → answered_by Nack (b ∷ bytes) ≡ Byte b ∷ Ack ∷ nacked bytes
nacked_behind b [] some = absurd (omega arith)
nacked_behind b (c ∷ bytes) some = ap (λ events. Byte b ∷ Ack ∷ events) (nacked_is (c ∷ bytes))

write_byte_is : (addr : ℕ) → addr < 128 → write_byte addr ≡ write_address addr
write_byte_is addr seven = omega arith

read_byte_is : (addr : ℕ) → addr < 128 → read_byte addr ≡ read_address addr
read_byte_is addr seven = omega arith

-- The laws of packet error codes by which a code is carried on.
pub record CodeLaws : Type 0 where
  -- the code of no bytes, and that of one byte more, from the code so far
  pub nothing : pec [] ≡ 0
  pub goes_on : (bytes : List ℕ) (byte : ℕ) → pec (bytes ++ byte ∷ []) ≡ pec (bit_xor (pec bytes) byte ∷ [])

module _ (laws : CodeLaws) where
  code_on_is : (bytes before : List ℕ) → code_on (pec before) bytes ≡ pec (before ++ bytes)
  unfolding code_on
  code_on_is [] before = ap pec (sym (append-nil before))
  code_on_is (b ∷ bytes) before =
      ap (λ c. code_on c bytes) (sym (laws.goes_on before b)) ∙ code_on_is bytes (before ++ b ∷ [])
      ∙ ap pec (append_assoc before (b ∷ []) bytes)

  code_is : (bytes : List ℕ) → code_on 0 bytes ≡ pec bytes
  code_is bytes = ap (λ c. code_on c bytes) (sym laws.nothing) ∙ code_on_is bytes []

  -- a write leg and its own code
  checked_is : (with_pec : Bool) (w : ℕ) (bytes : List ℕ) → with_code with_pec 0 (w ∷ bytes) ≡ w
      ∷ checked with_pec (w ∷ []) bytes
  checked_is false w bytes = refl
  checked_is true w bytes = ap (λ c. w ∷ bytes ++ c ∷ []) (code_is (w ∷ bytes))

  -- a reply and the code over both legs
  reply_is : (with_pec : Bool) (front : List ℕ) (r : ℕ) (reply : List ℕ)
      → with_code with_pec (code_on 0 front) (r ∷ reply) ≡ r ∷ checked with_pec (front ++ r ∷ []) reply
  reply_is false front r reply = refl
  reply_is true front r reply =
      ap (λ c. r ∷ reply ++ c ∷ [])
      (ap (λ k. code_on k (r ∷ reply)) (code_is front) ∙ code_on_is (r ∷ reply) front
      ∙ ap pec (sym (append_assoc front (r ∷ []) reply)))

  some_checked : (with_pec : Bool) (before bytes : List ℕ) → 0 < length bytes
      → 0 < length (checked with_pec before bytes)
  some_checked false before bytes some = some
  some_checked true before [] some = omega arith
  some_checked true before (b ∷ bytes) some = omega arith

  answered_is : (addr : ℕ) (body reply : List ℕ) (with_pec : Bool) → addr < 128 → 0 < length reply
      → legs_events true 0 (asked_leg addr body ∷ reply_leg addr reply with_pec ∷ [])
      ≡ answered addr body reply with_pec
  unfolding legs_events
  answered_is addr body reply with_pec seven some =
      let w : ℕ = write_address addr in
      let r : ℕ = read_address addr in
      let tail : List ℕ = checked with_pec (w ∷ body ++ r ∷ []) reply in
      let events : List ℕ → List ℕ → List Event = λ front back. Start
      ∷ (answered_by Ack front ++ (Start ∷ (answered_by Nack back ++ Stop ∷ []))) in
      let addressed : events (write_byte addr ∷ body)
      (with_code with_pec (code_on 0 (write_byte addr ∷ body)) (read_byte addr ∷ reply))
      ≡ events (w ∷ body) (with_code with_pec (code_on 0 (w ∷ body)) (r ∷ reply)) =
      ap (λ x. events (x ∷ body) (with_code with_pec (code_on 0 (x ∷ body)) (read_byte addr ∷ reply)))
      (write_byte_is addr seven)
      ∙ ap (λ x. events (w ∷ body) (with_code with_pec (code_on 0 (w ∷ body)) (x ∷ reply))) (read_byte_is addr seven) in
      addressed
      ∙ ap (events (w ∷ body)) (reply_is with_pec (w ∷ body) r reply)
      ∙ ap (λ bytes. Start ∷ (answered_by Ack (w ∷ body) ++ (Start ∷ (bytes ++ Stop ∷ []))))
      (nacked_behind r tail (some_checked with_pec (w ∷ body ++ r ∷ []) reply some))
      ∙ ap (λ bytes. Start ∷ (bytes ++ (Start ∷ Byte r ∷ Ack ∷ (nacked tail ++ Stop ∷ [])))) (acked_is (w ∷ body))
      ∙ sym (append_assoc (leg (w ∷ body)) (leg (r ∷ []) ++ nacked tail) (Stop ∷ []))

-- ---- what a profile's devices have

found_has : {X : Type 0} (P : X → Type 0) (passes : X → Bool) (xs : List X) (x : X) → AllByRecursion P xs
    → find passes xs ≡ Some x → P x
found_has P passes [] x all found = absurd (cc found)
found_has P passes (y ∷ xs) x all found = found_among P (passes y) y x (find passes xs) all.0
    (found_has P passes xs x all.1) found where
      found_among : {X : Type 0} (P : X → Type 0) (b : Bool) (y x : X) (others : Option X) → P y → (others ≡ Some x → P x)
          → (if b then Some y else others) ≡ Some x → P x
      found_among P true y x others here later found = let same : y ≡ x = cc in subst P same here
      found_among P false y x others here later found = later found

found_passes : {X : Type 0} (passes : X → Bool) (xs : List X) (x : X) → find passes xs ≡ Some x → passes x ≡ true
found_passes passes [] x found = absurd (cc found)
found_passes passes (y ∷ xs) x found = passes_among passes (passes y) y x (find passes xs) refl
    (found_passes passes xs x) found where
      passes_among : {X : Type 0} (passes : X → Bool) (b : Bool) (y x : X) (others : Option X) → passes y ≡ b
          → (others ≡ Some x → passes x ≡ true) → (if b then Some y else others) ≡ Some x → passes x ≡ true
      passes_among passes true y x others is later found = let same : y ≡ x = cc in subst (λ v. passes v ≡ true) same is
      passes_among passes false y x others is later found = later found

-- the wire of a form with data is not empty
some_wire : (form : Form) (bytes : List ℕ) → reads_data (Some form) ≡ true → Fits form bytes
    → 0 < length (wire form bytes)
some_wire Zero bytes reads fits = absurd (cc reads)
some_wire One bytes reads fits = omega (arith, fits.taken)
some_wire Two bytes reads fits = omega (arith, fits.taken)
some_wire Four bytes reads fits = omega (arith, fits.taken)
some_wire Eight bytes reads fits = omega (arith, fits.taken)
some_wire Block bytes reads fits = omega arith

called_has_data : (form : Form) → calls_fit (Some form) ≡ true → reads_data (Some form) ≡ true
called_has_data Zero fits = absurd (cc fits)
called_has_data One fits = refl
called_has_data Two fits = refl
called_has_data Four fits = refl
called_has_data Eight fits = refl
called_has_data Block fits = refl

-- the command of a form
command_of : (command : Option CommandParts) (P : Shape → Option Form) (form : Form) → P (shape_of None) ≡ None
    → P (shape_of command) ≡ Some form
    → (c : CommandParts) × (command ≡ Some c) × (P c.entry.shape ≡ Some form)
command_of None P form none is = absurd (cc (none, is))
command_of (Some c) P form none is = (c, refl, is)

read_has_data : (device : DeviceParts) (code : ℕ) (form : Form) → IsDevice device → (forms device code).read ≡ Some form
    → reads_data (Some form) ≡ true
read_has_data device code form is read =
    let c : (c : CommandParts) × (command_with code device.commands ≡ Some c) × (c.entry.shape.read ≡ Some form) =
    command_of (command_with code device.commands) (λ s. s.read) form refl read in
    let command : IsCommand c.0 = found_has IsCommand (λ x. nat_eq x.entry.code code) device.commands c.0 is.commands
    c.1 in
    subst (λ f. reads_data f ≡ true) c.2 command.entry.fitting.read_data

call_has_data : (device : DeviceParts) (code : ℕ) (form : Form) → IsDevice device → (forms device code).call ≡ Some form
    → reads_data (Some form) ≡ true
call_has_data device code form is called =
    let c : (c : CommandParts) × (command_with code device.commands ≡ Some c) × (c.entry.shape.call ≡ Some form) =
    command_of (command_with code device.commands) (λ s. s.call) form refl called in
    let command : IsCommand c.0 = found_has IsCommand (λ x. nat_eq x.entry.code code) device.commands c.0 is.commands
    c.1 in
    called_has_data form (subst (λ f. calls_fit f ≡ true) c.2 command.entry.fitting.call_form)

module _ (laws : CodeLaws) (profile : List DeviceParts) (devices : AllByRecursion IsDevice profile) where
  is_device : (addr : ℕ) (device : DeviceParts) → device_with addr profile ≡ Some device → IsDevice device
  is_device addr device known = found_has IsDevice (λ d. nat_eq d.address addr) profile device devices known

  has_address : (addr : ℕ) (device : DeviceParts) → device_with addr profile ≡ Some device → device.address ≡ addr
  has_address addr device known = eqb-true device.address addr
      (found_passes (λ d. nat_eq d.address addr) profile device known)

  seven : (addr : ℕ) (device : DeviceParts) → device_with addr profile ≡ Some device → addr < 128
  seven addr device known = known_address addr device profile devices known

  -- ---- parts

  part_is : (part : PartData) (events : List Event) → PartEvents profile part events
      → Start ∷ leg_events 0 (part_leg profile part) ≡ events
  part_is part events has =
      let w : ℕ = write_address part.addr in
      let form : (forms_at profile part.addr part.code).write ≡ Some has.allowed.form =
      ap (λ s. s.write) (forms_are profile part.addr part.code has.device has.known) ∙ has.allowed.written in
      let body : checked part.pec (w ∷ []) (part.code ∷ wire has.allowed.form part.bytes) ≡ has.body =
      ap (λ a. checked part.pec (write_address a ∷ []) (part.code ∷ wire has.allowed.form part.bytes))
      (sym (has_address part.addr has.device has.known)) ∙ sym has.allowed.spelled in
      ap (λ b. Start ∷ answered_by Ack (with_code part.pec 0
      (b ∷ part.code ∷ wire_of (forms_at profile part.addr part.code).write part.bytes)))
      (write_byte_is part.addr (seven part.addr has.device has.known))
      ∙ ap (λ f. Start ∷ answered_by Ack (with_code part.pec 0 (w ∷ part.code ∷ wire_of f part.bytes))) form
      ∙ ap (λ bytes. Start ∷ answered_by Ack bytes)
      (checked_is laws part.pec w (part.code ∷ wire has.allowed.form part.bytes) ∙ ap (λ b. w ∷ b) body)
      ∙ ap (λ bytes. Start ∷ bytes) (acked_is (w ∷ has.body))
      ∙ sym has.spelled

  -- legs that begin with a code of their own
  IsFresh : List LegData → Type 0
  IsFresh legs = (crc : ℕ) → legs_events true crc legs ≡ legs_events true 0 legs

  parts_are : (parts : List PartData) (events : List Event) (more : List LegData) → IsFresh more
      → PartsEvents profile parts events → (crc : ℕ)
      → legs_events true crc (map (part_leg profile) parts ++ more) ≡ events ++ legs_events true 0 more
  unfolding IsFresh
  parts_are [] events more fresh none crc = fresh crc ∙ ap (λ e. e ++ legs_events true 0 more) (sym none)
  parts_are (part ∷ parts) events more fresh (first, rest, split, has, others) crc =
      let code : ℕ = code_on 0 (part_leg profile part).bytes in
      let end : List Event = legs_events true 0 more in
      begin_leg true crc (part_leg profile part) (map (part_leg profile) parts ++ more)
      ∙ ap (λ e. Start ∷ (leg_events 0 (part_leg profile part) ++ e)) (parts_are parts rest more fresh others code)
      ∙ ap (λ e. e ++ (rest ++ end)) (part_is part first has)
      ∙ sym (append_assoc first rest end)
      ∙ ap (λ e. e ++ end) (sym split)

  -- ---- transactions

  fresh_end : IsFresh []
  unfolding IsFresh legs_events
  fresh_end crc = refl

  stop_is : legs_events true 0 [] ≡ Stop ∷ []
  unfolding legs_events
  stop_is = refl

  write_is : (parts : List PartData) (events : List Event) → WritePacket profile parts events
      → packet_events profile (Write parts) ≡ events
  write_is parts events has =
      ap (legs_events true 0) (sym (append-nil (map (part_leg profile) parts)))
      ∙ parts_are parts has.legs [] fresh_end has.each 0
      ∙ ap (λ e. has.legs ++ e) stop_is
      ∙ sym has.spelled

  read_is : (t : ReadData) (events : List Event) → ReadPacket profile t events → packet_events profile (Read t) ≡ events
  read_is t events has =
      let form : (forms_at profile t.addr t.code).read ≡ Some has.form =
      ap (λ s. s.read) (forms_are profile t.addr t.code has.device has.known) ∙ has.read in
      let some : 0 < length (wire has.form t.reply) =
      some_wire has.form t.reply (read_has_data has.device t.code has.form (is_device t.addr has.device has.known)
      has.read) has.fits in
      ap (λ f. legs_events true 0 (asked_leg t.addr (t.code ∷ []) ∷ reply_leg t.addr (wire_of f t.reply) t.pec ∷ []))
      form
      ∙ answered_is laws t.addr (t.code ∷ []) (wire has.form t.reply) t.pec (seven t.addr has.device has.known) some
      ∙ sym has.spelled

  call_is : (t : CallData) (events : List Event) → CallPacket profile t events → packet_events profile (Call t) ≡ events
  call_is t events has =
      let form : (forms_at profile t.addr t.code).call ≡ Some has.form =
      ap (λ s. s.call) (forms_are profile t.addr t.code has.device has.known) ∙ has.called in
      let some : 0 < length (wire has.form t.reply) =
      some_wire has.form t.reply (call_has_data has.device t.code has.form (is_device t.addr has.device has.known)
      has.called) has.replied in
      ap (λ f. legs_events true 0 (asked_leg t.addr (t.code ∷ wire_of f t.bytes)
      ∷ reply_leg t.addr (wire_of f t.reply) t.pec ∷ [])) form
      ∙ answered_is laws t.addr (t.code ∷ wire has.form t.bytes) (wire has.form t.reply) t.pec
      (seven t.addr has.device has.known) some
      ∙ sym has.spelled

  refused_is_fresh : (addr : ℕ) (sent : List ℕ) (at_read : Bool) → IsFresh (refused_legs addr sent at_read)
  unfolding IsFresh legs_events
  refused_is_fresh addr sent true crc = refl
  refused_is_fresh addr sent false crc = refl

  address_is : (addr : ℕ) → addr < 128 → legs_events true 0 (refused_legs addr [] false) ≡ Start
      ∷ Byte (write_address addr) ∷ Nack ∷ Stop ∷ []
  unfolding legs_events
  address_is addr small = ap (λ b. Start ∷ Byte b ∷ Nack ∷ Stop ∷ []) (write_byte_is addr small)

  byte_is : (addr b : ℕ) (bytes : List ℕ) → addr < 128 → legs_events true 0 (refused_legs addr (b ∷ bytes) false)
      ≡ (leg (write_address addr ∷ []) ++ nacked (b ∷ bytes)) ++ Stop ∷ []
  unfolding legs_events
  byte_is addr b bytes small =
      ap (λ a. Start ∷ Byte a ∷ Ack ∷ (answered_by Nack (b ∷ bytes) ++ Stop ∷ [])) (write_byte_is addr small)
      ∙ ap (λ e. Start ∷ Byte (write_address addr) ∷ Ack ∷ (e ++ Stop ∷ [])) (nacked_is (b ∷ bytes))

  reply_refused_is : (parts : List PartData) (addr : ℕ) (sent : List ℕ) (events : List Event) → addr < 128
      → ReadRefused profile parts addr sent events
      → legs_events true 0 (refused_legs addr sent true) ≡ events ++ Stop ∷ []
  unfolding legs_events
  reply_refused_is parts addr sent events small has =
      let w : ℕ = write_address addr in
      ap (λ b. Start ∷ (answered_by Ack (b ∷ sent) ++ (Start ∷ Byte (read_byte addr) ∷ Nack ∷ Stop ∷ [])))
      (write_byte_is addr small)
      ∙ ap (λ b. Start ∷ (answered_by Ack (w ∷ sent) ++ (Start ∷ Byte b ∷ Nack ∷ Stop ∷ []))) (read_byte_is addr small)
      ∙ ap (λ e. Start ∷ (e ++ (Start ∷ Byte (read_address addr) ∷ Nack ∷ Stop ∷ []))) (acked_is (w ∷ sent))
      ∙ sym (append_assoc (leg (w ∷ sent)) (Start ∷ Byte (read_address addr) ∷ Nack ∷ []) (Stop ∷ []))
      ∙ ap (λ e. e ++ Stop ∷ []) (sym has.spelled)

  refused_leg_is : (parts : List PartData) (addr : ℕ) (sent : List ℕ) (at_read : Bool) (events : List Event)
      → addr < 128 → RefusedLeg profile parts addr sent at_read events
      → legs_events true 0 (refused_legs addr sent at_read) ≡ events ++ Stop ∷ []
  refused_leg_is parts addr [] false events small has = address_is addr small
      ∙ ap (λ e. e ++ Stop ∷ []) (sym has.spelled)
  refused_leg_is parts addr (b ∷ bytes) false events small has = byte_is addr b bytes small
      ∙ ap (λ e. e ++ Stop ∷ []) (sym has.spelled)
  refused_leg_is parts addr [] true events small has = reply_refused_is parts addr [] events small has
  refused_leg_is parts addr (b ∷ bytes) true events small has = reply_refused_is parts addr (b ∷ bytes) events small has

  refused_is : (t : RefusedData) (events : List Event) → RefusedPacket profile t events
      → packet_events profile (Refused t) ≡ events
  refused_is t events has =
      parts_are t.parts has.legs (refused_legs t.addr t.sent t.at_read) (refused_is_fresh t.addr t.sent t.at_read)
      has.each 0
      ∙ ap (λ e. has.legs ++ e) (refused_leg_is t.parts t.addr t.sent t.at_read has.last
      (seven_bits profile t.parts t.addr t.sent t.at_read has.last devices has.refused) has.refused)
      ∙ sym (append_assoc has.legs has.last (Stop ∷ []))
      ∙ sym has.spelled

  -- 0x19: the address byte of the Alert Response Address
  alert_is : (t : AlertData) (events : List Event) → AlertPacket t events → packet_events profile (Alert t) ≡ events
  unfolding legs_events
  alert_is t events has =
      ap (λ bytes. Start ∷ (answered_by Nack bytes ++ Stop ∷ [])) (checked_is laws t.pec 0x19 (t.byte ∷ []))
      ∙ ap (λ e. Start ∷ (e ++ Stop ∷ [])) (nacked_behind 0x19 (checked t.pec (0x19 ∷ []) (t.byte ∷ []))
      (some_checked laws t.pec (0x19 ∷ []) (t.byte ∷ []) (omega arith)))
      ∙ sym has.spelled

  -- 0x19: the address byte of the Alert Response Address
  no_alert_is : packet_events profile NoAlert ≡ Start ∷ Byte 0x19 ∷ Nack ∷ Stop ∷ []
  unfolding legs_events
  no_alert_is = refl

  pub written_is : (t : TransactionData) (events : List Event) → Packet profile t events
      → packet_events profile t ≡ events
  written_is (Write parts) events has = write_is parts events has
  written_is (Read t) events has = read_is t events has
  written_is (Call t) events has = call_is t events has
  written_is (Refused t) events has = refused_is t events has
  written_is (Alert t) events has = alert_is t events has
  written_is NoAlert events has = no_alert_is ∙ sym has

  pub packet_written : (t : TransactionData) → HasPacket profile t → Packet profile t (packet_events profile t)
  packet_written t (events, has) = subst (Packet profile t) (sym (written_is t events has)) has
