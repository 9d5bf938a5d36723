-- The bytes of a packet are below 256: address bytes, codes, data and packet error codes. For the
-- law `packets_are_bytes`. It holds of each list of bytes that a packet is made of, and so of their
-- events end to end.
use Rattle.std.proofs.Common.{◌≡◌, ℕ, ◌<◌, Bool, true, false, Some, List, [], ◌∷◌, ◌++◌, ◌+◌, ◌*◌, inl, inr, refl, sym}
use Rattle.std.proofs.Common.{subst, arith}
use Rattle.pmb_bus.specs.Event as of_events
use Rattle.pmb_bus.specs.Pec.{pec}
use Rattle.pmb_bus.specs.declared.event.Event.{Event}
use Rattle.pmb_bus.specs.declared.event.Event.TheVariants.{Start, Byte, Ack, Nack, Stop}
use Rattle.pmb_bus.specs.Address.{read_address, write_address, alert_address}
use Rattle.pmb_command.specs.declared.form.Form.{Form}
use Rattle.pmb_command.specs.declared.form.Form.TheVariants.{Zero, One, Two, Four, Eight, Block}
use Rattle.pmb_command.specs.declared.form.Shape.{Shape}
use Rattle.pmb_command.specs.Bus.{IsBus}
use Rattle.pmb_command.specs.Parts.{DeviceParts, device_with}
use Rattle.pmb_command.specs.Wire.{AreByteValues, Fits, wire}
use Rattle.pmb_transaction.specs.Body.{WriteBody, checked, IsRequest}
use Rattle.pmb_transaction.specs.Packet.{Packet, PartsEvents, ReadRefused, RefusedLeg, acked, answered, leg, nacked}
use Rattle.pmb_transaction.specs.Transaction.{PartData, TransactionData, Write, Read, Call, Refused, Alert, NoAlert}
use Rattle.pmb_transaction.proofs.Known.{code_is_byte, device_is}

-- ---- lists of bytes

pub small-append : (a b : List ℕ) → AreByteValues a → AreByteValues b → AreByteValues (a ++ b)
small-append [] b first second = second
small-append (x ∷ a) b first second = (first.0, small-append a b first.1 second)

small_wire : (form : Form) (bytes : List ℕ) → Fits form bytes → AreByteValues (wire form bytes)
small_wire Zero bytes fits = fits.small
small_wire One bytes fits = fits.small
small_wire Two bytes fits = fits.small
small_wire Four bytes fits = fits.small
small_wire Eight bytes fits = fits.small
small_wire Block bytes fits = (omega (arith, fits.taken), fits.small)

-- ---- events

pub AreBytes-append : (a b : List Event) → of_events.AreBytes a → of_events.AreBytes b → of_events.AreBytes (a ++ b)
AreBytes-append [] b first second = second
AreBytes-append (Byte x ∷ a) b first second = (first.0, AreBytes-append a b first.1 second)
AreBytes-append (Start ∷ a) b first second = AreBytes-append a b first second
AreBytes-append (Ack ∷ a) b first second = AreBytes-append a b first second
AreBytes-append (Nack ∷ a) b first second = AreBytes-append a b first second
AreBytes-append (Stop ∷ a) b first second = AreBytes-append a b first second

bytes_of_acked : (bytes : List ℕ) → AreByteValues bytes → of_events.AreBytes (acked bytes)
bytes_of_acked [] small = tt
bytes_of_acked (b ∷ bytes) small = (small.0, bytes_of_acked bytes small.1)

bytes_of_nacked : (bytes : List ℕ) → AreByteValues bytes → of_events.AreBytes (nacked bytes)
bytes_of_nacked [] small = tt
bytes_of_nacked (b ∷ []) small = (small.0, tt)
bytes_of_nacked (b ∷ c ∷ bytes) small = (small.0, bytes_of_nacked (c ∷ bytes) small.1)

-- events with a STOP after them
with_stop : (events front : List Event) → of_events.AreBytes front → events ≡ front ++ Stop ∷ []
    → of_events.AreBytes events
with_stop events front small spelled = subst of_events.AreBytes (sym spelled)
    (AreBytes-append front (Stop ∷ []) small tt)

-- A packet error code is a byte.
module _ (pec_is_byte : (bytes : List ℕ) → pec bytes < 256) where
  small_checked : (with_pec : Bool) (before bytes : List ℕ) → AreByteValues bytes
      → AreByteValues (checked with_pec before bytes)
  small_checked false before bytes small = small
  small_checked true before bytes small = small-append bytes (pec (before ++ bytes) ∷ []) small
      (pec_is_byte (before ++ bytes), tt)

  bytes_of_answered : (events : List Event) (addr : ℕ) (body reply : List ℕ) (with_pec : Bool) → addr < 128
      → AreByteValues body → AreByteValues reply
      → events ≡ answered addr body reply with_pec → of_events.AreBytes events
  bytes_of_answered events addr body reply with_pec seven sent replied spelled =
      let written = leg (write_address addr ∷ body) in
      let bytes = checked with_pec (write_address addr ∷ body ++ read_address addr ∷ []) reply in
      let small = small_checked with_pec (write_address addr ∷ body ++ read_address addr ∷ []) reply replied in
      let write : 2 * addr < 256 = omega arith in
      let read : 2 * addr + 1 < 256 = omega arith in
      with_stop events (written ++ (leg (read_address addr ∷ []) ++ nacked bytes))
      (
      AreBytes-append written (leg (read_address addr ∷ []) ++ nacked bytes) (write, bytes_of_acked body sent)
      (read, bytes_of_nacked bytes small)
      ) spelled

  module _ (profile : List DeviceParts) (bus : IsBus profile) where
    pub seven_bits : (addr : ℕ) (device : DeviceParts) → device_with addr profile ≡ Some device → addr < 128
    seven_bits addr device known =
        let is = device_is profile addr device bus known in
        omega (arith, is.0.address.greatest, is.1)

    pub small_body : (device : DeviceParts) (addr code : ℕ) (bytes : List ℕ) (with_pec : Bool) (body : List ℕ)
        → device_with addr profile ≡ Some device
        → WriteBody device code bytes with_pec body → AreByteValues body
    small_body device addr code bytes with_pec body known allowed =
        let is = device_is profile addr device bus known in
        let code_small = code_is_byte (λ (s : Shape). s.write) device code allowed.form refl is.0 allowed.written in
        subst AreByteValues (sym allowed.spelled)
        (
        small_checked with_pec (write_address device.address ∷ []) (code ∷ wire allowed.form bytes)
        (code_small, small_wire allowed.form bytes allowed.fits)
        )

    bytes_of_parts : (parts : List PartData) (events : List Event) → PartsEvents profile parts events
        → of_events.AreBytes events
    bytes_of_parts [] events each = subst of_events.AreBytes (sym each) tt
    bytes_of_parts (part ∷ parts) events each =
        let here = each.3 in
        let seven = seven_bits part.addr here.device here.known in
        let write : 2 * part.addr < 256 = omega arith in
        let body = small_body here.device part.addr part.code part.bytes part.pec here.body here.known here.allowed in
        let first : of_events.AreBytes each.0 = subst of_events.AreBytes (sym here.spelled)
        (write, bytes_of_acked here.body body) in
        subst of_events.AreBytes (sym each.2) (AreBytes-append each.0 each.1 first (bytes_of_parts parts each.1 each.4))

    pub small_sent : (addr : ℕ) (device : DeviceParts) (sent : List ℕ) → device_with addr profile ≡ Some device
        → IsRequest device sent → AreByteValues sent
    small_sent addr device sent known (inl read) =
        let is = device_is profile addr device bus known in
        let code_small = code_is_byte (λ (s : Shape). s.read) device read.0 read.1 refl is.0 read.2.read in
        subst AreByteValues (sym read.2.spelled) (code_small, tt)
    small_sent addr device sent known (inr call) =
        let is = device_is profile addr device bus known in
        let code_small = code_is_byte (λ (s : Shape). s.call) device call.0 call.1 refl is.0 call.3.called in
        subst AreByteValues (sym call.3.spelled) (code_small, small_wire call.1 call.2 call.3.fits)

    bytes_of_read_refused : (parts : List PartData) (addr : ℕ) (sent : List ℕ) (last : List Event)
        → ReadRefused profile parts addr sent last
        → of_events.AreBytes last
    bytes_of_read_refused parts addr sent last refused =
        let seven = seven_bits addr refused.device refused.known in
        let write : 2 * addr < 256 = omega arith in
        let read : 2 * addr + 1 < 256 = omega arith in
        subst of_events.AreBytes (sym refused.spelled)
        (
        AreBytes-append (leg (write_address addr ∷ sent)) (Start ∷ Byte (read_address addr) ∷ Nack ∷ [])
        (write, bytes_of_acked sent (small_sent addr refused.device sent refused.known refused.body))
        (read, tt)
        )

    bytes_of_refused : (parts : List PartData) (addr : ℕ) (sent : List ℕ) (at_read : Bool) (last : List Event)
        → RefusedLeg profile parts addr sent at_read last → of_events.AreBytes last
    bytes_of_refused parts addr [] false last refused =
        let seven : addr < 128 = refused.seven in
        let write : 2 * addr < 256 = omega arith in
        subst of_events.AreBytes (sym refused.spelled) (write, tt)
    bytes_of_refused parts addr (b ∷ bytes) false last refused =
        let seven = seven_bits addr refused.device refused.known in
        let write : 2 * addr < 256 = omega arith in
        subst of_events.AreBytes (sym refused.spelled) (write, bytes_of_nacked (b ∷ bytes) refused.bytes)
    bytes_of_refused parts addr [] true last refused = bytes_of_read_refused parts addr [] last refused
    bytes_of_refused parts addr (b ∷ bytes) true last refused =
        bytes_of_read_refused parts addr (b ∷ bytes) last refused

    pub packets_are_bytes : (t : TransactionData) (events : List Event) → Packet profile t events
        → of_events.AreBytes events
    -- its parts' bodies
    packets_are_bytes (Write parts) events packet =
        with_stop events packet.legs (bytes_of_parts parts packet.legs packet.each) packet.spelled
    -- the code, and the reply in its form
    packets_are_bytes (Read t) events packet =
        let is = device_is profile t.addr packet.device bus packet.known in
        let code_small = code_is_byte (λ (s : Shape). s.read) packet.device t.code packet.form refl is.0 packet.read in
        bytes_of_answered events t.addr (t.code ∷ []) (wire packet.form t.reply) t.pec
        (seven_bits t.addr packet.device packet.known) (code_small, tt) (small_wire packet.form t.reply packet.fits)
        packet.spelled
    packets_are_bytes (Call t) events packet =
        let is = device_is profile t.addr packet.device bus packet.known in
        let code_small = code_is_byte (λ (s : Shape). s.call) packet.device t.code packet.form refl is.0
        packet.called in
        bytes_of_answered events t.addr (t.code ∷ wire packet.form t.bytes) (wire packet.form t.reply) t.pec
        (seven_bits t.addr packet.device packet.known) (code_small, small_wire packet.form t.bytes packet.sent)
        (small_wire packet.form t.reply packet.replied) packet.spelled
    -- the parts, then the refused leg
    packets_are_bytes (Refused t) events packet =
        with_stop events (packet.legs ++ packet.last)
        (
        AreBytes-append packet.legs packet.last (bytes_of_parts t.parts packet.legs packet.each)
        (bytes_of_refused t.parts t.addr t.sent t.at_read packet.last packet.refused)
        ) packet.spelled
    packets_are_bytes (Alert t) events packet =
        let bytes = checked t.pec (read_address alert_address ∷ []) (t.byte ∷ []) in
        let small = small_checked t.pec (read_address alert_address ∷ []) (t.byte ∷ []) (packet.byte, tt) in
        -- 25 is 0x19, the address byte of the Alert Response Address
        let address : 25 < 256 = omega arith in
        with_stop events (leg (read_address alert_address ∷ []) ++ nacked bytes) (address, bytes_of_nacked bytes small)
        packet.spelled
    packets_are_bytes NoAlert events packet =
        -- 25 is 0x19, the address byte of the Alert Response Address
        let address : 25 < 256 = omega arith in
        subst of_events.AreBytes (sym packet) (address, tt)
