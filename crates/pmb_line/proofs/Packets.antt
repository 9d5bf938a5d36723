-- A transaction that has a packet under an accepted profile has a line, and its bytes are below
-- 256. For the laws `packet_has_line` and `comments_say_nothing`. The profile's addresses and codes
-- are bytes, and a write has a part.
use Rattle.std.proofs.Common.{◌≡◌, ◌≢◌, ℕ, ◌<◌, ◌≤◌, Bool, true, false, Some, List, [], ◌∷◌, length, refl, sym, subst}
use Rattle.std.proofs.Common.{inl, inr, arith}
use Rattle.std.specs.List.{AllByRecursion}
use Rattle.pmb_bus.specs.declared.event.Event.{Event}
use Rattle.pmb_command.specs.declared.form.Form.{Form}
use Rattle.pmb_command.specs.declared.form.Form.TheVariants.{Zero, One, Two, Four, Eight, Block}
use Rattle.pmb_command.specs.declared.form.Shape.{Shape}
use Rattle.pmb_command.specs.Bus.{IsBus}
use Rattle.pmb_command.specs.Parts.{DeviceParts, device_with}
use Rattle.pmb_command.specs.Wire.{AreByteValues, Fits, wire}
use Rattle.pmb_transaction.specs.Transaction.{PartData, TransactionData}
use Rattle.pmb_transaction.specs.Transaction as says
use Rattle.pmb_transaction.specs.Body.{IsRequest}
use Rattle.pmb_transaction.specs.Packet.{Packet, PartsEvents, RefusedLeg}
use Rattle.pmb_transaction.proofs.Known.{code_is_byte, device_is}
use Rattle.pmb_line.specs.Spelling.{ArePartBytes, HasBytes, HasLine}

module _ (profile : List DeviceParts) (bus : IsBus profile) where
  addr_small : (addr : ℕ) (device : DeviceParts) → device_with addr profile ≡ Some device → addr < 256
  addr_small addr device known =
      let is = device_is profile addr device bus known in
      omega (arith, is.0.address.greatest, is.1)

  parts_small : (ps : List PartData) (events : List Event) → PartsEvents profile ps events
      → AllByRecursion ArePartBytes ps
  parts_small [] events each = tt
  parts_small (p ∷ ps) events each =
      let here = each.3 in
      let is = device_is profile p.addr here.device bus here.known in
      let code_small = code_is_byte (λ (s : Shape). s.write) here.device p.code here.allowed.form refl is.0
      here.allowed.written in
      ((addr_small p.addr here.device here.known, code_small, here.allowed.fits.small), parts_small ps each.1 each.4)

  wire_small : (form : Form) (bs : List ℕ) → Fits form bs → AreByteValues (wire form bs)
  wire_small Zero bs fits = fits.small
  wire_small One bs fits = fits.small
  wire_small Two bs fits = fits.small
  wire_small Four bs fits = fits.small
  wire_small Eight bs fits = fits.small
  wire_small Block bs fits = (omega (arith, fits.taken), fits.small)

  sent_small : (addr : ℕ) (device : DeviceParts) (sent : List ℕ) → device_with addr profile ≡ Some device
      → IsRequest device sent → AreByteValues sent
  sent_small addr device sent known (inl read) =
      let is = device_is profile addr device bus known in
      subst AreByteValues (sym read.2.spelled)
      (code_is_byte (λ (s : Shape). s.read) device read.0 read.1 refl is.0 read.2.read, tt)
  sent_small addr device sent known (inr call) =
      let is = device_is profile addr device bus known in
      subst AreByteValues (sym call.3.spelled) (
        code_is_byte (λ (s : Shape). s.call) device call.0 call.1 refl is.0 call.3.called,
        wire_small call.1 call.2 call.3.fits,
      )

  leg_small : (ps : List PartData) (addr : ℕ) (sent : List ℕ) (at_read : Bool) (events : List Event)
      → RefusedLeg profile ps addr sent at_read events → (addr < 256) × AreByteValues sent
  leg_small ps addr [] false events leg = (omega (arith, leg.seven), tt)
  leg_small ps addr (b ∷ bs) false events leg = (addr_small addr leg.device leg.known, leg.bytes)
  leg_small ps addr sent true events leg =
      (addr_small addr leg.device leg.known, sent_small addr leg.device sent leg.known leg.body)

  some_part : (ps : List PartData) → 1 ≤ length ps → ps ≢ []
  some_part [] some none = omega (arith, some)
  some_part (p ∷ ps) some none = cc none

  pub has_line : (t : TransactionData) (events : List Event) → Packet profile t events → HasLine t
  has_line (says.Write ps) events packet = some_part ps packet.some
  has_line (says.Read t) events packet = tt
  has_line (says.Call t) events packet = tt
  has_line (says.Refused t) events packet = tt
  has_line (says.Alert t) events packet = tt
  has_line says.NoAlert events packet = tt

  pub has_bytes : (t : TransactionData) (events : List Event) → Packet profile t events → HasBytes t
  has_bytes (says.Write ps) events packet = parts_small ps packet.legs packet.each
  has_bytes (says.Read t) events packet =
      let is = device_is profile t.addr packet.device bus packet.known in (
        addr_small t.addr packet.device packet.known,
        code_is_byte (λ (s : Shape). s.read) packet.device t.code packet.form refl is.0 packet.read,
        packet.fits.small,
      )
  has_bytes (says.Call t) events packet =
      let is = device_is profile t.addr packet.device bus packet.known in (
        addr_small t.addr packet.device packet.known,
        code_is_byte (λ (s : Shape). s.call) packet.device t.code packet.form refl is.0 packet.called,
        packet.sent.small,
        packet.replied.small,
      )
  has_bytes (says.Refused t) events packet =
      let leg = leg_small t.parts t.addr t.sent t.at_read packet.last packet.refused in
      (parts_small t.parts packet.legs packet.each, leg.0, leg.1)
  has_bytes (says.Alert t) events packet = packet.byte
  has_bytes says.NoAlert events packet = tt
