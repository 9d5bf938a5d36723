-- How many events and bytes legs have, and that their bytes are below 256. For
-- `CanonicalReader::take`, `keep_write`, `keep_both` and the other functions that keep a packet, by
-- PacketLegs, Groups and RefusedLegs. A byte is two events; data have at most 256 bytes, a leg at
-- most 258 after its address byte.
use Rattle.std.proofs.Common.{◌≡◌, ℕ, ◌+◌, ◌*◌, ◌≤◌, Bool, true, false, List, [], ◌∷◌, ◌++◌, length, refl, ap, arith}
use Rattle.std.proofs.Common.{length-append}
use Rattle.pmb_bus.specs.declared.event.Event.{Event}
use Rattle.pmb_bus.specs.Address.{write_address}
use Rattle.pmb_bus.specs.Event.{AreBytes}
use Rattle.pmb_bus.specs.Pec.{pec}
use Rattle.pmb_command.specs.declared.form.Form.{Form}
use Rattle.pmb_command.specs.declared.form.Form.TheVariants.{Zero, One, Two, Four, Eight, Block}
use Rattle.pmb_command.specs.Parts.{DeviceParts}
use Rattle.pmb_command.specs.Wire.{AreByteValues, Fits, wire}
use Rattle.pmb_transaction.specs.Transaction.{PartData}
use Rattle.pmb_transaction.specs.Body.{checked}
use Rattle.pmb_transaction.specs.Packet.{PartEvents, acked, nacked}

pub length-acked : (bytes : List ℕ) → length (acked bytes) ≡ 2 * length bytes
length-acked [] = refl
length-acked (b ∷ bytes) = omega (arith, length-acked bytes)

pub length-nacked : (bytes : List ℕ) → length (nacked bytes) ≡ 2 * length bytes
length-nacked [] = refl
length-nacked (b ∷ []) = refl
length-nacked (b ∷ c ∷ bytes) = omega (arith, length-nacked (c ∷ bytes))

-- the bytes of events
pub bytes_of_acked : (bytes : List ℕ) (more : List Event) → AreBytes (acked bytes ++ more) → AreByteValues bytes
bytes_of_acked [] more small = tt
bytes_of_acked (b ∷ bytes) more small = (small.0, bytes_of_acked bytes more small.1)

pub bytes_of_nacked : (bytes : List ℕ) (more : List Event) → AreBytes (nacked bytes ++ more) → AreByteValues bytes
bytes_of_nacked [] more small = tt
bytes_of_nacked (b ∷ []) more small = (small.0, tt)
bytes_of_nacked (b ∷ c ∷ bytes) more small = (small.0, bytes_of_nacked (c ∷ bytes) more small.1)

pub behind_acked : (bytes : List ℕ) (more : List Event) → AreBytes (acked bytes ++ more) → AreBytes more
behind_acked [] more small = small
behind_acked (b ∷ bytes) more small = behind_acked bytes more small.1

-- how many bytes data have on the wire
pub few_on_wire : (form : Form) (data_bytes : List ℕ) → Fits form data_bytes → length (wire form data_bytes) ≤ 256
few_on_wire Zero data_bytes fits = omega (arith, fits.taken)
few_on_wire One data_bytes fits = omega (arith, fits.taken)
few_on_wire Two data_bytes fits = omega (arith, fits.taken)
few_on_wire Four data_bytes fits = omega (arith, fits.taken)
few_on_wire Eight data_bytes fits = omega (arith, fits.taken)
few_on_wire Block data_bytes fits = omega (arith, fits.taken)

pub some_on_wire : (form : Form) (data_bytes : List ℕ) → Fits form data_bytes → (form ≡ Zero → ⊥)
    → 1 ≤ length (wire form data_bytes)
some_on_wire Zero data_bytes fits not_zero = absurd (not_zero refl)
some_on_wire One data_bytes fits not_zero = omega (arith, fits.taken)
some_on_wire Two data_bytes fits not_zero = omega (arith, fits.taken)
some_on_wire Four data_bytes fits not_zero = omega (arith, fits.taken)
some_on_wire Eight data_bytes fits not_zero = omega (arith, fits.taken)
some_on_wire Block data_bytes fits not_zero = omega arith

-- and how many with a packet error code
pub few_checked : (with_pec : Bool) (before bytes : List ℕ) → length (checked with_pec before bytes) ≤ length bytes + 1
few_checked false before bytes = omega arith
few_checked true before bytes = omega (arith, length-append bytes (pec (before ++ bytes) ∷ []))

pub some_checked : (with_pec : Bool) (before bytes : List ℕ) → length bytes ≤ length (checked with_pec before bytes)
some_checked false before bytes = omega arith
some_checked true before bytes = omega (arith, length-append bytes (pec (before ++ bytes) ∷ []))

-- those of a part's leg find room
pub few_in_leg : (profile : List DeviceParts) (part : PartData)
    → {events : List Event} (one : PartEvents profile part events) → length (write_address part.addr ∷ one.body) ≤ 516
few_in_leg profile part one = omega (
  arith,
  ap length one.allowed.spelled,
  few_checked part.pec (write_address one.device.address ∷ []) (part.code ∷ wire one.allowed.form part.bytes),
  few_on_wire one.allowed.form part.bytes one.allowed.fits,
)
