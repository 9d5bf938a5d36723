-- How long bodies are: data at most 256 bytes on the bus (a count and 255), a body at most 258 with
-- its code and packet error code, its front at most 257. For the law `bodies_are_short`, by which
-- readers know that their buffers suffice. Each form says how many bytes its data have.
use Rattle.std.proofs.Common.{ℕ, ◌+◌, ◌≤◌, Bool, true, false, inl, inr, List, [], ◌∷◌, ◌++◌, length, ap, arith}
use Rattle.std.proofs.lemmas.List.{length-append}
use Rattle.pmb_bus.specs.Pec.{pec}
use Rattle.pmb_bus.specs.Address.{write_address}
use Rattle.pmb_command.specs.declared.form.Form.{Form}
use Rattle.pmb_command.specs.declared.form.Form.TheVariants.{Zero, One, Two, Four, Eight, Block}
use Rattle.pmb_command.specs.Parts.{DeviceParts}
use Rattle.pmb_command.specs.Wire.{Fits, wire}
use Rattle.pmb_transaction.specs.Transaction.{PartData}
use Rattle.pmb_transaction.specs.Body.{checked, IsWriteBody, IsReadBody, IsCallBody, Allowed, IsInsideBody}

pub data_are_short : (form : Form) (bytes : List ℕ) → Fits form bytes → length (wire form bytes) ≤ 256
data_are_short Zero bytes fits = omega (arith, fits.taken)
data_are_short One bytes fits = omega (arith, fits.taken)
data_are_short Two bytes fits = omega (arith, fits.taken)
data_are_short Four bytes fits = omega (arith, fits.taken)
data_are_short Eight bytes fits = omega (arith, fits.taken)
data_are_short Block bytes fits = omega (arith, fits.taken)

pub one_code_more : (with_pec : Bool) (before bytes : List ℕ)
    → length (checked with_pec before bytes) ≤ length bytes + 1
one_code_more false before bytes = omega arith
one_code_more true before bytes = omega (arith, length-append bytes (pec (before ++ bytes) ∷ []))

write_body : (device : DeviceParts) (body : List ℕ) → IsWriteBody device body → length body ≤ 258
write_body device body (code, bytes, with_pec, is) =
    let sent = code ∷ wire is.form bytes in
    omega (
      arith,
      ap length is.spelled,
      one_code_more with_pec (write_address device.address ∷ []) sent,
      data_are_short is.form bytes is.fits,
    )

read_body : (device : DeviceParts) (body : List ℕ) → IsReadBody device body → length body ≤ 258
read_body device body (code, form, is) = omega (arith, ap length is.spelled)

call_body : (device : DeviceParts) (body : List ℕ) → IsCallBody device body → length body ≤ 258
call_body device body (code, form, bytes, is) = omega (arith, ap length is.spelled, data_are_short form bytes is.fits)

pub body_is_short : (device : DeviceParts) (parts : List PartData) (body : List ℕ) → Allowed device parts body
    → length body ≤ 258
body_is_short device [] body (inl is) = write_body device body is
body_is_short device [] body (inr (inl is)) = read_body device body is
body_is_short device [] body (inr (inr is)) = call_body device body is
body_is_short device (part ∷ parts) body is = write_body device body is

pub front_is_short : (device : DeviceParts) (parts : List PartData) (front : List ℕ) → IsInsideBody device parts front
    → length front ≤ 257
front_is_short device parts front (inl none) = omega (arith, ap length none)
front_is_short device parts front (inr (body, allowed, inside)) =
    omega (
      arith,
      ap length inside.split,
      length-append front (inside.next ∷ inside.rest),
      body_is_short device parts body allowed,
    )
