-- How many signals a task has at most, 4,161: 16 legs of START and at most 259 bytes, and STOP; or
-- two legs and a reply of at most 257 bytes, each with its Ask and its answer. For the law
-- `signals_are_few` and the functions that make a host. Each length is an inequality of naturals.
use Rattle.std.proofs.Common.{◌≡◌, ℕ, ◌+◌, ◌*◌, ◌<◌, ◌≤◌, Bool, true, false, if◌then◌else◌, Option, Some, None, List}
use Rattle.std.proofs.Common.{[], ◌∷◌, ◌++◌, length, map, flat_map, refl, ap, ◌∙◌, arith, length-append}
use Rattle.std.specs.List.{AllByRecursion}
use Rattle.std.proofs.lemmas.List.{length-map}
use Rattle.pmb_bus.specs.Address.{write_address}
use Rattle.pmb_command.specs.declared.form.Form.{Form}
use Rattle.pmb_command.specs.declared.form.Form.TheVariants.{Zero, One, Two, Four, Eight, Block}
use Rattle.pmb_command.specs.Parts.{DeviceParts}
use Rattle.pmb_command.specs.Wire.{Fits, wire}
use Rattle.pmb_transaction.specs.Body.{checked}
use Rattle.pmb_transaction.specs.Transaction.{PartData}
use Rattle.pmb_writer.specs.Invalid.{forms_at}
use Rattle.pmb_device.specs.declared.signal.HostSignal.TheVariants.{Byte, Stop}
use Rattle.pmb_host.specs.Signals.{AreRead, leg_signals, part_bytes, reading_signals, signals, wire_in}

-- ---- data

-- 255 bytes: the most that a Block has
-- they have at most 255 bytes
pub fits_short : (form : Form) (bytes : List ℕ) → Fits form bytes → length bytes ≤ 255
fits_short Zero bytes fits = let taken = fits.taken in omega (arith, taken)
fits_short One bytes fits = let taken = fits.taken in omega (arith, taken)
fits_short Two bytes fits = let taken = fits.taken in omega (arith, taken)
fits_short Four bytes fits = let taken = fits.taken in omega (arith, taken)
fits_short Eight bytes fits = let taken = fits.taken in omega (arith, taken)
fits_short Block bytes fits = fits.taken

-- their wire at most one more
wire_short : (form : Form) (bytes : List ℕ) → length (wire form bytes) ≤ length bytes + 1
wire_short Zero bytes = omega arith
wire_short One bytes = omega arith
wire_short Two bytes = omega arith
wire_short Four bytes = omega arith
wire_short Eight bytes = omega arith
wire_short Block bytes = omega arith

pub wire_in_short : (form : Option Form) (bytes : List ℕ) → length (wire_in form bytes) ≤ length bytes + 1
wire_in_short None bytes = omega arith
wire_in_short (Some form) bytes = wire_short form bytes

-- a packet error code is one byte more
checked_short : (with_pec : Bool) (before bytes : List ℕ) → length (checked with_pec before bytes) ≤ length bytes + 1
checked_short false before bytes = omega arith
checked_short true before bytes = omega (arith, length-append {A = ℕ})

-- ---- legs

-- one signal a byte, and START
pub leg_length : (bytes : List ℕ) → length (leg_signals bytes) ≡ length bytes + 1
leg_length bytes = let many = length-map bytes Byte in omega (arith, many)

-- A part has an address of seven bits, and its data are those of a form.
pub record IsSmallPart (part : PartData) : Type 0 where
  pub seven_bits : part.addr < 128
  pub short : length part.bytes ≤ 255

module _ (profile : List DeviceParts) where
  -- 260: START, the address, the code, a count, 255 bytes, and a packet error code
  part_short : (part : PartData) → IsSmallPart part → length (leg_signals (part_bytes profile part)) ≤ 260
  part_short part small =
      let content = wire_in (forms_at profile part.addr part.code).write part.bytes in
      let many = leg_length (part_bytes profile part) in
      let coded = checked_short part.pec (write_address part.addr ∷ []) (part.code ∷ content) in
      let written = wire_in_short (forms_at profile part.addr part.code).write part.bytes in
      let short = small.short in
      omega (arith, many, coded, written, short)

  pub parts_short : (parts : List PartData) → AllByRecursion IsSmallPart parts
      → length (flat_map leg_signals (map (part_bytes profile) parts)) ≤ 260 * length parts
  parts_short [] small = omega arith
  parts_short (part ∷ parts) small =
      let first = part_short part small.0 in
      let others = parts_short parts small.1 in
      let both = length-append (leg_signals (part_bytes profile part))
      (flat_map leg_signals (map (part_bytes profile) parts)) in
      omega (arith, first, others, both)

-- ---- what is read

-- an Ask for each byte, and an answer to it
reading_length : (bytes : List ℕ) → length (reading_signals bytes) ≡ 2 * length bytes
reading_length [] = refl
reading_length (b ∷ []) = refl
reading_length (b ∷ c ∷ bytes) = let others = reading_length (c ∷ bytes) in omega (arith, others)

code_short : (with_pec : Bool) → (if with_pec then 1 else 0) ≤ 1
code_short false = omega arith
code_short true = omega arith

-- 257: a count, 255 bytes and a packet error code
pub read_short : (form : Option Form) (with_pec : Bool) (bytes : List ℕ) → AreRead form with_pec bytes
    → length bytes ≤ 257
read_short None with_pec bytes none = let no_bytes = ap length none in omega (arith, no_bytes)
read_short (Some form) with_pec bytes all =
    let many = ap length all.spelled ∙ length-append (wire form all.reply) all.code in
    let data_short = fits_short form all.reply all.fits in
    let data_wire = wire_short form all.reply in
    let code = all.one in
    let one = code_short with_pec in
    omega (arith, many, data_short, data_wire, code, one)

-- ---- all

-- after the legs are those with which bytes are read, and STOP
pub signals_length : (legs : List (List ℕ)) (bytes : List ℕ)
    → length (signals legs bytes) ≡ length (flat_map leg_signals legs) + 2 * length bytes + 1
signals_length legs bytes =
    let all = length-append (flat_map leg_signals legs) (reading_signals bytes ++ Stop ∷ []) in
    let reading = length-append (reading_signals bytes) (Stop ∷ []) in
    let asks = reading_length bytes in
    omega (arith, all, reading, asks)

-- a leg with a command, and that of the address for reading
pub two_legs : (address code back : ℕ) (content : List ℕ)
    → length (flat_map leg_signals ((address ∷ code ∷ content) ∷ (back ∷ []) ∷ [])) ≡ length content + 5
two_legs address code back content =
    let both = length-append (leg_signals (address ∷ code ∷ content)) (leg_signals (back ∷ [])) in
    let first = leg_length (address ∷ code ∷ content) in
    omega (arith, both, first)
