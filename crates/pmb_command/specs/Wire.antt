-- Bytes, and how the data of a form go over the bus (SMBus 3.0 section 6.5).
use Rattle.std.specs.Prelude.{◌≡◌, ℕ, ◌+◌, ◌<◌, ◌≤◌, List, [], ◌∷◌, length}
use Rattle.std.specs.List.{AllByRecursion}
use Rattle.pmb_command.specs.declared.form.Form.{Form}
use Rattle.pmb_command.specs.declared.form.Form.TheVariants.{Zero, One, Two, Four, Eight, Block}

-- a byte is below 256
abbrev pub IsByte : ℕ → Type 0
IsByte b = b < 256

abbrev pub AreByteValues : List ℕ → Type 0
AreByteValues bytes = AllByRecursion IsByte bytes

-- A form takes so many bytes of data.
abbrev pub Takes : Form → ℕ → Type 0
Takes Zero n = n ≡ 0
Takes One n = n ≡ 1
Takes Two n = n ≡ 2
Takes Four n = n ≡ 4
Takes Eight n = n ≡ 8
Takes Block n = n ≤ 255

-- Data of a form are bytes, and as many as the form takes.
pub record Fits (form : Form) (bytes : List ℕ) : Type 0 where
  pub small : AreByteValues bytes
  pub taken : Takes form (length bytes)

-- The wire of a form: the data themselves, low byte first; those of a block after their count.
abbrev pub wire : Form → List ℕ → List ℕ
wire Zero bytes = bytes
wire One bytes = bytes
wire Two bytes = bytes
wire Four bytes = bytes
wire Eight bytes = bytes
wire Block bytes = length bytes ∷ bytes

-- How many bytes the wire of a form has that begins with some bytes. A block tells it by its count.
abbrev pub wire_length : Form → List ℕ → ℕ
wire_length Zero bytes = 0
wire_length One bytes = 1
wire_length Two bytes = 2
wire_length Four bytes = 4
wire_length Eight bytes = 8
wire_length Block [] = 1
wire_length Block (count ∷ bytes) = 1 + count
