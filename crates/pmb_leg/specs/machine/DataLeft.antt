-- What is left of data in a form and of the packet error code after them, as the code counts it.
use Rattle.std.specs.Prelude.{◌≡◌, ℕ, ◌+◌, ◌-◌, ◌<◌, ◌⊎◌, Bool, true, false, if◌then◌else◌, nat_eq, nat_lt, Option}
use Rattle.std.specs.Prelude.{Some, None, List, [], ◌∷◌, ◌++◌, length}
use Rattle.pmb_command.specs.declared.form.Form.{Form}
use Rattle.pmb_command.specs.declared.form.Form.TheVariants.{Zero, One, Two, Four, Eight, Block}
use Rattle.pmb_command.specs.declared.pec_mode.PecMode.{PecMode}
use Rattle.pmb_command.specs.declared.pec_mode.PecMode.TheVariants.{Off, On, Optional}
use Rattle.pmb_command.specs.PecMode.{AllowsPec}
use Rattle.pmb_command.specs.Wire.{AreByteValues, Fits, Takes, wire}
use Rattle.pmb_transaction.specs.Body.{IsProperPrefix, checked}
use Rattle.pmb_leg.specs.declared.left.DataLeft.{DataLeft}
use Rattle.pmb_leg.specs.declared.left.DataLeft.TheVariants.{Count, Data, Code, Nothing, Closed}

-- ---- the code's steps

abbrev pub ends_data : PecMode → DataLeft
ends_data Off = Nothing
ends_data On = Code
ends_data Optional = Code

abbrev pub start : Option Form → PecMode → DataLeft
start None mode = Closed
start (Some Zero) mode = ends_data mode
start (Some One) mode = Data 1
start (Some Two) mode = Data 2
start (Some Four) mode = Data 4
start (Some Eight) mode = Data 8
start (Some Block) mode = Count

abbrev pub takes : DataLeft → ℕ → ℕ → Bool
takes Count crc byte = true
takes (Data n) crc byte = true
takes Code crc byte = nat_eq byte crc
takes Nothing crc byte = false
takes Closed crc byte = false

abbrev pub after : DataLeft → PecMode → ℕ → ℕ → DataLeft
after Count mode crc byte = if nat_eq byte 0 then ends_data mode else Data byte
after (Data n) mode crc byte = if nat_lt 1 n then Data (n - 1) else ends_data mode
after Code mode crc byte = if nat_eq byte crc then Nothing else Closed
after Nothing mode crc byte = Closed
after Closed mode crc byte = Closed

abbrev pub goes_on : DataLeft → Bool
goes_on Count = true
goes_on (Data n) = true
goes_on Code = true
goes_on Nothing = false
goes_on Closed = false

abbrev pub is_whole : DataLeft → PecMode → Bool
is_whole Count mode = false
is_whole (Data n) mode = false
is_whole Code Off = false
is_whole Code On = false
is_whole Code Optional = true
is_whole Nothing mode = true
is_whole Closed mode = false

-- whether a packet error code was taken, where nothing more has to come
abbrev pub has_code : DataLeft → PecMode → Bool
has_code Count mode = false
has_code (Data n) mode = false
has_code Code mode = false
has_code Nothing Off = false
has_code Nothing On = true
has_code Nothing Optional = true
has_code Closed mode = false

-- ---- what is left, of what was taken

-- Bytes spell data in a form, and after them the packet error code, if there is one, which covers
-- bytes before them too.
pub record SpellsData (form : Form) (mode : PecMode) (before : List ℕ) (whole : List ℕ) (with_pec : Bool)
    (bytes : List ℕ) : Type 0 where
  pub fits : Fits form whole
  pub allowed : AllowsPec mode with_pec
  pub spelled : bytes ≡ checked with_pec before (wire form whole)

-- some data
abbrev pub SpellsSomeData : Form → PecMode → List ℕ → List ℕ → Type 0
SpellsSomeData form mode before bytes = (whole : List ℕ) × (with_pec : Bool)
    × SpellsData form mode before whole with_pec bytes

-- some such data begin with the bytes
abbrev pub BeginsData : Form → PecMode → List ℕ → List ℕ → Type 0
BeginsData form mode before bytes = (all : List ℕ) × (rest : List ℕ) × SpellsSomeData form mode before all
    × (all ≡ bytes ++ rest)

-- and continue after them
abbrev pub IsInside : Form → PecMode → List ℕ → List ℕ → Type 0
IsInside form mode before bytes = (all : List ℕ) × SpellsSomeData form mode before all × IsProperPrefix bytes all

-- the first bytes of the wire of a form that has so many bytes of data
abbrev pub wire_front : Form → ℕ → List ℕ → List ℕ
wire_front Zero n bytes = bytes
wire_front One n bytes = bytes
wire_front Two n bytes = bytes
wire_front Four n bytes = bytes
wire_front Eight n bytes = bytes
wire_front Block n bytes = n ∷ bytes

-- So many bytes of data are missing.
pub record IsMissing (form : Form) (n : ℕ) (bytes : List ℕ) : Type 0 where
  pub front : List ℕ
  pub small : AreByteValues front
  pub some : 0 < n
  pub taken : Takes form (length front + n)
  pub spelled : bytes ≡ wire_front form (length front + n) front

-- The data are whole, and a packet error code may follow.
pub record IsData (form : Form) (mode : PecMode) (bytes : List ℕ) : Type 0 where
  pub whole : List ℕ
  pub fits : Fits form whole
  pub allowed : AllowsPec mode true
  pub spelled : bytes ≡ wire form whole

-- Nothing may follow: after the data stands their packet error code, or the mode allows none.
pub record IsEnded (form : Form) (mode : PecMode) (before : List ℕ) (bytes : List ℕ) : Type 0 where
  pub whole : List ℕ
  pub with_pec : Bool
  pub spells : SpellsData form mode before whole with_pec bytes
  pub last : (with_pec ≡ true) ⊎ (mode ≡ Off)

-- what the code says is left, of the bytes that were taken
abbrev pub Leaves : Form → PecMode → List ℕ → List ℕ → DataLeft → Type 0
Leaves form mode before bytes Count = (form ≡ Block) × (bytes ≡ [])
Leaves form mode before bytes (Data n) = IsMissing form n bytes
Leaves form mode before bytes Code = IsData form mode bytes
Leaves form mode before bytes Nothing = IsEnded form mode before bytes
Leaves form mode before bytes Closed = BeginsData form mode before bytes → ⊥

-- where there is no form, nothing begins
abbrev pub LeavesOf : Option Form → PecMode → List ℕ → List ℕ → DataLeft → Type 0
LeavesOf None mode before bytes left = left ≡ Closed
LeavesOf (Some form) mode before bytes left = Leaves form mode before bytes left
