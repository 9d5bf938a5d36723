-- The state of a simulated device: the page that is selected, and what its registers hold.
--
-- Which registers a device has, and what they begin with, is this project's own rule; the standard
-- leaves it to the device. Pages are those of PMBus Part II 1.3 section 11.10.
use Rattle.std.specs.Prelude.{ℕ, Bool, true, ◌&&◌, if◌then◌else◌, Option, Some, None, List, [], ◌∷◌, map, nat_eq}
use Rattle.std.specs.Prelude.{nat_lt, option_map, slice_get}
use Rattle.std.specs.List.{find, flat_map, range_with_len}
use Rattle.std.specs.Option.{unwrap_or}
use Rattle.pmb_command.specs.declared.form.Form.{Form}
use Rattle.pmb_command.specs.declared.form.Form.TheVariants.{Zero, One, Two, Four, Eight, Block}
use Rattle.pmb_command.specs.Fitting.{register_form}
use Rattle.pmb_command.specs.Parts.{CommandParts, DeviceParts, initial_on}

-- What one register holds: the bytes of a command's value, low byte first, without the count of a
-- block. A command that is paged has a register for each page; another one has one for all pages.
pub record RegisterData : Type 0 where
  pub code : ℕ
  pub page : Option ℕ
  pub bytes : List ℕ

-- The page that is selected, one of the device's or ffh for all of them, and the registers: a
-- finite map from page and code to bytes, as a list in which each page and code stands once.
pub record DeviceState : Type 0 where
  pub page : ℕ
  pub registers : List RegisterData

-- ---- looking at a register

-- a register is of a page: of its own, or of any where it has none
abbrev pub is_of_page : ℕ → Option ℕ → Bool
is_of_page page None = true
is_of_page page (Some own) = nat_eq own page

-- what the register of a code holds on a page
abbrev pub held : ℕ → ℕ → List RegisterData → Option (List ℕ)
held page code registers = option_map (λ r. r.bytes)
    (find (λ r. nat_eq r.code code && is_of_page page r.page) registers)

-- The same for a page that the device has; for another one there is nothing.
abbrev pub register : DeviceParts → DeviceState → ℕ → ℕ → Option (List ℕ)
register device state page code = if nat_lt page device.pages then held page code state.registers else None

-- ---- how a device begins

-- zeros, as many as a form has bytes; a block begins empty
abbrev pub zeros : Form → List ℕ
zeros Zero = []
zeros One = 0 ∷ []
zeros Two = 0 ∷ 0 ∷ []
zeros Four = 0 ∷ 0 ∷ 0 ∷ 0 ∷ []
zeros Eight = 0 ∷ 0 ∷ 0 ∷ 0 ∷ 0 ∷ 0 ∷ 0 ∷ 0 ∷ []
zeros Block = []

-- VOUT_MODE of a page at first; 0 where the device has no such page
abbrev pub first_mode : DeviceParts → ℕ → ℕ
first_mode device page = unwrap_or (slice_get device.modes page) 0

-- What a code's register holds at first on a page: that of VOUT_MODE the page's mode, any other the
-- bytes that the profile gives it there, or else zeros.
abbrev pub first_bytes_at : DeviceParts → ℕ → ℕ → Option (List ℕ) → Form → List ℕ
first_bytes_at device page code initial form = if nat_eq code 0x20 then first_mode device page
    ∷ [] else unwrap_or initial (zeros form)

-- that of a command that the device has
abbrev pub first_bytes : DeviceParts → ℕ → CommandParts → Form → List ℕ
first_bytes device page command form =
    first_bytes_at device page command.entry.code (initial_on page command.initial) form

-- the page with whose bytes a register begins: its own, or page 0 where it is for all pages
abbrev pub first_page : Option ℕ → ℕ
first_page page = unwrap_or page 0

-- the pages for which a command has registers
abbrev pub own_pages : ℕ → Bool → List (Option ℕ)
own_pages pages paged = if paged then map Some (range_with_len 0 pages) else None ∷ []

-- The registers of a command in a form. One that is neither read nor written with data has no form
-- and no register.
abbrev pub registers_in : DeviceParts → CommandParts → Option Form → List RegisterData
registers_in device command None = []
registers_in device command (Some form) =
    map (λ page. record {
      code = command.entry.code;
      page = page;
      bytes =
          first_bytes device (first_page page) command form;
    })
    (own_pages device.pages command.entry.paged)

-- those in its own form
abbrev pub registers_of : DeviceParts → CommandParts → List RegisterData
registers_of device command = registers_in device command (register_form command.entry.shape)

-- A device begins on page 0, with the first values of its registers.
abbrev pub first_state : DeviceParts → DeviceState
first_state device = record { page = 0; registers = flat_map (registers_of device) device.commands }

-- a device, and its state
pub record InState : Type 0 where
  pub device : DeviceParts
  pub state : DeviceState
