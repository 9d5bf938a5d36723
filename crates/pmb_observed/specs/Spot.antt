-- What data belong to: a command of a device, on a page, in a phase.
use Rattle.std.specs.Prelude.{ℕ, ◌==◌, nat_lt, ◌&&◌, Bool, true, false, not, if◌then◌else◌, Option, Some, None, List}
use Rattle.std.specs.Prelude.{[], ◌∷◌, ◌++◌, map}
use Rattle.std.specs.List.{range_with_len}
use Rattle.pmb_command.specs.declared.entry.Kind.{Kind}
use Rattle.pmb_command.specs.declared.entry.Kind.TheVariants.{Raw, Number, Vout, VoutSigned, Status, Text}
use Rattle.pmb_command.specs.Parts.{CommandParts, DeviceParts, device_with}
use Rattle.pmb_command_data.specs.Phases.{has_phases}
use Rattle.pmb_json_objects.specs.Seen.{command_of}
use Rattle.pmb_observed.specs.declared.spot.PageKey.{PageKey}
use Rattle.pmb_observed.specs.declared.spot.PageKey.TheVariants.{OnPage, AllPages, UnknownPage, Unpaged}
use Rattle.pmb_observed.specs.declared.spot.PhaseKey.{PhaseKey}
use Rattle.pmb_observed.specs.declared.spot.PhaseKey.TheVariants.{OnPhase, AllPhases, UnknownPhase, Unphased}
use Rattle.pmb_observed.specs.declared.spot.Spot.{Spot}

-- ---- pages

abbrev pub same_page : PageKey → PageKey → Bool
same_page (OnPage page) (OnPage other) = page == other
same_page (OnPage page) AllPages = false
same_page (OnPage page) UnknownPage = false
same_page (OnPage page) Unpaged = false
same_page AllPages (OnPage other) = false
same_page AllPages AllPages = true
same_page AllPages UnknownPage = false
same_page AllPages Unpaged = false
same_page UnknownPage (OnPage other) = false
same_page UnknownPage AllPages = false
same_page UnknownPage UnknownPage = true
same_page UnknownPage Unpaged = false
same_page Unpaged (OnPage other) = false
same_page Unpaged AllPages = false
same_page Unpaged UnknownPage = false
same_page Unpaged Unpaged = true

-- the pages of a device with so many, in the order of output
abbrev pub page_keys : ℕ → List PageKey
page_keys pages = map OnPage (range_with_len 0 pages) ++ AllPages ∷ UnknownPage ∷ Unpaged ∷ []

-- whether data of a command may belong to a page: by how many pages the device has, and whether the
-- command is paged
abbrev pub has_page : ℕ → Bool → PageKey → Bool
has_page pages paged (OnPage page) = paged && nat_lt page pages
has_page pages paged AllPages = paged
has_page pages paged UnknownPage = paged
has_page pages paged Unpaged = not paged

-- the page that PAGE selects, on a device with so many pages
abbrev pub selected_page : ℕ → Option ℕ → PageKey
selected_page pages None = UnknownPage
selected_page pages (Some page) =
    if page == 255 then AllPages else (if nat_lt page pages then OnPage page else UnknownPage)

-- .. for a command that is paged, or isn't
abbrev pub page_key : ℕ → Bool → Option ℕ → PageKey
page_key pages true selected = selected_page pages selected
page_key pages false selected = Unpaged

-- ---- phases

abbrev pub same_phase : PhaseKey → PhaseKey → Bool
same_phase (OnPhase phase) (OnPhase other) = phase == other
same_phase (OnPhase phase) AllPhases = false
same_phase (OnPhase phase) UnknownPhase = false
same_phase (OnPhase phase) Unphased = false
same_phase AllPhases (OnPhase other) = false
same_phase AllPhases AllPhases = true
same_phase AllPhases UnknownPhase = false
same_phase AllPhases Unphased = false
same_phase UnknownPhase (OnPhase other) = false
same_phase UnknownPhase AllPhases = false
same_phase UnknownPhase UnknownPhase = true
same_phase UnknownPhase Unphased = false
same_phase Unphased (OnPhase other) = false
same_phase Unphased AllPhases = false
same_phase Unphased UnknownPhase = false
same_phase Unphased Unphased = true

-- how many phases a command of a device has; none for a command that has one value for all phases
abbrev pub phases_of : DeviceParts → CommandParts → Option ℕ
phases_of device command = if has_phases device command then device.phases else None

-- the phases of a command with so many, in the order of output
abbrev pub phase_keys : Option ℕ → List PhaseKey
phase_keys None = Unphased ∷ []
phase_keys (Some phases) = map OnPhase (range_with_len 0 phases) ++ AllPhases ∷ UnknownPhase ∷ []

-- whether its data may belong to a phase
abbrev pub has_phase : Option ℕ → PhaseKey → Bool
has_phase None (OnPhase phase) = false
has_phase None AllPhases = false
has_phase None UnknownPhase = false
has_phase None Unphased = true
has_phase (Some phases) (OnPhase phase) = nat_lt phase phases
has_phase (Some phases) AllPhases = true
has_phase (Some phases) UnknownPhase = true
has_phase (Some phases) Unphased = false

-- the phase that PHASE selects, where there are so many
abbrev pub selected_phase : ℕ → Option ℕ → PhaseKey
selected_phase phases None = UnknownPhase
selected_phase phases (Some phase) =
    if phase == 255 then AllPhases else (if nat_lt phase phases then OnPhase phase else UnknownPhase)

-- .. for a command that has phases, or hasn't
abbrev pub phase_key : Option ℕ → Option ℕ → PhaseKey
phase_key None selected = Unphased
phase_key (Some phases) selected = selected_phase phases selected

-- ---- spots

abbrev pub spot_at : ℕ → ℕ → PageKey → PhaseKey → Spot
spot_at addr code page phase = record { addr = addr; code = code; page = page; phase = phase }

-- two spots of a command are the same
abbrev pub same_place : Spot → Spot → Bool
same_place spot other = same_page spot.page other.page && same_phase spot.phase other.phase

abbrev pub same_spot : Spot → Spot → Bool
same_spot spot other = (spot.addr == other.addr) && ((spot.code == other.code) && same_place spot other)

-- whether data of a command of a device may belong to the page and the phase of a spot
abbrev pub has_place : DeviceParts → CommandParts → Spot → Bool
has_place device command spot =
    has_page device.pages command.entry.paged spot.page && has_phase (phases_of device command) spot.phase

-- a command of a device, where its data may belong there
abbrev pub command_if : DeviceParts → Spot → Option CommandParts → Option CommandParts
command_if device spot None = None
command_if device spot (Some command) = if has_place device command spot then Some command else None

abbrev pub command_in : Option DeviceParts → Spot → Option CommandParts
command_in None spot = None
command_in (Some device) spot = command_if device spot (command_of (Some device) spot.code)

-- the command at a spot, if a profile has it there
abbrev pub command_on : List DeviceParts → Spot → Option CommandParts
command_on profile spot = command_in (device_with spot.addr profile) spot

-- ---- status registers, and commands that have numbers

abbrev pub is_register : Kind → Bool
is_register Raw = false
is_register (Number format) = false
is_register Vout = false
is_register VoutSigned = false
is_register Status = true
is_register Text = false

abbrev pub is_numeric : Kind → Bool
is_numeric Raw = false
is_numeric (Number format) = true
is_numeric Vout = true
is_numeric VoutSigned = true
is_numeric Status = false
is_numeric Text = false

abbrev pub is_of : (Kind → Bool) → Option CommandParts → Bool
is_of is None = false
is_of is (Some command) = is command.entry.kind

abbrev pub has_register : List DeviceParts → Spot → Bool
has_register profile spot = is_of is_register (command_on profile spot)

abbrev pub has_numbers : List DeviceParts → Spot → Bool
has_numbers profile spot = is_of is_numeric (command_on profile spot)
