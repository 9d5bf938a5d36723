-- Where the pages and the phases of a command lie.
use Rattle.std.specs.Prelude.{ℕ, ◌+◌, ◌*◌, nat_lt, if◌then◌else◌, Option, Some, None}
use Rattle.pmb_command.specs.Parts.{CommandParts, DeviceParts}
use Rattle.pmb_observed.specs.declared.spot.PageKey.{PageKey}
use Rattle.pmb_observed.specs.declared.spot.PageKey.TheVariants.{OnPage, AllPages, UnknownPage, Unpaged}
use Rattle.pmb_observed.specs.declared.spot.PhaseKey.{PhaseKey}
use Rattle.pmb_observed.specs.declared.spot.PhaseKey.TheVariants.{OnPhase, AllPhases, UnknownPhase, Unphased}
use Rattle.pmb_observed.specs.declared.spot.Spot.{Spot}
use Rattle.pmb_observed.specs.Spot.{phases_of}
use Rattle.pmb_stats_room.specs.declared.places.Places.{Places}

-- ---- pages

abbrev pub page_place : Option ℕ → PageKey → Option ℕ
page_place (Some pages) (OnPage page) = if nat_lt page pages then Some page else None
page_place (Some pages) AllPages = Some pages
page_place (Some pages) UnknownPage = Some (pages + 1)
page_place (Some pages) Unpaged = None
page_place None (OnPage page) = None
page_place None AllPages = None
page_place None UnknownPage = None
page_place None Unpaged = Some 0

abbrev pub page_count : Option ℕ → ℕ
page_count (Some pages) = pages + 2
page_count None = 1

-- ---- phases

abbrev pub phase_place : Option ℕ → PhaseKey → Option ℕ
phase_place (Some phases) (OnPhase phase) = if nat_lt phase phases then Some phase else None
phase_place (Some phases) AllPhases = Some phases
phase_place (Some phases) UnknownPhase = Some (phases + 1)
phase_place (Some phases) Unphased = None
phase_place None (OnPhase phase) = None
phase_place None AllPhases = None
phase_place None UnknownPhase = None
phase_place None Unphased = Some 0

abbrev pub phase_count : Option ℕ → ℕ
phase_count (Some phases) = phases + 2
phase_count None = 1

-- ---- both

-- the place in rows of a width, where there is the row, and in it the column
abbrev pub place_in : ℕ → Option ℕ → Option ℕ → Option ℕ
place_in width None column = None
place_in width (Some row) None = None
place_in width (Some row) (Some column) = Some (row * width + column)

-- a row for each page, and in it all phases
abbrev pub place : Places → Spot → Option ℕ
place places spot =
    place_in (phase_count places.phases) (page_place places.pages spot.page) (phase_place places.phases spot.phase)

abbrev pub place_count : Places → ℕ
place_count places = page_count places.pages * phase_count places.phases

-- those of a command of a device
abbrev pub places_of : DeviceParts → CommandParts → Places
places_of device command = record {
  pages = if command.entry.paged then Some device.pages else None;
  phases = phases_of device command;
}
