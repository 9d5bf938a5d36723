-- The pages of a device: its bits that were read set, and its numbers.
use Rattle.std.specs.Prelude.{ℕ, List, [], ◌∷◌, ◌++◌, codes, flat_map, length, map}
use Rattle.pmb_command.specs.Entry.{EntryParts}
use Rattle.pmb_command.specs.Parts.{DeviceParts}
use Rattle.pmb_command_data.specs.Bits.{bit_text_in}
use Rattle.pmb_io.specs.Count.{capped}
use Rattle.pmb_json_objects.specs.Members.{code_member}
use Rattle.pmb_json_text.specs.Json.{Json, null, string}
use Rattle.pmb_json_text.specs.Member.{Member, count, named, object_of}
use Rattle.pmb_mean.specs.Numbers.{count_assumed, greatest, last_value, least, mean}
use Rattle.pmb_note.specs.Note.{named_bit}
use Rattle.pmb_observed.specs.declared.spot.PageKey.{PageKey}
use Rattle.pmb_observed.specs.declared.spot.PageKey.TheVariants.{OnPage, AllPages, UnknownPage, Unpaged}
use Rattle.pmb_observed.specs.declared.spot.PhaseKey.{PhaseKey}
use Rattle.pmb_observed.specs.declared.spot.PhaseKey.TheVariants.{OnPhase, AllPhases, UnknownPhase, Unphased}
use Rattle.pmb_observed.specs.Observed.{Observation}
use Rattle.pmb_observed.specs.Told.{BitData, NumbersData, device_pages, page_bits, page_numbers}
use Rattle.pmb_stats_bits.specs.Bits.{first_time, gone_time, last_time, set_count}
use Rattle.pmb_stats_objects.specs.Members.{count_member, fraction_member, list_member, text_member}

-- which phase it is; nothing for commands that have no phases
abbrev pub phase_member : PhaseKey → List Member
phase_member (OnPhase phase) = named (codes "phase") (count phase) ∷ []
phase_member AllPhases = named (codes "phase") (string (codes "all")) ∷ []
phase_member UnknownPhase = named (codes "phase") null ∷ []
phase_member Unphased = []

-- a command's code and name, and its phase
abbrev pub command_members : EntryParts → PhaseKey → List Member
command_members entry phase =
    code_member entry.code ++ named (codes "command") (string entry.name) ∷ phase_member phase

-- ---- bits

-- the name of a bit: the profile's, or the standard's, or its number
abbrev pub bit_name : BitData → List ℕ
bit_name b = named_bit (bit_text_in b.command.bits b.command.entry.code b.bit) b.bit

-- a bit: how many reads found it set, when the first and the last of them were, and when the first read after
-- them found it clear
abbrev pub bit_members : BitData → List Member
bit_members b =
    named (codes "bit") (string (bit_name b)) ∷ named (codes "count") (count (capped (set_count b.reads b.bit)))
    ∷ text_member (codes "first") (first_time b.reads b.bit)
    ++ text_member (codes "last") (last_time b.reads b.bit) ++ text_member (codes "gone") (gone_time b.reads b.bit)

abbrev pub bit_item : BitData → Json
bit_item b = object_of (command_members b.command.entry b.phase ++ bit_members b)

-- ---- numbers

-- the numbers of a command: how many there are and how many of them are assumed, the least of them, their mean, the
-- greatest, the last, and their unit
abbrev pub numbers_members : ℕ → NumbersData → List Member
numbers_members digits n =
    named (codes "count") (count (length n.numbers)) ∷ count_member (codes "assumed") (count_assumed n.numbers)
    ++ fraction_member digits (codes "least") (least n.numbers)
    ++ fraction_member digits (codes "mean") (mean n.numbers)
    ++ fraction_member digits (codes "greatest") (greatest n.numbers)
    ++ fraction_member digits (codes "last") (last_value n.numbers) ++ text_member (codes "unit") n.command.unit

abbrev pub numbers_item : ℕ → NumbersData → Json
numbers_item digits n = object_of (command_members n.command.entry n.phase ++ numbers_members digits n)

-- ---- pages

-- which page it is; nothing for commands that are not paged
abbrev pub page_member : PageKey → List Member
page_member (OnPage page) = named (codes "page") (count page) ∷ []
page_member AllPages = named (codes "page") (string (codes "all")) ∷ []
page_member UnknownPage = named (codes "page") null ∷ []
page_member Unpaged = []

-- what a page has, each list left out where it is empty
abbrev pub found_members : ℕ → List BitData → List NumbersData → List Member
found_members digits bits numbers =
    list_member (codes "bits") (map bit_item bits) ++ list_member (codes "numbers") (map (numbers_item digits) numbers)

-- a page, left out where it has nothing
abbrev pub page_if : PageKey → List Member → List Json
page_if page [] = []
page_if page (member ∷ more) = object_of (page_member page ++ member ∷ more) ∷ []

-- by the profile, and what was told of it
module _ (digits : ℕ) (profile : List DeviceParts) (told : List Observation) (addr : ℕ) where
  abbrev pub page_item : PageKey → List Json
  page_item page = page_if page
      (found_members digits (page_bits profile told addr page) (page_numbers profile told addr page))

  -- those of a device
  abbrev pub page_items : List Json
  page_items = flat_map page_item (device_pages profile addr)
