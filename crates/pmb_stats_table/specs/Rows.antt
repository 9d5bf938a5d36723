-- The lines of bits and of numbers, and the headings over them.
use Rattle.std.specs.Prelude.{ℕ, ◌==◌, if◌then◌else◌, List, [], ◌∷◌, ◌++◌, codes, decimal, length}
use Rattle.pmb_command_data.specs.Bits.{bit_text_in}
use Rattle.pmb_io.specs.Count.{capped}
use Rattle.pmb_log_data.specs.Text.{at_left, at_right, or_nothing}
use Rattle.pmb_mean.specs.MeanText.{mean_text, some_text}
use Rattle.pmb_mean.specs.Numbers.{count_assumed, greatest, last_value, least}
use Rattle.pmb_note.specs.Note.{named_bit}
use Rattle.pmb_observed.specs.declared.spot.PageKey.{PageKey}
use Rattle.pmb_observed.specs.declared.spot.PageKey.TheVariants.{OnPage, AllPages, UnknownPage, Unpaged}
use Rattle.pmb_observed.specs.declared.spot.PhaseKey.{PhaseKey}
use Rattle.pmb_observed.specs.declared.spot.PhaseKey.TheVariants.{OnPhase, AllPhases, UnknownPhase, Unphased}
use Rattle.pmb_observed.specs.Told.{BitData, NumbersData}
use Rattle.pmb_stats_bits.specs.Bits.{first_time, gone_time, last_time, set_count}
use Rattle.pmb_stats_table.specs.declared.widths.Widths.{Widths}
use Rattle.pmb_stats_table.specs.Row.{row}

-- ---- where it is

-- a phase at the right of its column, if there is one
abbrev pub phase_cells : ℕ → List ℕ → List (List ℕ)
phase_cells width phase = if width == 0 then [] else at_right width phase ∷ []

-- the first columns: where it is
abbrev pub spot_cells : Widths → (page phase command : List ℕ) → List (List ℕ)
spot_cells widths page phase command =
    at_right 4 page ∷ phase_cells widths.phase phase ++ at_left widths.command command ∷ []

-- a page is its number, `*` for all, `?` where it is not known or the device lacks it; what is not paged
-- has none
abbrev pub page_sign : PageKey → List ℕ
page_sign (OnPage page) = decimal page
page_sign AllPages = codes "*"
page_sign UnknownPage = codes "?"
page_sign Unpaged = []

-- .. and so is a phase
abbrev pub phase_sign : PhaseKey → List ℕ
phase_sign (OnPhase phase) = decimal phase
phase_sign AllPhases = codes "*"
phase_sign UnknownPhase = codes "?"
phase_sign Unphased = []

-- ---- bits

-- the columns of bits
abbrev pub bit_line : Widths → (page phase command bit count first last gone : List ℕ) → List ℕ
bit_line widths page phase command bit count first last gone =
    row (spot_cells widths page phase command ++ at_left 17 bit ∷ at_right 8 count ∷ at_right widths.time first
    ∷ at_right widths.time last ∷ at_right widths.time gone ∷ [])

abbrev pub bit_heading : Widths → List ℕ
bit_heading widths =
    bit_line widths (codes "page") (codes "phase") (codes "command") (codes "bit") (codes "count") (codes "first")
    (codes "last") (codes "gone")

-- the name of a bit: the profile's, or the standard's, or its number
abbrev pub bit_name : BitData → List ℕ
bit_name told = named_bit (bit_text_in told.command.bits told.command.entry.code told.bit) told.bit

-- a bit: how many reads found it set, when the first and the last of them came, and when the first read after
-- them found it clear
abbrev pub bit_row : Widths → BitData → List ℕ
bit_row widths told =
    bit_line widths (page_sign told.page) (phase_sign told.phase) told.command.entry.name (bit_name told)
    (decimal (capped (set_count told.reads told.bit))) (or_nothing (first_time told.reads told.bit))
    (or_nothing (last_time told.reads told.bit)) (or_nothing (gone_time told.reads told.bit))

-- ---- numbers

-- the columns of numbers
abbrev pub number_line : Widths → (page phase command count assumed least mean greatest last unit : List ℕ) → List ℕ
number_line widths page phase command count assumed least mean greatest last unit =
    row (spot_cells widths page phase command ++ at_right 8 count ∷ at_right 7 assumed ∷ at_right 10 least
    ∷ at_right 10 mean ∷ at_right 10 greatest ∷ at_right 10 last ∷ unit ∷ [])

abbrev pub number_heading : Widths → List ℕ
number_heading widths =
    number_line widths (codes "page") (codes "phase") (codes "command") (codes "count") (codes "assumed")
    (codes "least") (codes "mean") (codes "greatest") (codes "last") (codes "unit")

-- a count; nothing for 0
abbrev pub count_text : ℕ → List ℕ
count_text count = if count == 0 then [] else decimal count

-- a command: how many values it has, how many of them rest on an assumed VOUT_MODE, the least, the mean, the greatest
-- and the last of them
abbrev pub number_row : Widths → ℕ → NumbersData → List ℕ
number_row widths digits told =
    number_line widths (page_sign told.page) (phase_sign told.phase) told.command.entry.name
    (decimal (length told.numbers))
    (count_text (count_assumed told.numbers)) (some_text digits (least told.numbers)) (mean_text digits told.numbers)
    (some_text digits (greatest told.numbers)) (some_text digits (last_value told.numbers))
    (or_nothing told.command.unit)
