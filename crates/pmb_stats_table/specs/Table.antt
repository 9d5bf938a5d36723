-- The table of a capture: a paragraph for each device, and a line of the whole.
use Rattle.std.specs.Prelude.{ℕ, ◌&&◌, if◌then◌else◌, Option, Some, None, List, [], ◌∷◌, ◌++◌, codes}
use Rattle.std.specs.List.{flat_map, range_with_len}
use Rattle.pmb_command.specs.Parts.{DeviceParts}
use Rattle.pmb_facts.specs.Fact.{FactData}
use Rattle.pmb_io.specs.Count.{capped}
use Rattle.pmb_json_objects.specs.Object.{is_wanted}
use Rattle.pmb_json_text.specs.declared.item_order.ItemOrder.TheVariants.{First}
use Rattle.pmb_keeper.specs.Setting.{Setting}
use Rattle.pmb_log_data.specs.Text.{byte_digits, or_nothing}
use Rattle.pmb_log_lines.specs.Columns.{name_at}
use Rattle.pmb_observed.specs.Observing.{first_time, last_time, observations}
use Rattle.pmb_observed.specs.Told.{device_bits, device_numbers}
use Rattle.pmb_stats_counts.specs.Counts.{bad_tokens, has_come, of_device, packets}
use Rattle.pmb_stats_table.specs.declared.widths.Widths.{Widths}
use Rattle.pmb_stats_table.specs.Counts.{counted, counted_if, counts_say}
use Rattle.pmb_stats_table.specs.Row.{after_gap, after_gaps, headed}
use Rattle.pmb_stats_table.specs.Rows.{bit_heading, bit_row, number_heading, number_row}
use Rattle.pmb_stats_table.specs.Widths.{widths_of}

-- ---- a device

-- a name after two blanks, if there is one
abbrev pub name_says : List ℕ → List ℕ
name_says [] = []
name_says (first ∷ name) = after_gap (first ∷ name)

-- the address, and the name
abbrev pub first_line : List DeviceParts → ℕ → List ℕ
first_line profile addr = byte_digits addr ++ name_says (name_at profile (Some addr)) ++ codes "\n"

-- the counts of what came of a device
abbrev pub second_line : List FactData → List ℕ
second_line facts = counts_say facts ++ codes "\n"

-- both
abbrev pub head : List DeviceParts → ℕ → List FactData → List ℕ
head profile addr facts = first_line profile addr ++ second_line (of_device addr facts)

module _ (setting : Setting) (facts : List FactData) where
  -- a line for each bit of a device, over all its pages, under their heading
  abbrev pub bit_lines : Widths → ℕ → List ℕ
  bit_lines widths addr =
      headed (bit_heading widths) (bit_row widths) First
      (device_bits setting.profile (observations setting facts) addr)

  -- .. and for the numbers of each command
  abbrev pub number_lines : Widths → ℕ → ℕ → List ℕ
  number_lines widths digits addr =
      headed (number_heading widths) (number_row widths digits) First
      (device_numbers setting.profile (observations setting facts) addr)

  -- all of a device, and an empty line
  abbrev pub paragraph : Widths → ℕ → ℕ → List ℕ
  paragraph widths digits addr =
      head setting.profile addr facts ++ bit_lines widths addr ++ number_lines widths digits addr ++ codes "\n"

  -- .. if its paragraph is wanted, and something of it came
  abbrev pub wanted_paragraph : Widths → ℕ → List ℕ → ℕ → List ℕ
  wanted_paragraph widths digits devices addr =
      if is_wanted devices (Some addr) && has_come addr facts then paragraph widths digits addr else []

  -- those of all addresses of seven bits
  unfoldable pub paragraphs : Widths → ℕ → List ℕ → List ℕ
  paragraphs widths digits devices = flat_map (wanted_paragraph widths digits devices) (range_with_len 0 128)

-- ---- the whole

-- the first time and the last, if there are any
abbrev pub times_say : Option (List ℕ) → Option (List ℕ) → List ℕ
times_say None last = []
times_say (Some first) last = after_gap (codes "first " ++ first) ++ after_gap (codes "last " ++ or_nothing last)

-- packets, even if there are none, the counts of all that came, words that are no token, times
abbrev pub total_line : List FactData → Option (List ℕ) → Option (List ℕ) → List ℕ
total_line facts first last =
    codes "total" ++ after_gap (counted (codes "packets") (capped (packets facts))) ++ counts_say facts
    ++ after_gaps (counted_if (codes "bad tokens") (capped (bad_tokens facts))) ++ times_say first last ++ codes "\n"

-- ---- both

-- With so many digits after the point; of these devices, or of all where there is none of these.
abbrev pub table_text : ℕ → List ℕ → Setting → List FactData → List ℕ
table_text digits devices setting facts =
    paragraphs setting facts (widths_of setting.profile (last_time facts)) digits devices
    ++ total_line facts (first_time facts) (last_time facts)
