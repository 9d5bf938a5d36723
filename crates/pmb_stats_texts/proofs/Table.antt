-- Facts of which the same is told have the same table: for the law `one_table`.
use Rattle.std.proofs.Common.{◌≡◌, ℕ, ◌<◌, ◌&&◌, Option, Some, List, [], ◌∷◌, ◌++◌, ap, arith, codes, map}
use Rattle.std.proofs.Common.{decimal, length, refl, sym, ◌∙◌}
use Rattle.std.specs.List.{range_with_len}
use Rattle.std.proofs.lemmas.List.Folds.{flat_map-map}
use Rattle.pmb_command.specs.Parts.{CommandParts, DeviceParts}
use Rattle.pmb_command_data.specs.Bits.{bit_text_in}
use Rattle.pmb_facts.specs.Fact.{FactData}
use Rattle.pmb_io.specs.Count.{capped}
use Rattle.pmb_json_objects.specs.Object.{is_wanted}
use Rattle.pmb_json_text.specs.declared.item_order.ItemOrder.TheVariants.{First}
use Rattle.pmb_keeper.specs.Setting.{Setting}
use Rattle.pmb_log_data.specs.Text.{or_nothing}
use Rattle.pmb_mean.specs.Alike.{TellNumbersAlike}
use Rattle.pmb_mean.specs.MeanText.{some_text}
use Rattle.pmb_mean.specs.Numbers.{NumberData, count_assumed, greatest, last_value, least, mean}
use Rattle.pmb_note.specs.Note.{named_bit}
use Rattle.pmb_observed.specs.declared.spot.PageKey.{PageKey}
use Rattle.pmb_observed.specs.declared.spot.PhaseKey.{PhaseKey}
use Rattle.pmb_observed.specs.Observing.{first_time, last_time, observations}
use Rattle.pmb_observed.specs.Told.{device_bits, device_numbers}
use Rattle.pmb_quantity.specs.Fraction.{Fraction}
use Rattle.pmb_stats.specs.Alike.{TellAlike}
use Rattle.pmb_stats_bits.specs.Alike.{TellBitAlike}
use Rattle.pmb_stats_bits.specs.Bits.{RegisterRead, set_count}
use Rattle.pmb_stats_bits.specs.Bits.{first_time as first_set, gone_time, last_time as last_set}
use Rattle.pmb_stats_counts.specs.Counts.{has_come, of_device}
use Rattle.pmb_stats_table.specs.Counts.{counted as counted_text, counted_if}
use Rattle.pmb_stats_table.specs.Row.{after_gap, after_gaps, headed}
use Rattle.pmb_stats_table.specs.Rows.{bit_heading, bit_line, bit_row, count_text, number_heading, number_line}
use Rattle.pmb_stats_table.specs.Rows.{number_row, page_sign, phase_sign}
use Rattle.pmb_stats_table.specs.Table.{bit_lines, first_line, head, number_lines, paragraph, paragraphs, table_text}
use Rattle.pmb_stats_table.specs.Table.{times_say, total_line, wanted_paragraph}
use Rattle.pmb_stats_table.specs.Widths.{widths_of}
use Rattle.pmb_stats_texts.proofs.Counts as counted
use Rattle.pmb_stats_texts.proofs.Lists.{both, either, flat_alike, in_range}
use Rattle.pmb_stats_texts.proofs.Told.{bit_of, device_bits_alike, device_numbers_alike, numbers_of}

-- ---- rows

-- by the widths that a profile and a last time fix
module _ (names : List DeviceParts) (until : Option (List ℕ)) (page : PageKey) (phase : PhaseKey)
    (command : CommandParts) where
  -- a bit, by its count and times
  abbrev bit_text_line : ℕ → ℕ → Option (List ℕ) → Option (List ℕ) → Option (List ℕ) → List ℕ
  bit_text_line bit n first last gone =
      bit_line (widths_of names until) (page_sign page) (phase_sign phase) command.entry.name
      (named_bit (bit_text_in command.bits command.entry.code bit) bit) (decimal n) (or_nothing first)
      (or_nothing last) (or_nothing gone)

  bit_shown : (bit : ℕ) (reads others : List RegisterRead) → TellBitAlike reads others bit
      → bit_row (widths_of names until) (bit_of page phase command bit reads)
      ≡ bit_row (widths_of names until) (bit_of page phase command bit others)
  bit_shown bit reads others alike =
      let line = bit_text_line bit in
      ap (λ n. line n (first_set reads bit) (last_set reads bit) (gone_time reads bit)) alike.count
      ∙ (ap (λ t. line (capped (set_count others bit)) t (last_set reads bit) (gone_time reads bit)) alike.first
      ∙ (ap (λ t. line (capped (set_count others bit)) (first_set others bit) t (gone_time reads bit)) alike.last
      ∙ ap (λ t. line (capped (set_count others bit)) (first_set others bit) (last_set others bit) t) alike.gone))

  -- the numbers of a command, by what is told of them
  abbrev number_text_line : ℕ → ℕ → ℕ → Option Fraction → Option Fraction → Option Fraction → Option Fraction → List ℕ
  number_text_line digits n assumed low middle high last =
      number_line (widths_of names until) (page_sign page) (phase_sign phase) command.entry.name (decimal n)
      (count_text assumed) (some_text digits low) (some_text digits middle) (some_text digits high)
      (some_text digits last) (or_nothing command.unit)

  number_shown : (digits : ℕ) (numbers others : List NumberData) → TellNumbersAlike numbers others
      → number_row (widths_of names until) digits (numbers_of page phase command numbers)
      ≡ number_row (widths_of names until) digits (numbers_of page phase command others)
  number_shown digits numbers others alike =
      let line = number_text_line digits in
      ap (λ n. line n (count_assumed numbers) (least numbers) (mean numbers) (greatest numbers) (last_value numbers))
      alike.count
      ∙ (ap (λ n. line (length others) n (least numbers) (mean numbers) (greatest numbers) (last_value numbers))
      alike.assumed
      ∙ (ap (λ q. line (length others) (count_assumed others) q (mean numbers) (greatest numbers) (last_value numbers))
      alike.least
      ∙ (ap (λ q. line (length others) (count_assumed others) (least others) q (greatest numbers) (last_value numbers))
      alike.mean
      ∙ (ap (λ q. line (length others) (count_assumed others) (least others) (mean others) q (last_value numbers))
      alike.greatest
      ∙ ap (line (length others) (count_assumed others) (least others) (mean others) (greatest others)) alike.last))))

-- lines under their heading are those of what is shown
of_shown : {A : Type 0} (heading : List ℕ) (line : A → List ℕ) (values : List A)
    → headed heading line First values ≡ headed heading (λ (text : List ℕ). text) First (map line values)
of_shown heading line [] = refl
of_shown heading line (value ∷ values) =
    ap (λ lines. heading ++ (line value ++ lines)) (sym (flat_map-map (λ (text : List ℕ). text) line values))

headed_alike : {A : Type 0} (heading : List ℕ) (line : A → List ℕ) (values others : List A)
    → map line values ≡ map line others → headed heading line First values ≡ headed heading line First others
headed_alike heading line values others same =
    of_shown heading line values
    ∙ (ap (headed heading (λ (text : List ℕ). text) First) same ∙ sym (of_shown heading line others))

-- ---- paragraphs, and the whole

module _ (setting other : Setting) (facts others : List FactData) (alike : TellAlike setting other facts others) where
  head_shown : (addr : ℕ) → addr < 128 → head setting.profile addr facts ≡ head other.profile addr others
  head_shown addr small =
      both (ap (λ p. first_line p addr) alike.profile)
      (ap (λ (text : List ℕ). text ++ codes "\n")
      (counted.counts_say (of_device addr facts) (of_device addr others) (alike.devices addr small)))

  module _ (names : List DeviceParts) (until : Option (List ℕ)) where
    bits_shown : (addr : ℕ) → addr < 256
        → bit_lines setting facts (widths_of names until) addr ≡ bit_lines other others (widths_of names until) addr
    bits_shown addr small =
        headed_alike (bit_heading (widths_of names until)) (bit_row (widths_of names until))
        (device_bits setting.profile (observations setting facts) addr)
        (device_bits setting.profile (observations other others) addr)
        (device_bits_alike (bit_row (widths_of names until)) (bit_shown names until) setting.profile
        (observations setting facts) (observations other others) alike.spots addr small)
        ∙ ap (λ p. headed (bit_heading (widths_of names until)) (bit_row (widths_of names until)) First
        (device_bits p (observations other others) addr)) alike.profile

    numbers_shown : (digits addr : ℕ) → addr < 256 → number_lines setting facts (widths_of names until) digits addr
        ≡ number_lines other others (widths_of names until) digits addr
    numbers_shown digits addr small =
        headed_alike (number_heading (widths_of names until)) (number_row (widths_of names until) digits)
        (device_numbers setting.profile (observations setting facts) addr)
        (device_numbers setting.profile (observations other others) addr)
        (device_numbers_alike (number_row (widths_of names until) digits)
        (λ page phase command. number_shown names until page phase command digits) setting.profile
        (observations setting facts) (observations other others) alike.spots addr small)
        ∙ ap (λ p. headed (number_heading (widths_of names until)) (number_row (widths_of names until) digits) First
        (device_numbers p (observations other others) addr)) alike.profile

    paragraph_shown : (digits addr : ℕ) → addr < 128 → paragraph setting facts (widths_of names until) digits addr
        ≡ paragraph other others (widths_of names until) digits addr
    paragraph_shown digits addr small =
        ap (λ (text : List ℕ). text ++ codes "\n")
        (both (both (head_shown addr small) (bits_shown addr (omega arith)))
        (numbers_shown digits addr (omega arith)))

    wanted_shown : (digits : ℕ) (devices : List ℕ) (addr : ℕ) → addr < 128
        → wanted_paragraph setting facts (widths_of names until) digits devices addr
        ≡ wanted_paragraph other others (widths_of names until) digits devices addr
    wanted_shown digits devices addr small =
        either (paragraph setting facts (widths_of names until) digits addr)
        (paragraph other others (widths_of names until) digits addr)
        (is_wanted devices (Some addr) && has_come addr facts) (is_wanted devices (Some addr) && has_come addr others)
        [] (ap (λ b. is_wanted devices (Some addr) && b) (alike.come addr small)) (paragraph_shown digits addr small)

    paragraphs_shown : (digits : ℕ) (devices : List ℕ)
        → paragraphs setting facts (widths_of names until) digits devices
        ≡ paragraphs other others (widths_of names until) digits devices
    unfolding paragraphs
    paragraphs_shown digits devices =
        flat_alike (wanted_paragraph setting facts (widths_of names until) digits devices)
        (wanted_paragraph other others (widths_of names until) digits devices) (range_with_len 0 128)
        (in_range (λ addr. wanted_paragraph setting facts (widths_of names until) digits devices addr
        ≡ wanted_paragraph other others (widths_of names until) digits devices addr) 128 0 128 (omega arith)
        (wanted_shown digits devices))

  total_shown : total_line facts (first_time facts) (last_time facts)
      ≡ total_line others (first_time others) (last_time others)
  total_shown =
      ap (λ (text : List ℕ). text ++ codes "\n")
      (both (both (both
      (ap (λ n. codes "total" ++ after_gap (counted_text (codes "packets") n)) alike.totals.packets_are)
      (counted.counts_say facts others alike.totals.sorts))
      (ap (λ n. after_gaps (counted_if (codes "bad tokens") n)) alike.totals.bad_tokens_are))
      (ap (λ first. times_say first (last_time facts)) alike.first ∙ ap (times_say (first_time others)) alike.last))

  pub table_alike : (digits : ℕ) (devices : List ℕ)
      → table_text digits devices setting facts ≡ table_text digits devices other others
  table_alike digits devices =
      both
      (paragraphs_shown setting.profile (last_time facts) digits devices
      ∙ (ap (λ p. paragraphs other others (widths_of p (last_time facts)) digits devices) alike.profile
      ∙ ap (λ last. paragraphs other others (widths_of other.profile last) digits devices) alike.last))
      total_shown
