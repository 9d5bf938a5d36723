-- Facts of which the same is told have the same objects: for the law `one_objects`.
use Rattle.std.proofs.Common.{◌≡◌, ℕ, ◌<◌, Option, List, [], ◌∷◌, ◌++◌, ap, arith, codes, length, ◌∙◌}
use Rattle.std.specs.List.{range_with_len}
use Rattle.pmb_command.specs.Parts.{CommandParts, DeviceParts}
use Rattle.pmb_command_data.specs.Bits.{bit_text_in}
use Rattle.pmb_facts.specs.Fact.{FactData}
use Rattle.pmb_io.specs.Count.{capped}
use Rattle.pmb_json_objects.specs.Members.{device_members, kind_member}
use Rattle.pmb_json_objects.specs.Object.{Object, object_lines, of_none}
use Rattle.pmb_json_objects.specs.Object.{of_device as object_of_device}
use Rattle.pmb_json_text.specs.Json.{Json, string}
use Rattle.pmb_json_text.specs.Member.{Member, count, named, object_of}
use Rattle.pmb_keeper.specs.Setting.{Setting}
use Rattle.pmb_mean.specs.Alike.{TellNumbersAlike}
use Rattle.pmb_mean.specs.Numbers.{NumberData, count_assumed}
use Rattle.pmb_note.specs.Note.{named_bit}
use Rattle.pmb_observed.specs.declared.spot.PageKey.{PageKey}
use Rattle.pmb_observed.specs.declared.spot.PhaseKey.{PhaseKey}
use Rattle.pmb_observed.specs.Observed.{Observation}
use Rattle.pmb_observed.specs.Observing.{observations}
use Rattle.pmb_observed.specs.Told.{device_pages}
use Rattle.pmb_stats.specs.Alike.{TellAlike}
use Rattle.pmb_stats_bits.specs.Alike.{TellBitAlike}
use Rattle.pmb_stats_bits.specs.Bits.{RegisterRead, set_count}
use Rattle.pmb_stats_bits.specs.Bits.{first_time as first_set, gone_time, last_time as last_set}
use Rattle.pmb_stats_counts.specs.Counts.{has_come, of_device, packets}
use Rattle.pmb_stats_objects.specs.Counts.{counts_members}
use Rattle.pmb_stats_objects.specs.Members.{count_member, fraction_member, list_member, text_member}
use Rattle.pmb_stats_objects.specs.Objects.{device_object, end_object, objects_text}
use Rattle.pmb_stats_objects.specs.Pages.{bit_item, command_members, numbers_item, page_if, page_item, page_items}
use Rattle.pmb_stats_room.specs.Alike.{TellSpotsAlike}
use Rattle.pmb_stats_texts.proofs.Counts as counted
use Rattle.pmb_stats_texts.proofs.Lists.{both, everywhere, flat_alike, in_range, some_alike}
use Rattle.pmb_stats_texts.proofs.Told.{bit_of, numbers_of, page_bits_alike, page_numbers_alike}

-- ---- items

module _ (page : PageKey) (phase : PhaseKey) (command : CommandParts) where
  -- a bit, by its count and times
  abbrev bit_object : ℕ → ℕ → Option (List ℕ) → Option (List ℕ) → Option (List ℕ) → Json
  bit_object bit n first last gone = object_of
      (command_members command.entry phase
      ++ (named (codes "bit") (string (named_bit (bit_text_in command.bits command.entry.code bit) bit))
      ∷ named (codes "count") (count n)
      ∷ text_member (codes "first") first ++ text_member (codes "last") last ++ text_member (codes "gone") gone))

  bit_shown : (bit : ℕ) (reads others : List RegisterRead) → TellBitAlike reads others bit
      → bit_item (bit_of page phase command bit reads) ≡ bit_item (bit_of page phase command bit others)
  bit_shown bit reads others alike =
      ap (λ n. bit_object bit n (first_set reads bit) (last_set reads bit) (gone_time reads bit)) alike.count
      ∙ (ap (λ t. bit_object bit (capped (set_count others bit)) t (last_set reads bit) (gone_time reads bit))
      alike.first
      ∙ (ap (λ t. bit_object bit (capped (set_count others bit)) (first_set others bit) t (gone_time reads bit))
      alike.last
      ∙ ap (λ t. bit_object bit (capped (set_count others bit)) (first_set others bit) (last_set others bit) t)
      alike.gone))

  -- the first members of numbers, after those of their command
  abbrev counts_first : ℕ → ℕ → List Member
  counts_first n assumed = named (codes "count") (count n) ∷ count_member (codes "assumed") assumed

  numbers_shown : (digits : ℕ) (numbers others : List NumberData) → TellNumbersAlike numbers others
      → numbers_item digits (numbers_of page phase command numbers)
      ≡ numbers_item digits (numbers_of page phase command others)
  numbers_shown digits numbers others alike =
      let counts : counts_first (length numbers) (count_assumed numbers)
      ≡ counts_first (length others) (count_assumed others)
      = ap (λ n. counts_first n (count_assumed numbers)) alike.count
      ∙ ap (counts_first (length others)) alike.assumed in
      ap (λ (members : List Member). object_of (command_members command.entry phase
      ++ (members ++ text_member (codes "unit") command.unit)))
      (both (both (both (both counts (ap (fraction_member digits (codes "least")) alike.least))
      (ap (fraction_member digits (codes "mean")) alike.mean))
      (ap (fraction_member digits (codes "greatest")) alike.greatest))
      (ap (fraction_member digits (codes "last")) alike.last))

-- ---- pages

module _ (digits : ℕ) (profile : List DeviceParts) (told others : List Observation)
    (alike : TellSpotsAlike profile told others) (addr : ℕ) (small : addr < 256) where
  page_shown : (page : PageKey) → page_item digits profile told addr page ≡ page_item digits profile others addr page
  page_shown page =
      ap (page_if page)
      (both (ap (list_member (codes "bits")) (page_bits_alike bit_item bit_shown profile told others alike addr
      small page))
      (ap (list_member (codes "numbers")) (page_numbers_alike (numbers_item digits)
      (λ page phase command. numbers_shown page phase command digits) profile told others alike addr small page)))

  pages_shown : page_items digits profile told addr ≡ page_items digits profile others addr
  pages_shown =
      flat_alike (page_item digits profile told addr) (page_item digits profile others addr)
      (device_pages profile addr)
      (everywhere (λ page. page_item digits profile told addr page ≡ page_item digits profile others addr page)
      (device_pages profile addr) page_shown)

-- ---- devices, and the whole

-- the first members of the whole
abbrev packets_first : ℕ → List Member → List Member
packets_first n counts = kind_member (codes "end") ++ named (codes "packets") (count n) ∷ counts

module _ (digits : ℕ) (setting other : Setting) (facts others : List FactData)
    (alike : TellAlike setting other facts others) where
  items_shown : (addr : ℕ) → addr < 256 → page_items digits setting.profile (observations setting facts) addr
      ≡ page_items digits other.profile (observations other others) addr
  items_shown addr small =
      pages_shown digits setting.profile (observations setting facts) (observations other others) alike.spots addr small
      ∙ ap (λ p. page_items digits p (observations other others) addr) alike.profile

  device_shown : (addr : ℕ) → addr < 128
      → device_object digits setting facts addr ≡ device_object digits other others addr
  device_shown addr small =
      ap (object_of_device addr)
      (both (both (ap (λ p. kind_member (codes "device") ++ device_members p addr) alike.profile)
      (counted.counts_members (of_device addr facts) (of_device addr others) (alike.devices addr small)))
      (ap (list_member (codes "pages")) (items_shown addr (omega arith))))

  end_shown : end_object facts ≡ end_object others
  end_shown =
      let counts : packets_first (capped (packets facts)) (counts_members facts)
      ≡ packets_first (capped (packets others)) (counts_members others)
      = ap (λ n. packets_first n (counts_members facts)) alike.totals.packets_are
      ∙ ap (packets_first (capped (packets others))) (counted.counts_members facts others alike.totals.sorts) in
      ap of_none
      (both (both (both counts (ap (count_member (codes "bad_tokens")) alike.totals.bad_tokens_are))
      (ap (text_member (codes "first")) alike.first)) (ap (text_member (codes "last")) alike.last))

  pub objects_alike : (devices : List ℕ)
      → objects_text digits setting facts devices ≡ objects_text digits other others devices
  objects_alike devices =
      ap (object_lines devices)
      (both
      (some_alike (λ addr. has_come addr facts) (λ addr. has_come addr others) (device_object digits setting facts)
      (device_object digits other others) (range_with_len 0 128)
      (in_range (λ addr. (has_come addr facts ≡ has_come addr others)
      × (device_object digits setting facts addr ≡ device_object digits other others addr)) 128 0 128 (omega arith)
      (λ addr small. (alike.come addr small, device_shown addr small))))
      (ap (λ (o : Object). o ∷ []) end_shown))
