-- Each object is JSON with distinct keys, item by item: for the law `objects_are_json`.
use Rattle.std.proofs.Common.{◌≡◌, ℕ, true, None, List, []}
use Rattle.std.proofs.Common.{◌∷◌, ◌++◌, arith, codes, filter, length, map, refl}
use Rattle.std.specs.List.{AllByRecursion, flat_map, range_with_len}
use Rattle.pmb_command.specs.Bus.{IsBus}
use Rattle.pmb_command.specs.Entry.{EntryParts}
use Rattle.pmb_command.specs.Parts.{DeviceParts, device_with}
use Rattle.pmb_facts.specs.Fact.{FactData}
use Rattle.pmb_io.specs.Count.{capped}
use Rattle.pmb_json_objects.specs.Laws.{IsJsonObject}
use Rattle.pmb_json_objects.specs.Members.{kind_member}
use Rattle.pmb_json_objects.proofs.Below.{FewerAreDistinct, TestedAreDistinct}
use Rattle.pmb_json_objects.proofs.Fine.{DigitsAreNumbers, all_of_both, are_bytes, fine_count}
use Rattle.pmb_json_objects.proofs.Fine.{fine_digits}
use Rattle.pmb_json_objects.proofs.Fine.{fine_null, fine_text, fine_word}
use Rattle.pmb_json_objects.proofs.Shared.{fine_device, keys_of_device, name_keys}
use Rattle.pmb_json_text.specs.Member.{Member}
use Rattle.pmb_json_text.specs.Spelling.{AreBytes}
use Rattle.pmb_keeper.specs.Setting.{Setting}
use Rattle.pmb_mean.specs.Numbers.{count_assumed}
use Rattle.pmb_observed.specs.declared.spot.PageKey.{PageKey}
use Rattle.pmb_observed.specs.declared.spot.PageKey.TheVariants.{AllPages, OnPage, Unpaged, UnknownPage}
use Rattle.pmb_observed.specs.declared.spot.PhaseKey.{PhaseKey}
use Rattle.pmb_observed.specs.declared.spot.PhaseKey.TheVariants.{AllPhases, OnPhase, UnknownPhase, Unphased}
use Rattle.pmb_observed.specs.Observed.{Observation}
use Rattle.pmb_observed.specs.Observing.{observations, times}
use Rattle.pmb_observed.specs.Told.{BitData, NumbersData, device_pages}
use Rattle.pmb_observed.specs.Told.{page_bits, page_numbers}
use Rattle.pmb_stats_bits.specs.Bits.{set_count}
use Rattle.pmb_stats_objects.specs.Laws.{AreJsonObjects, AreObserved}
use Rattle.pmb_stats_counts.specs.declared.sort.Sort.{Sort}
use Rattle.pmb_stats_counts.specs.declared.sort.Sort.TheVariants.{Alerts, Calls, Nacks, Others, Reads, Refusals, Writes}
use Rattle.pmb_stats_counts.specs.declared.sort.NackPlace.TheVariants.{Address, Byte, Code, ReadAddress}
use Rattle.pmb_stats_counts.specs.Counts.{bad_tokens, count_in_all, has_come, of_device, packets}
use Rattle.pmb_transaction.specs.declared.reason.Reason.{Reason}
use Rattle.pmb_transaction.specs.declared.reason.Reason.TheVariants.{ReadFirst, BadRestart, BadPec, UnknownDevice}
use Rattle.pmb_transaction.specs.declared.reason.Reason.TheVariants.{UnknownCommand, TooLong, TooShort, WrongEvent}
use Rattle.pmb_transaction.specs.declared.reason.Reason.TheVariants.{Truncated}
use Rattle.pmb_transaction.specs.Names.{reason_name}
use Rattle.pmb_stats_objects.specs.Counts.{counts_members, nack_members, reason_members, reasons, sort_member}
use Rattle.pmb_stats_objects.specs.Objects.{device_object, device_objects, end_object, stats_objects}
use Rattle.pmb_stats_objects.specs.Pages.{bit_item, bit_members, bit_name, command_members, found_members}
use Rattle.pmb_stats_objects.specs.Pages.{numbers_item, numbers_members, page_if, page_item, page_items, page_member}
use Rattle.pmb_stats_objects.specs.Pages.{phase_member}
use Rattle.pmb_stats_objects.proofs.JsonMembers.{IsJson, IsTold, json_object, told_both, told_count, told_fraction}
use Rattle.pmb_stats_objects.proofs.JsonMembers.{told_list}
use Rattle.pmb_stats_objects.proofs.JsonMembers.{json_members, told_none, told_object, told_one, told_text}
use Rattle.pmb_stats_objects.proofs.Names.{bit_name_bytes}
use Rattle.pmb_stats_objects.proofs.NumberTexts.{greatest_is_bounded, last_is_bounded}
use Rattle.pmb_stats_objects.proofs.NumberTexts.{least_is_bounded, mean_is_bounded}
use Rattle.pmb_stats_objects.proofs.JsonNeeds.{all_of_map}
use Rattle.pmb_stats_objects.proofs.JsonNeeds.{IsBit, AreNumbers}
use Rattle.pmb_stats_objects.proofs.JsonNeeds.{page_bits_needed}
use Rattle.pmb_stats_objects.proofs.JsonNeeds.{page_numbers_needed, first_is, last_is, gone_is}
use Rattle.pmb_stats_objects.proofs.JsonNeeds.{number_if, assumed_few, first_of_times, last_of_times}
use Rattle.pmb_stats_objects.proofs.JsonNeeds.{IsSmallPage, IsSmallPhase, device_is, small_pages}

-- ---- reasons and counts

plain_reason : (reason : Reason) → are_bytes (reason_name reason) ≡ true
plain_reason ReadFirst = refl
plain_reason BadRestart = refl
plain_reason BadPec = refl
plain_reason UnknownDevice = refl
plain_reason UnknownCommand = refl
plain_reason TooLong = refl
plain_reason TooShort = refl
plain_reason WrongEvent = refl
plain_reason Truncated = refl

abbrev count_keys : List (List ℕ)
count_keys = codes "writes" ∷ codes "reads" ∷ codes "calls" ∷ codes "alerts" ∷ codes "nacks" ∷ codes "refusals"
    ∷ codes "others" ∷ []

-- ---- items

abbrev item_keys : List (List ℕ)
item_keys = codes "code" ∷ codes "command" ∷ codes "phase" ∷ []

module _ (numbers_are : DigitsAreNumbers) (fewer : FewerAreDistinct) (distinct : TestedAreDistinct) where
  told_phase : (phase : PhaseKey) → IsSmallPhase phase → IsTold (phase_member phase) (codes "phase" ∷ [])
  told_phase (OnPhase phase) small = told_one _ (fine_count numbers_are (codes "phase") phase refl small)
  told_phase AllPhases small = told_one _ (fine_word (codes "phase") (codes "all") refl refl)
  told_phase UnknownPhase small = told_one _ (fine_null (codes "phase") refl)
  told_phase Unphased small = told_none (codes "phase")

  told_command : (entry : EntryParts) (phase : PhaseKey) → AreBytes entry.name → IsSmallPhase phase
      → IsTold (command_members entry phase) item_keys
  told_command entry phase name small =
      told_both _ _ (codes "code" ∷ []) (codes "command" ∷ codes "phase" ∷ [])
      (told_one _ (fine_digits (codes "code") (entry.code ∷ []) refl))
      (told_both (_ ∷ []) _ (codes "command" ∷ []) (codes "phase" ∷ [])
      (told_one _ (fine_text (codes "command") entry.name refl name)) (told_phase phase small))

  json_bit : (b : BitData) → IsBit b → IsJson (bit_item b)
  json_bit b is =
      json_object fewer distinct (command_members b.command.entry b.phase ++ bit_members b)
      (item_keys ++ codes "bit" ∷ codes "count" ∷ codes "first" ∷ codes "last" ∷ codes "gone" ∷ [])
      (told_both (command_members b.command.entry b.phase) (bit_members b) item_keys _
      (told_command b.command.entry b.phase is.texts.name is.phase)
      (told_both (_ ∷ []) _ (codes "bit" ∷ []) _
      (told_one _ (fine_text (codes "bit") (bit_name b) refl (bit_name_bytes b is.texts.bits (omega (arith, is.few)))))
      (told_both (_ ∷ []) _ (codes "count" ∷ []) _
      (told_one _ (fine_count numbers_are (codes "count") (capped (set_count b.reads b.bit)) refl (omega arith)))
      (told_both _ _ (codes "first" ∷ codes "last" ∷ []) (codes "gone" ∷ [])
      (told_both _ _ (codes "first" ∷ []) (codes "last" ∷ [])
      (told_text (codes "first") _ refl (first_is b.reads b.bit is.timed))
      (told_text (codes "last") _ refl (last_is b.reads b.bit is.timed)))
      (told_text (codes "gone") _ refl (gone_is b.reads b.bit is.timed))))))
      refl

  json_numbers : (digits : ℕ) (n : NumbersData) → AreNumbers n → IsJson (numbers_item digits n)
  json_numbers digits n is =
      json_object fewer distinct (command_members n.command.entry n.phase ++ numbers_members digits n)
      (item_keys ++ codes "count" ∷ codes "assumed" ∷ codes "least" ∷ codes "mean" ∷ codes "greatest" ∷ codes "last"
      ∷ codes "unit" ∷ [])
      (told_both (command_members n.command.entry n.phase) (numbers_members digits n) item_keys _
      (told_command n.command.entry n.phase is.texts.name is.phase)
      (told_both (_ ∷ []) _ (codes "count" ∷ []) _
      (told_one _ (fine_count numbers_are (codes "count") (length n.numbers) refl is.few))
      (told_both _ _ (codes "assumed" ∷ codes "least" ∷ codes "mean" ∷ codes "greatest" ∷ codes "last" ∷ [])
      (codes "unit" ∷ [])
      (told_both _ _ (codes "assumed" ∷ codes "least" ∷ codes "mean" ∷ codes "greatest" ∷ []) (codes "last" ∷ [])
      (told_both _ _ (codes "assumed" ∷ codes "least" ∷ codes "mean" ∷ []) (codes "greatest" ∷ [])
      (told_both _ _ (codes "assumed" ∷ codes "least" ∷ []) (codes "mean" ∷ [])
      (told_both _ _ (codes "assumed" ∷ []) (codes "least" ∷ [])
      (told_count numbers_are (codes "assumed") (count_assumed n.numbers) refl
      (omega (arith, assumed_few n.numbers, is.few)))
      (told_fraction digits (codes "least") _ refl (number_if digits _ (least_is_bounded n.numbers is.fits))))
      (told_fraction digits (codes "mean") _ refl (number_if digits _ (mean_is_bounded n.numbers is.fits))))
      (told_fraction digits (codes "greatest") _ refl (number_if digits _ (greatest_is_bounded n.numbers is.fits))))
      (told_fraction digits (codes "last") _ refl (number_if digits _ (last_is_bounded n.numbers is.fits))))
      (told_text (codes "unit") n.command.unit refl is.texts.unit))))
      refl

  -- ---- pages

  told_page : (page : PageKey) → IsSmallPage page → IsTold (page_member page) (codes "page" ∷ [])
  told_page (OnPage page) small = told_one _ (fine_count numbers_are (codes "page") page refl small)
  told_page AllPages small = told_one _ (fine_word (codes "page") (codes "all") refl refl)
  told_page UnknownPage small = told_one _ (fine_null (codes "page") refl)
  told_page Unpaged small = told_none (codes "page")

  json_page_if : (page : PageKey) (members : List Member) → IsSmallPage page
      → IsTold members (codes "bits" ∷ codes "numbers" ∷ []) → AllByRecursion IsJson (page_if page members)
  json_page_if page [] small told = tt
  json_page_if page (m ∷ more) small told = (
    json_object fewer distinct (page_member page ++ m ∷ more) (codes "page" ∷ codes "bits" ∷ codes "numbers" ∷ [])
        (told_both (page_member page) (m ∷ more) (codes "page" ∷ []) (codes "bits" ∷ codes "numbers" ∷ [])
        (told_page page small) told) refl,
    tt,
  )

  json_page : (digits : ℕ) (page : PageKey) (bits : List BitData) (numbers : List NumbersData) → IsSmallPage page
      → AllByRecursion IsBit bits → AllByRecursion AreNumbers numbers
      → AllByRecursion IsJson (page_if page (found_members digits bits numbers))
  json_page digits page bits numbers small are_bits are_numbers =
      json_page_if page (found_members digits bits numbers) small
      (told_both _ _ (codes "bits" ∷ []) (codes "numbers" ∷ [])
      (told_list (codes "bits") (map bit_item bits) refl (all_of_map IsBit IsJson bit_item bits json_bit are_bits))
      (told_list (codes "numbers") (map (numbers_item digits) numbers) refl
      (all_of_map AreNumbers IsJson (numbers_item digits) numbers (json_numbers digits) are_numbers)))

  -- ---- counts

  told_sort : (facts : List FactData) (key : List ℕ) (sort : Sort) → are_bytes key ≡ true
      → IsTold (sort_member facts key sort) (key ∷ [])
  told_sort facts key sort plain = told_count numbers_are key (capped (count_in_all sort facts)) plain (omega arith)

  told_nacks : (facts : List FactData)
      → IsTold (nack_members facts) (codes "address" ∷ codes "code" ∷ codes "byte" ∷ codes "read address" ∷ [])
  told_nacks facts =
      told_both _ _ (codes "address" ∷ codes "code" ∷ codes "byte" ∷ []) (codes "read address" ∷ [])
      (told_both _ _ (codes "address" ∷ codes "code" ∷ []) (codes "byte" ∷ [])
      (told_both _ _ (codes "address" ∷ []) (codes "code" ∷ [])
      (told_sort facts (codes "address") (Nacks Address) refl) (told_sort facts (codes "code") (Nacks Code) refl))
      (told_sort facts (codes "byte") (Nacks Byte) refl)) (told_sort facts (codes "read address")
      (Nacks ReadAddress) refl)

  told_reasons : (facts : List FactData) (some : List Reason) → IsTold (reason_members facts some)
      (map reason_name some)
  told_reasons facts [] = record { fine = tt; part = record { part = refl } }
  told_reasons facts (reason ∷ some) =
      told_both (sort_member facts (reason_name reason) (Refusals reason)) (reason_members facts some)
      (reason_name reason ∷ []) (map reason_name some)
      (told_sort facts (reason_name reason) (Refusals reason) (plain_reason reason)) (told_reasons facts some)

  told_counts : (facts : List FactData) → IsTold (counts_members facts) count_keys
  told_counts facts =
      told_both _ _ _ (codes "others" ∷ [])
      (told_both _ _ _ (codes "refusals" ∷ [])
      (told_both _ _ _ (codes "nacks" ∷ [])
      (told_both _ _ _ (codes "alerts" ∷ [])
      (told_both _ _ _ (codes "calls" ∷ [])
      (told_both _ _ (codes "writes" ∷ []) (codes "reads" ∷ [])
      (told_sort facts (codes "writes") Writes refl) (told_sort facts (codes "reads") Reads refl))
      (told_sort facts (codes "calls") Calls refl)) (told_sort facts (codes "alerts") Alerts refl))
      (told_object fewer distinct (codes "nacks") (nack_members facts) _ refl (told_nacks facts) refl))
      (told_object fewer distinct (codes "refusals") (reason_members facts reasons) (map reason_name reasons) refl
      (told_reasons facts reasons) refl))
      (told_sort facts (codes "others") Others refl)

  -- ---- objects

  json_end : (facts : List FactData) → AllByRecursion AreBytes (times facts) → IsJsonObject (end_object facts).members
  json_end facts timed =
      json_members fewer distinct (end_object facts).members
      (codes "kind" ∷ codes "packets" ∷ (((count_keys ++ codes "bad_tokens" ∷ []) ++ codes "first" ∷ [])
      ++ codes "last" ∷ []))
      (told_both (kind_member (codes "end")) _ (codes "kind" ∷ []) _
      (told_one _ (fine_word (codes "kind") (codes "end") refl refl))
      (told_both (_ ∷ []) _ (codes "packets" ∷ []) _
      (told_one _ (fine_count numbers_are (codes "packets") (capped (packets facts)) refl (omega arith)))
      (told_both _ _ _ (codes "last" ∷ [])
      (told_both _ _ _ (codes "first" ∷ [])
      (told_both _ _ count_keys (codes "bad_tokens" ∷ []) (told_counts facts)
      (told_count numbers_are (codes "bad_tokens") (capped (bad_tokens facts)) refl (omega arith)))
      (told_text (codes "first") _ refl (first_of_times (times facts) timed)))
      (told_text (codes "last") _ refl (last_of_times None (times facts) tt timed)))))
      refl

  module _ (profile : List DeviceParts) (bus : IsBus profile) (told : List Observation) (are : AreObserved told) where
    json_pages : (digits addr : ℕ) (pages : List PageKey) → AllByRecursion IsSmallPage pages
        → AllByRecursion IsJson (flat_map (page_item digits profile told addr) pages)
    json_pages digits addr [] small = tt
    json_pages digits addr (page ∷ pages) small =
        all_of_both IsJson (page_item digits profile told addr page)
        (flat_map (page_item digits profile told addr) pages)
        (json_page digits page (page_bits profile told addr page) (page_numbers profile told addr page)
        small.0 (page_bits_needed profile bus told are addr page) (page_numbers_needed profile bus told are addr page))
        (json_pages digits addr pages small.1)

    json_page_items : (digits addr : ℕ) → AllByRecursion IsJson (page_items digits profile told addr)
    json_page_items digits addr =
        json_pages digits addr (device_pages profile addr)
        (small_pages (device_with addr profile) (device_is profile addr bus))

  json_device : (digits : ℕ) (setting : Setting) (facts : List FactData) (addr : ℕ) → IsBus setting.profile
      → AreObserved (observations setting facts) → IsJsonObject (device_object digits setting facts addr).members
  json_device digits setting facts addr bus are =
      json_members fewer distinct (device_object digits setting facts addr).members
      (((codes "kind" ∷ name_keys) ++ count_keys) ++ codes "pages" ∷ [])
      (told_both _ _ _ (codes "pages" ∷ [])
      (told_both _ _ (codes "kind" ∷ name_keys) count_keys
      (told_both (kind_member (codes "device")) _ (codes "kind" ∷ []) name_keys
      (told_one _ (fine_word (codes "kind") (codes "device") refl refl))
      (record { fine = fine_device setting.profile addr bus; part = keys_of_device setting.profile addr }))
      (told_counts (of_device addr facts)))
      (told_list (codes "pages") _ refl
      (json_page_items setting.profile bus (observations setting facts) are digits addr)))
      refl

  json_devices : (digits : ℕ) (setting : Setting) (facts : List FactData) (addrs : List ℕ) → IsBus setting.profile
      → AreObserved (observations setting facts) → AreJsonObjects (map (device_object digits setting facts) addrs)
  json_devices digits setting facts [] bus are = tt
  json_devices digits setting facts (addr ∷ addrs) bus are =
      (json_device digits setting facts addr bus are, json_devices digits setting facts addrs bus are)

  pub json_objects : (digits : ℕ) (setting : Setting) (facts : List FactData) → IsBus setting.profile
      → AreObserved (observations setting facts) → AllByRecursion AreBytes (times facts)
      → AreJsonObjects (stats_objects digits setting facts)
  json_objects digits setting facts bus are timed =
      all_of_both (λ object. IsJsonObject object.members) (device_objects digits setting facts) (end_object facts ∷ [])
      (json_devices digits setting facts (filter (λ addr. has_come addr facts) (range_with_len 0 128)) bus are)
      (json_end facts timed, tt)
