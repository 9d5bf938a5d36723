-- What an item needs, and that what is told has it: for the law `objects_are_json`. A bit's times are those of reads, a
-- command's texts are bytes since the profile is accepted, numbers fit their kinds, and there are few pages and phases.
use Rattle.std.proofs.Common.{◌<◌, ◌≤◌, ◌==◌, ℕ, zero, suc, ◌+◌, ◌^◌, ◌-◌, Option, Some, None, List, []}
use Rattle.std.proofs.Common.{◌∷◌, arith, fold, length, map, nat_eq, reverse, subst, sym}
use Rattle.std.proofs.Common.{take}
use Rattle.std.specs.Prelude.{IfSome, ⊤}
use Rattle.std.specs.List.{AllByRecursion, find, flat_map, last_or, range_with_len}
use Rattle.std.proofs.lemmas.List.{length-take, reverse-append}
use Rattle.std.proofs.lemmas.List.Sums.{count_by-le-length}
use Rattle.pmb_command.specs.Bus.{IsBus, IsCommand, IsDevice}
use Rattle.pmb_command.specs.Parts.{CommandParts, DeviceParts, command_with, device_with}
use Rattle.pmb_command_data.specs.Phases.{has_phases}
use Rattle.pmb_json_objects.specs.Laws.{IsTime}
use Rattle.pmb_json_objects.specs.Seen.{command_of}
use Rattle.pmb_json_objects.proofs.Fine.{HasTexts, all_of_both, command_texts}
use Rattle.pmb_json_objects.proofs.Fine.{of_found}
use Rattle.pmb_json_text.specs.Json.{IsNumber}
use Rattle.pmb_json_text.specs.Spelling.{AreBytes}
use Rattle.pmb_mean.specs.Numbers.{FitsKind, NumberData, count_assumed, kept}
use Rattle.pmb_observed.specs.declared.spot.PageKey.{PageKey}
use Rattle.pmb_observed.specs.declared.spot.PageKey.TheVariants.{AllPages, OnPage, Unpaged, UnknownPage}
use Rattle.pmb_observed.specs.declared.spot.PhaseKey.{PhaseKey}
use Rattle.pmb_observed.specs.declared.spot.PhaseKey.TheVariants.{AllPhases, OnPhase, UnknownPhase, Unphased}
use Rattle.pmb_observed.specs.declared.spot.Spot.{Spot}
use Rattle.pmb_observed.specs.Observed.{NumberAt, Observation, ReadAt, numbers_at, reads_at}
use Rattle.pmb_observed.specs.Observing.{first_of, later_time, times}
use Rattle.pmb_observed.specs.Spot.{command_if, command_in, command_on, has_place, is_numeric, is_register}
use Rattle.pmb_observed.specs.Spot.{phase_keys, phases_of, same_spot, spot_at}
use Rattle.pmb_observed.specs.Told.{BitData, NumbersData, bit_told, bits_told, code_bits, code_numbers}
use Rattle.pmb_observed.specs.Told.{command_numbers, command_phases, numbers_told}
use Rattle.pmb_observed.specs.Told.{page_bits, page_numbers, pages_of, phases_if, phases_in, register_bits, spot_bits}
use Rattle.pmb_observed.specs.Told.{spot_numbers}
use Rattle.pmb_stats_bits.specs.Bits.{RegisterRead, first_time, found, gone_time, last_time, reads_since, set_count}
use Rattle.pmb_stats_bits.specs.Bits.{time_of}
use Rattle.pmb_quantity.specs.Fraction.{Fraction}
use Rattle.pmb_decimal.specs.Decimal.{rounded_text}
use Rattle.pmb_stats_objects.specs.Laws.{AreObserved}
use Rattle.pmb_stats_objects.proofs.Lists.{one_of_two}
use Rattle.pmb_stats_objects.proofs.NumberTexts.{IsBounded, bounded_is_number}

-- ---- lists

all_of_flat : {A B : Type 0} (P : B → Type 0) (f : A → List B) (xs : List A) → ((x : A) → AllByRecursion P (f x))
    → AllByRecursion P (flat_map f xs)
all_of_flat P f [] each = tt
all_of_flat P f (x ∷ xs) each = all_of_both P (f x) (flat_map f xs) (each x) (all_of_flat P f xs each)

-- .. by what holds of each element
all_of_some : {A B : Type 0} (P : A → Type 0) (Q : B → Type 0) (f : A → List B) (xs : List A)
    → ((x : A) → P x → AllByRecursion Q (f x)) → AllByRecursion P xs → AllByRecursion Q (flat_map f xs)
all_of_some P Q f [] each are = tt
all_of_some P Q f (x ∷ xs) each are =
    all_of_both Q (f x) (flat_map f xs) (each x are.0) (all_of_some P Q f xs each are.1)

pub all_of_map : {A B : Type 0} (P : A → Type 0) (Q : B → Type 0) (f : A → B) (xs : List A) → ((x : A) → P x → Q (f x))
    → AllByRecursion P xs → AllByRecursion Q (map f xs)
all_of_map P Q f [] each are = tt
all_of_map P Q f (x ∷ xs) each are = (each x are.0, all_of_map P Q f xs each are.1)

all_of_taken : {A : Type 0} (P : A → Type 0) (n : ℕ) (xs : List A) → AllByRecursion P xs → AllByRecursion P
    (take n xs)
all_of_taken P zero xs are = tt
all_of_taken P (suc n) [] are = tt
all_of_taken P (suc n) (x ∷ xs) are = (are.0, all_of_taken P n xs are.1)

all_reversed : {A : Type 0} (P : A → Type 0) (xs : List A) → AllByRecursion P xs → AllByRecursion P (reverse xs)
all_reversed P [] are = tt
all_reversed P (x ∷ xs) are =
    subst (AllByRecursion P) (sym (reverse-append (x ∷ []) xs))
    (all_of_both P (reverse xs) (x ∷ []) (all_reversed P xs are.1) (are.0, tt))

last_of : {A : Type 0} (P : A → Type 0) (o : Option A) (xs : List A) → IfSome o P → AllByRecursion P xs
    → IfSome (last_or o xs) P
last_of P o [] is are = is
last_of P o (x ∷ xs) is are = last_of P (Some x) xs are.0 are.1

-- ---- what was told of a spot

timed_read : (more : List Observation) → AreObserved more → (spot : Spot)
    → AllByRecursion (λ read. IsTime read.time) (reads_at spot more)
timed_read [] is spot = tt
timed_read (ReadAt at read ∷ more) is spot =
    one_of_two (AllByRecursion (λ read. IsTime read.time)) (same_spot at spot) (read ∷ reads_at spot more)
    (reads_at spot more) (is.0, timed_read more is.1 spot) (timed_read more is.1 spot)
timed_read (NumberAt at number ∷ more) is spot = timed_read more is.1 spot

fitting_number : (more : List Observation) → AreObserved more → (spot : Spot)
    → AllByRecursion FitsKind (numbers_at spot more)
fitting_number [] is spot = tt
fitting_number (ReadAt at read ∷ more) is spot = fitting_number more is.1 spot
fitting_number (NumberAt at number ∷ more) is spot =
    one_of_two (AllByRecursion FitsKind) (same_spot at spot) (number ∷ numbers_at spot more)
    (numbers_at spot more) (is.0, fitting_number more is.1 spot) (fitting_number more is.1 spot)

-- ---- pages and phases

-- numbers that JSON may have, from one on
all_counted : {A : Type 0} (P : A → Type 0) (one : ℕ → A) → ((n : ℕ) → n < 2 ^ 64 → P (one n))
    → (start n : ℕ) → start + n < 2 ^ 64 → AllByRecursion P (map one (range_with_len start n))
all_counted P one each start zero few = tt
all_counted P one each start (suc n) few =
    (each start (omega (arith, few)), all_counted P one each (start + 1) n (omega (arith, few)))

abbrev pub IsSmallPage : PageKey → Type 0
IsSmallPage (OnPage page) = page < 2 ^ 64
IsSmallPage AllPages = ⊤
IsSmallPage UnknownPage = ⊤
IsSmallPage Unpaged = ⊤

pub small_pages : (device : Option DeviceParts) → IfSome device IsDevice → AllByRecursion IsSmallPage (pages_of device)
small_pages None is = tt
small_pages (Some device) is =
    all_of_both IsSmallPage (map OnPage (range_with_len 0 device.pages)) (AllPages ∷ UnknownPage ∷ Unpaged ∷ [])
    (all_counted IsSmallPage OnPage (λ page small. small) 0 device.pages (omega (arith, is.few_pages)))
    (tt, (tt, (tt, tt)))

abbrev pub IsSmallPhase : PhaseKey → Type 0
IsSmallPhase (OnPhase phase) = phase < 2 ^ 64
IsSmallPhase AllPhases = ⊤
IsSmallPhase UnknownPhase = ⊤
IsSmallPhase Unphased = ⊤

abbrev AreFew : Option ℕ → Type 0
AreFew phases = IfSome phases (λ n. (1 ≤ n) × (n ≤ 255))

small_keys : (phases : Option ℕ) → AreFew phases → AllByRecursion IsSmallPhase (phase_keys phases)
small_keys None few = (tt, tt)
small_keys (Some n) few =
    all_of_both IsSmallPhase (map OnPhase (range_with_len 0 n)) (AllPhases ∷ UnknownPhase ∷ [])
    (all_counted IsSmallPhase OnPhase (λ phase small. small) 0 n (omega (arith, few.1))) (tt, (tt, tt))

small_if : (device : DeviceParts) (c : Option CommandParts) → AreFew device.phases
    → AllByRecursion IsSmallPhase (phases_if device c)
small_if device None few = tt
small_if device (Some c) few =
    small_keys (phases_of device c) (one_of_two AreFew (has_phases device c) device.phases None few tt)

small_in : (device : Option DeviceParts) (code : ℕ) → IfSome device IsDevice
    → AllByRecursion IsSmallPhase (phases_in device code)
small_in None code is = tt
small_in (Some device) code is = small_if device (command_of (Some device) code) is.phases

-- ---- what an item needs

-- of a bit: its command's texts and the times of the reads are bytes
pub record IsBit (b : BitData) : Type 0 where
  pub texts : HasTexts b.command
  pub phase : IsSmallPhase b.phase
  pub few : b.bit < 16
  pub timed : AllByRecursion (λ read. IsTime read.time) b.reads

-- of numbers: so are the texts, they can be counted, and each fits its kind
pub record AreNumbers (n : NumbersData) : Type 0 where
  pub texts : HasTexts n.command
  pub phase : IsSmallPhase n.phase
  pub few : length n.numbers < 2 ^ 64
  pub fits : AllByRecursion FitsKind n.numbers

kept_fits : (numbers : List NumberData) → AllByRecursion FitsKind numbers → AllByRecursion FitsKind (kept numbers)
unfolding kept
kept_fits numbers fits = all_of_taken FitsKind (2 ^ 64 - 1) numbers fits

kept_few : (numbers : List NumberData) → length (kept numbers) < 2 ^ 64
unfolding kept
kept_few numbers = omega (arith, length-take (2 ^ 64 - 1) numbers)

module _ (page : PageKey) (phase : PhaseKey) (command : CommandParts) (texts : HasTexts command)
    (small : IsSmallPhase phase) where
  bits_needed : (reads : List RegisterRead) → AllByRecursion (λ read. IsTime read.time) reads → (n : ℕ) → n ≤ 16
      → AllByRecursion IsBit (bits_told page phase command reads n)
  unfolding bits_told
  bits_needed reads timed zero few = tt
  bits_needed reads timed (suc bit) few =
      all_of_both IsBit (bit_told page phase command reads bit) (bits_told page phase command reads bit)
      (one_of_two (AllByRecursion IsBit) (set_count reads bit == 0) []
      (record { page = page; phase = phase; command = command; bit = bit; reads = reads } ∷ []) tt
      (record { texts = texts; phase = small; few = omega (arith, few); timed = timed }, tt))
      (bits_needed reads timed bit (omega (arith, few)))

  numbers_needed : (numbers : List NumberData) → AllByRecursion FitsKind numbers
      → AllByRecursion AreNumbers (numbers_told page phase command (kept numbers))
  numbers_needed numbers fits =
      one_of_two (AllByRecursion AreNumbers) (length (kept numbers) == 0) []
      (record { page = page; phase = phase; command = command; numbers = kept numbers } ∷ []) tt
      (record { texts = texts; phase = small; few = kept_few numbers; fits = kept_fits numbers fits }, tt)

-- ---- the texts of the command at a spot are bytes

some_texts : (c : Option CommandParts) → IfSome c IsCommand → IfSome c HasTexts
some_texts None is = tt
some_texts (Some c) is = command_texts c is

texts_of : (device : Option DeviceParts) (code : ℕ) → IfSome device IsDevice → IfSome (command_of device code) HasTexts
texts_of None code is = tt
texts_of (Some device) code is =
    some_texts (command_with code device.commands)
    (of_found IsCommand (λ c. nat_eq c.entry.code code) device.commands is.commands)

texts_if : (device : DeviceParts) (spot : Spot) (c : Option CommandParts) → IfSome c HasTexts
    → IfSome (command_if device spot c) HasTexts
texts_if device spot None is = tt
texts_if device spot (Some c) is = one_of_two (λ o. IfSome o HasTexts) (has_place device c spot) (Some c) None is tt

texts_in : (device : Option DeviceParts) (spot : Spot) → IfSome device IsDevice
    → IfSome (command_in device spot) HasTexts
texts_in None spot is = tt
texts_in (Some device) spot is =
    texts_if device spot (command_of (Some device) spot.code) (texts_of (Some device) spot.code is)

pub device_is : (profile : List DeviceParts) (addr : ℕ) → IsBus profile → IfSome (device_with addr profile) IsDevice
device_is profile addr bus = of_found IsDevice (λ d. nat_eq d.address addr) profile bus.devices

module _ (profile : List DeviceParts) (bus : IsBus profile) (told : List Observation) (are : AreObserved told) where
  texts_on : (spot : Spot) → IfSome (command_on profile spot) HasTexts
  texts_on spot = texts_in (device_with spot.addr profile) spot (device_is profile spot.addr bus)

  register_needed : (spot : Spot) (c : Option CommandParts) → IsSmallPhase spot.phase → IfSome c HasTexts
      → AllByRecursion IsBit (register_bits told spot c)
  register_needed spot None small texts = tt
  register_needed spot (Some c) small texts =
      one_of_two (AllByRecursion IsBit) (is_register c.entry.kind)
      (bits_told spot.page spot.phase c (reads_at spot told) 16) []
      (bits_needed spot.page spot.phase c texts small (reads_at spot told) (timed_read told are spot) 16 (omega arith))
      tt

  command_needed : (spot : Spot) (c : Option CommandParts) → IsSmallPhase spot.phase → IfSome c HasTexts
      → AllByRecursion AreNumbers (command_numbers told spot c)
  command_needed spot None small texts = tt
  command_needed spot (Some c) small texts =
      one_of_two (AllByRecursion AreNumbers) (is_numeric c.entry.kind)
      (numbers_told spot.page spot.phase c (kept (numbers_at spot told))) []
      (numbers_needed spot.page spot.phase c texts small (numbers_at spot told) (fitting_number told are spot)) tt

  code_bits_needed : (addr : ℕ) (page : PageKey) (code : ℕ)
      → AllByRecursion IsBit (code_bits profile told addr page code)
  code_bits_needed addr page code =
      all_of_some IsSmallPhase IsBit (spot_bits profile told addr page code) (command_phases profile addr code)
      (λ phase small. register_needed (spot_at addr code page phase)
      (command_on profile (spot_at addr code page phase)) small (texts_on (spot_at addr code page phase)))
      (small_in (device_with addr profile) code (device_is profile addr bus))

  code_numbers_needed : (addr : ℕ) (page : PageKey) (code : ℕ)
      → AllByRecursion AreNumbers (code_numbers profile told addr page code)
  code_numbers_needed addr page code =
      all_of_some IsSmallPhase AreNumbers (spot_numbers profile told addr page code) (command_phases profile addr code)
      (λ phase small. command_needed (spot_at addr code page phase)
      (command_on profile (spot_at addr code page phase)) small (texts_on (spot_at addr code page phase)))
      (small_in (device_with addr profile) code (device_is profile addr bus))

  pub page_bits_needed : (addr : ℕ) (page : PageKey) → AllByRecursion IsBit (page_bits profile told addr page)
  page_bits_needed addr page =
      all_of_flat IsBit (code_bits profile told addr page) (range_with_len 0 256) (code_bits_needed addr page)

  pub page_numbers_needed : (addr : ℕ) (page : PageKey)
      → AllByRecursion AreNumbers (page_numbers profile told addr page)
  page_numbers_needed addr page =
      all_of_flat AreNumbers (code_numbers profile told addr page) (range_with_len 0 256)
      (code_numbers_needed addr page)

-- ---- times

time_is : (o : Option RegisterRead) → IfSome o (λ read. IsTime read.time) → IfSome (time_of o) AreBytes
time_is None is = tt
time_is (Some read) is = is

module _ (reads : List RegisterRead) (bit : ℕ) (timed : AllByRecursion (λ read. IsTime read.time) reads) where
  pub first_is : IfSome (first_time reads bit) AreBytes
  first_is = time_is (find (found bit) reads) (of_found (λ read. IsTime read.time) (found bit) reads timed)

  pub last_is : IfSome (last_time reads bit) AreBytes
  last_is = time_is (find (found bit) (reverse reads))
      (of_found (λ read. IsTime read.time) (found bit) (reverse reads)
      (all_reversed (λ read. IsTime read.time) reads timed))

  pub gone_is : IfSome (gone_time reads bit) AreBytes
  gone_is =
      one_of_two (λ time. IfSome time AreBytes) (set_count reads bit == 0) None (time_of (last_or None
      (reads_since reads bit)))
      tt (time_is (last_or None (reads_since reads bit))
      (last_of (λ read. IsTime read.time) None (reads_since reads bit) tt
      (all_of_taken (λ read. IsTime read.time) _ (reverse reads)
      (all_reversed (λ read. IsTime read.time) reads timed))))

pub number_if : (digits : ℕ) (q : Option Fraction) → IfSome q IsBounded → IfSome q
    (λ q. IsNumber (rounded_text digits q))
number_if digits None is = tt
number_if digits (Some q) is = bounded_is_number digits q is

pub assumed_few : (numbers : List NumberData) → count_assumed numbers ≤ length numbers
assumed_few numbers = count_by-le-length (λ n. n.assumed) numbers

pub first_of_times : (times : List (List ℕ)) → AllByRecursion AreBytes times → IfSome (first_of times) AreBytes
first_of_times [] are = tt
first_of_times (time ∷ times) are = are.0

pub last_of_times : (before : Option (List ℕ)) (times : List (List ℕ)) → IfSome before AreBytes
    → AllByRecursion AreBytes times → IfSome (fold later_time before times) AreBytes
last_of_times before [] is are = is
last_of_times before (time ∷ times) is are = last_of_times (Some time) times are.0 are.1
