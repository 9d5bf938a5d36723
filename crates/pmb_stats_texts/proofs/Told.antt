-- What is shown of bits and of numbers is the same for observations that tell of each spot alike.
use Rattle.std.proofs.Common.{◌≡◌, ℕ, zero, suc, ◌<◌, ◌≤◌, ◌==◌, Bool, true, false, cond, Option, Some, None}
use Rattle.std.proofs.Common.{List, [], ◌∷◌, ap, arith, length, map, refl, sym, ◌∙◌, inl, inr}
use Rattle.std.specs.List.{range_with_len}
use Rattle.std.proofs.lemmas.Bool.{cases_eq, eq-eqb, ne_eqb}
use Rattle.std.proofs.lemmas.List.{map-append}
use Rattle.pmb_command.specs.Parts.{CommandParts, DeviceParts}
use Rattle.pmb_io.specs.Count.{capped}
use Rattle.pmb_mean.specs.Alike.{TellNumbersAlike}
use Rattle.pmb_mean.specs.Numbers.{NumberData, kept}
use Rattle.pmb_observed.specs.declared.spot.PageKey.{PageKey}
use Rattle.pmb_observed.specs.declared.spot.PhaseKey.{PhaseKey}
use Rattle.pmb_observed.specs.declared.spot.Spot.{Spot}
use Rattle.pmb_observed.specs.Observed.{Observation, numbers_at, reads_at}
use Rattle.pmb_observed.specs.Spot.{command_on, is_numeric, is_of, is_register, spot_at}
use Rattle.pmb_observed.specs.Told.{BitData, NumbersData, bit_told, bits_told, code_bits, code_numbers}
use Rattle.pmb_observed.specs.Told.{command_numbers, command_phases, device_bits, device_numbers, device_pages}
use Rattle.pmb_observed.specs.Told.{numbers_told, page_bits, page_numbers, register_bits, spot_bits, spot_numbers}
use Rattle.pmb_stats_bits.specs.Alike.{TellBitAlike}
use Rattle.pmb_stats_bits.specs.Bits.{RegisterRead, set_count}
use Rattle.pmb_stats_room.specs.Alike.{TellSpotsAlike}
use Rattle.pmb_stats_texts.proofs.Lists.{both, everywhere, in_range, shown_alike}

-- a bit of some reads, and the numbers of a command
abbrev pub bit_of : PageKey → PhaseKey → CommandParts → ℕ → List RegisterRead → BitData
bit_of page phase command bit reads =
    record { page = page; phase = phase; command = command; bit = bit; reads = reads }

abbrev pub numbers_of : PageKey → PhaseKey → CommandParts → List NumberData → NumbersData
numbers_of page phase command numbers =
    record { page = page; phase = phase; command = command; numbers = numbers }

-- counts that are alike are 0 alike
zero_alike : (m n : ℕ) → capped m ≡ capped n → (m == 0) ≡ (n == 0)
zero_alike m n same =
    elim (cases_eq m 0) [
      | inl is ↦ eq-eqb m 0 is ∙ sym (eq-eqb n 0 (omega arith))
      | inr not ↦ ne_eqb m 0 not ∙ sym (ne_eqb n 0 (λ (e : n ≡ 0). not (omega arith)))
    ]

mapped_unless : {A X : Type 0} (show : A → X) (b : Bool) (x : A)
    → map show (cond b [] (x ∷ [])) ≡ cond b [] (show x ∷ [])
mapped_unless show true x = refl
mapped_unless show false x = refl

unless_alike : {X : Type 0} (b c : Bool) (x y : X) → b ≡ c → x ≡ y → cond b [] (x ∷ []) ≡ cond c [] (y ∷ [])
unless_alike b c x y test same =
    ap (λ t. cond t [] (x ∷ [])) test ∙ ap (λ z. cond c [] (z ∷ [])) same

-- ---- bits

-- a way to show a bit, by what is told of it
abbrev pub ShowsBits : {X : Type 0} → (BitData → X) → Type 0
ShowsBits show = (page : PageKey) (phase : PhaseKey) (command : CommandParts) (bit : ℕ)
    (reads others : List RegisterRead) → TellBitAlike reads others bit
    → show (bit_of page phase command bit reads) ≡ show (bit_of page phase command bit others)

module _ {X : Type 0} (show : BitData → X) (shows : ShowsBits show) where
  module _ (page : PageKey) (phase : PhaseKey) (command : CommandParts) (reads others : List RegisterRead) where
    one_bit : (bit : ℕ) → TellBitAlike reads others bit
        → map show (bit_told page phase command reads bit) ≡ map show (bit_told page phase command others bit)
    one_bit bit alike =
        mapped_unless show (set_count reads bit == 0) (bit_of page phase command bit reads)
        ∙ (unless_alike (set_count reads bit == 0) (set_count others bit == 0)
        (show (bit_of page phase command bit reads)) (show (bit_of page phase command bit others))
        (zero_alike (set_count reads bit) (set_count others bit) alike.count)
        (shows page phase command bit reads others alike)
        ∙ sym (mapped_unless show (set_count others bit == 0) (bit_of page phase command bit others)))

    many_bits : (n : ℕ) → n ≤ 16 → ((bit : ℕ) → bit < 16 → TellBitAlike reads others bit)
        → map show (bits_told page phase command reads n) ≡ map show (bits_told page phase command others n)
    unfolding bits_told
    many_bits zero few each = refl
    many_bits (suc bit) few each =
        map-append show (bit_told page phase command reads bit) (bits_told page phase command reads bit)
        ∙ (both (one_bit bit (each bit (omega arith))) (many_bits bit (omega arith) each)
        ∙ sym (map-append show (bit_told page phase command others bit) (bits_told page phase command others bit)))

    if_bits : (is : Bool) → (is ≡ true → (bit : ℕ) → bit < 16 → TellBitAlike reads others bit)
        → map show (cond is (bits_told page phase command reads 16) [])
        ≡ map show (cond is (bits_told page phase command others 16) [])
    if_bits true each = many_bits 16 (omega arith) (each refl)
    if_bits false each = refl

  register_alike : (told others : List Observation) (spot : Spot) (command : Option CommandParts)
      → (is_of is_register command ≡ true → (bit : ℕ) → bit < 16
      → TellBitAlike (reads_at spot told) (reads_at spot others) bit)
      → map show (register_bits told spot command) ≡ map show (register_bits others spot command)
  register_alike told others spot None each = refl
  register_alike told others spot (Some command) each =
      if_bits spot.page spot.phase command (reads_at spot told) (reads_at spot others) (is_register command.entry.kind)
      each

  module _ (profile : List DeviceParts) (told others : List Observation) (alike : TellSpotsAlike profile told others)
      (addr : ℕ) (small : addr < 256) where
    code_bits_alike : (page : PageKey) (code : ℕ) → code < 256
        → map show (code_bits profile told addr page code) ≡ map show (code_bits profile others addr page code)
    code_bits_alike page code code_small =
        shown_alike show (spot_bits profile told addr page code) (spot_bits profile others addr page code)
        (command_phases profile addr code)
        (everywhere (λ phase. map show (spot_bits profile told addr page code phase)
        ≡ map show (spot_bits profile others addr page code phase)) (command_phases profile addr code)
        (λ phase. register_alike told others (spot_at addr code page phase)
        (command_on profile (spot_at addr code page phase))
        (alike.bits (spot_at addr code page phase) small code_small)))

    pub page_bits_alike : (page : PageKey)
        → map show (page_bits profile told addr page) ≡ map show (page_bits profile others addr page)
    page_bits_alike page =
        shown_alike show (code_bits profile told addr page) (code_bits profile others addr page) (range_with_len 0 256)
        (in_range (λ code. map show (code_bits profile told addr page code)
        ≡ map show (code_bits profile others addr page code)) 256 0 256 (omega arith) (code_bits_alike page))

    pub device_bits_alike
        : map show (device_bits profile told addr) ≡ map show (device_bits profile others addr)
    device_bits_alike =
        shown_alike show (page_bits profile told addr) (page_bits profile others addr) (device_pages profile addr)
        (everywhere (λ page. map show (page_bits profile told addr page)
        ≡ map show (page_bits profile others addr page)) (device_pages profile addr) page_bits_alike)

-- ---- numbers

-- a way to show the numbers of a command, by what is told of them
abbrev pub ShowsNumbers : {X : Type 0} → (NumbersData → X) → Type 0
ShowsNumbers show = (page : PageKey) (phase : PhaseKey) (command : CommandParts) (numbers others : List NumberData)
    → TellNumbersAlike numbers others
    → show (numbers_of page phase command numbers) ≡ show (numbers_of page phase command others)

module _ {X : Type 0} (show : NumbersData → X) (shows : ShowsNumbers show) where
  module _ (page : PageKey) (phase : PhaseKey) (command : CommandParts) (numbers others : List NumberData) where
    some_numbers : TellNumbersAlike numbers others
        → map show (numbers_told page phase command numbers) ≡ map show (numbers_told page phase command others)
    some_numbers alike =
        mapped_unless show (length numbers == 0) (numbers_of page phase command numbers)
        ∙ (unless_alike (length numbers == 0) (length others == 0) (show (numbers_of page phase command numbers))
        (show (numbers_of page phase command others)) (ap (λ n. n == 0) alike.count)
        (shows page phase command numbers others alike)
        ∙ sym (mapped_unless show (length others == 0) (numbers_of page phase command others)))

    if_numbers : (is : Bool) → (is ≡ true → TellNumbersAlike numbers others)
        → map show (cond is (numbers_told page phase command numbers) [])
        ≡ map show (cond is (numbers_told page phase command others) [])
    if_numbers true alike = some_numbers (alike refl)
    if_numbers false alike = refl

  command_alike : (told others : List Observation) (spot : Spot) (command : Option CommandParts)
      → (is_of is_numeric command ≡ true
      → TellNumbersAlike (kept (numbers_at spot told)) (kept (numbers_at spot others)))
      → map show (command_numbers told spot command) ≡ map show (command_numbers others spot command)
  command_alike told others spot None alike = refl
  command_alike told others spot (Some command) alike =
      if_numbers spot.page spot.phase command (kept (numbers_at spot told)) (kept (numbers_at spot others))
      (is_numeric command.entry.kind) alike

  module _ (profile : List DeviceParts) (told others : List Observation) (alike : TellSpotsAlike profile told others)
      (addr : ℕ) (small : addr < 256) where
    code_numbers_alike : (page : PageKey) (code : ℕ) → code < 256
        → map show (code_numbers profile told addr page code) ≡ map show (code_numbers profile others addr page code)
    code_numbers_alike page code code_small =
        shown_alike show (spot_numbers profile told addr page code) (spot_numbers profile others addr page code)
        (command_phases profile addr code)
        (everywhere (λ phase. map show (spot_numbers profile told addr page code phase)
        ≡ map show (spot_numbers profile others addr page code phase)) (command_phases profile addr code)
        (λ phase. command_alike told others (spot_at addr code page phase)
        (command_on profile (spot_at addr code page phase))
        (alike.numbers (spot_at addr code page phase) small code_small)))

    pub page_numbers_alike : (page : PageKey)
        → map show (page_numbers profile told addr page) ≡ map show (page_numbers profile others addr page)
    page_numbers_alike page =
        shown_alike show (code_numbers profile told addr page) (code_numbers profile others addr page)
        (range_with_len 0 256)
        (in_range (λ code. map show (code_numbers profile told addr page code)
        ≡ map show (code_numbers profile others addr page code)) 256 0 256 (omega arith) (code_numbers_alike page))

    pub device_numbers_alike
        : map show (device_numbers profile told addr) ≡ map show (device_numbers profile others addr)
    device_numbers_alike =
        shown_alike show (page_numbers profile told addr) (page_numbers profile others addr)
        (device_pages profile addr)
        (everywhere (λ page. map show (page_numbers profile told addr page)
        ≡ map show (page_numbers profile others addr page)) (device_pages profile addr) page_numbers_alike)
