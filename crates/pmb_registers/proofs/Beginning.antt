-- The registers that a device begins with, command by command. For the functions of `first.rt`
-- that add them (`first_bytes`, `push_register`, `push_pages`, `push_registers`, `add_registers`,
-- `add_command`, `no_places`). The registers so far are those of the commands before; a command adds one for each
-- of its pages, or one for all, and the place of its code spans just these (`ArePlaces`).
use Rattle.std.proofs.Common.{◌≡◌, ◌≢◌, ◌⊎◌, inl, inr, ℕ, zero, suc, ◌+◌, ◌<◌, Bool, true, false, cond, Option, Some}
use Rattle.std.proofs.Common.{None, List, [], ◌∷◌, ◌++◌, length, map, take, drop, set, get_or, replicate, nat_eq}
use Rattle.std.proofs.Common.{option_map, option_and_then, refl, sym, ap, ◌∙◌, subst, arith, eq-eqb, eqb-true, add-one}
use Rattle.std.proofs.Common.{append_assoc}
use Rattle.std.specs.List.{AllByRecursion, IsDistinct, flat_map, range_with_len}
use Rattle.std.specs.List.{slice_get}
use Rattle.std.proofs.lemmas.Option.{get_or_from_slice_get, slice_get-get_or}
use Rattle.std.proofs.lemmas.Bool.{cases_eq, eqb-false, ne_eqb}
use Rattle.std.proofs.lemmas.List.{map-append, take-append-le, take_at, drop-append-le, drop_all, length-append}
use Rattle.std.proofs.lemmas.List.{get_or-set_same, get_or-set_other, get_or-replicate, take_more, flat_map_more}
use Rattle.pmb_command.specs.declared.form.Form.{Form}
use Rattle.pmb_command.specs.Entry.{EntryParts}
use Rattle.pmb_command.specs.Fitting.{register_form}
use Rattle.pmb_command.specs.Parts.{CommandParts, DeviceParts, HaveOwnCodes, command_with, initial_on}
use Rattle.pmb_registers.specs.declared.register_range.RegisterRange.{RegisterRange}
use Rattle.pmb_registers.specs.State.{RegisterData, first_bytes, first_bytes_at, first_mode, first_page, own_pages}
use Rattle.pmb_registers.specs.State.{registers_in, registers_of, zeros}
use Rattle.pmb_registers.specs.machine.Places.{NoneHas, IsPlaceOf, ArePlaces, registers_of_some}

-- ---- the command with a code

pick : (test : Bool) (x command : CommandParts) (rest : Option CommandParts) → cond test (Some x) rest ≡ Some command
    → ((test ≡ true) × (x ≡ command)) ⊎ ((test ≡ false) × (rest ≡ Some command))
pick true x command rest is = inl (refl, cc)
pick false x command rest is = inr (refl, is)

-- it has that code
found_code : (code : ℕ) (cs : List CommandParts) (command : CommandParts) → command_with code cs ≡ Some command
    → command.entry.code ≡ code
found_code code [] command is = absurd (cc is)
found_code code (x ∷ cs) command is = elim (pick (nat_eq x.entry.code code) x command (command_with code cs) is) [
  | inl p ↦ ap (λ (c : CommandParts). c.entry.code) (sym p.1) ∙ eqb-true x.entry.code code p.0
  | inr p ↦ found_code code cs command p.1
]

-- ---- first bytes

module _ (device : DeviceParts) (page code : ℕ) (form : Form) where
  -- VOUT_MODE begins with the page's mode
  -- 0x20 is VOUT_MODE
  pub mode_at : (initial : Option (List ℕ)) → code ≡ 0x20
      → first_bytes_at device page code initial form ≡ first_mode device page ∷ []
  mode_at initial same = rw (eq-eqb code 0x20 same) refl

  -- any other code with zeros, where the profile gives no bytes
  pub zeros_at : code ≢ 0x20 → first_bytes_at device page code None form ≡ zeros form
  zeros_at other = rw (ne_eqb code 0x20 other) refl

module _ (device : DeviceParts) (page code : ℕ) (command : CommandParts) (form : Form)
    (is : command_with code device.commands ≡ Some command) where
  -- what the profile gives a command on the page
  abbrev given : Option CommandParts → Option (List ℕ)
  given found = option_and_then (λ c. initial_on page c.initial) found

  not_mode : code ≢ 0x20 → command.entry.code ≢ 0x20
  not_mode other = λ same. other (sym (found_code code device.commands command is) ∙ same)

  -- so does the command with that code
  pub begins_with_mode : code ≡ 0x20 → first_bytes device page command form ≡ first_mode device page ∷ []
  begins_with_mode same = mode_at device page command.entry.code form (initial_on page command.initial)
      (found_code code device.commands command is ∙ same)

  pub begins_with_zeros : code ≢ 0x20
      → None ≡ option_and_then (λ c. initial_on page c.initial) (command_with code device.commands)
      → first_bytes device page command form ≡ zeros form
  begins_with_zeros other none =
      let not_given : initial_on page command.initial ≡ None = sym (none ∙ ap given is) in
      ap (λ (initial : Option (List ℕ)). first_bytes_at device page command.entry.code initial form) not_given
      ∙ zeros_at device page command.entry.code form (not_mode other)

-- ---- the registers of one command

range_more : (a n : ℕ) → range_with_len a (suc n) ≡ range_with_len a n ++ (a + n) ∷ []
range_more a zero = ap (λ (m : ℕ). m ∷ []) (omega arith)
range_more a (suc n) =
    let last : a + 1 + n ≡ a + suc n = omega arith in
    ap (λ (ms : List ℕ). a ∷ ms) (range_more (a + 1) n ∙ ap (λ (m : ℕ). range_with_len (a + 1) n ++ m ∷ []) last)

-- one page more
pub pushed_page : (f : Option ℕ → RegisterData) (before so_far after : List RegisterData) (n : ℕ)
    → so_far ≡ before ++ map f (map Some (range_with_len 0 n)) → after ≡ so_far ++ f (Some n) ∷ []
    → after ≡ before ++ map f (map Some (range_with_len 0 (n + 1)))
pushed_page f before so_far after n are pushed =
    let numbers : range_with_len 0 (n + 1) ≡ range_with_len 0 n ++ n ∷ [] = ap (range_with_len 0) (add-one n)
    ∙ range_more 0 n ∙ ap (λ (m : ℕ). range_with_len 0 n ++ m ∷ []) (omega arith) in
    let pages : map f (map Some (range_with_len 0 (n + 1))) ≡ map f (map Some (range_with_len 0 n)) ++ f (Some n) ∷ [] =
    ap (λ (ms : List ℕ). map f (map Some ms)) numbers ∙ ap (map f) (map-append Some (range_with_len 0 n) (n ∷ []))
    ∙ map-append f (map Some (range_with_len 0 n)) (Some n ∷ []) in
    pushed ∙ ap (λ (rs : List RegisterData). rs ++ f (Some n) ∷ []) are
    ∙ append_assoc before (map f (map Some (range_with_len 0 n))) (f (Some n) ∷ [])
    ∙ ap (λ (rs : List RegisterData). before ++ rs) (sym pages)

-- the register of a code on a page, which holds these bytes on each
abbrev pub one_register : ℕ → (Option ℕ → List ℕ) → Option ℕ → RegisterData
one_register code bytes page = record { code = code; page = page; bytes = bytes page }

-- what a command begins with in a form, in the register of a page or of all
abbrev pub beginning : DeviceParts → CommandParts → Form → Option ℕ → List ℕ
beginning device command form page = first_bytes device (first_page page) command form

-- the command of an entry that was found
entry_found : (entry : EntryParts) (found : Option CommandParts) → Some entry ≡ option_map (λ c. c.entry) found
    → (command : CommandParts) × ((found ≡ Some command) × (command.entry ≡ entry))
entry_found entry None same = absurd (cc same)
entry_found entry (Some command) same =
    let is : command.entry ≡ entry = cc same in
    (command, (refl, is))

module _ (device : DeviceParts) (code : ℕ) (entry : EntryParts) (form : Form)
    (same : Some entry ≡ option_map (λ c. c.entry) (command_with code device.commands))
    (formed : register_form entry.shape ≡ Some form) where
  -- the command with the code
  pub the_command : (command : CommandParts) × ((command_with code device.commands ≡ Some command)
      × (command.entry ≡ entry))
  the_command = entry_found entry (command_with code device.commands) same

  -- the registers of a code are those of its pages
  registers_are : registers_of_some device (command_with code device.commands)
      ≡ map (one_register code (beginning device the_command.0 form)) (own_pages device.pages entry.paged)
  registers_are =
      let command = the_command.0 in
      let is = the_command.1.0 in
      let entry_is = the_command.1.1 in
      let form_is : register_form command.entry.shape ≡ Some form =
      ap (λ (e : EntryParts). register_form e.shape) entry_is ∙ formed in
      ap (registers_of_some device) is ∙ ap (registers_in device command) form_is
      ∙ ap (λ (e : EntryParts). map (one_register command.entry.code (beginning device command form))
      (own_pages device.pages e.paged)) entry_is
      ∙ ap (λ (n : ℕ). map (one_register n (beginning device command form)) (own_pages device.pages entry.paged))
      (found_code code device.commands command is)

  -- those of a command that is paged
  pub registers_on_pages : entry.paged ≡ true
      → map (one_register code (beginning device the_command.0 form)) (map Some (range_with_len 0 device.pages))
      ≡ registers_of_some device (command_with code device.commands)
  registers_on_pages paged =
      ap (λ (each : Bool). map (one_register code (beginning device the_command.0 form))
      (own_pages device.pages each)) (sym paged)
      ∙ sym registers_are

  -- that of a command that is not
  pub register_of_all : entry.paged ≡ false
      → one_register code (beginning device the_command.0 form) None ∷ []
      ≡ registers_of_some device (command_with code device.commands)
  register_of_all paged =
      ap (λ (each : Bool). map (one_register code (beginning device the_command.0 form))
      (own_pages device.pages each)) (sym paged)
      ∙ sym registers_are

-- ---- places

none_has_append : (code : ℕ) (xs ys : List RegisterData) → NoneHas code xs → NoneHas code ys → NoneHas code (xs ++ ys)
none_has_append code [] ys none others = others
none_has_append code (x ∷ xs) ys (other, none) others = (other, none_has_append code xs ys none others)

none_on_pages : (code own : ℕ) (bytes : Option ℕ → List ℕ) (pages : List (Option ℕ)) → code ≢ own
    → NoneHas code (map (one_register own bytes) pages)
none_on_pages code own bytes [] other = tt
none_on_pages code own bytes (page ∷ pages) other = (other, none_on_pages code own bytes pages other)

none_in_form : (device : DeviceParts) (code : ℕ) (command : CommandParts) (form : Option Form)
    → code ≢ command.entry.code → NoneHas code (registers_in device command form)
none_in_form device code command None other = tt
none_in_form device code command (Some form) other =
    none_on_pages code command.entry.code (beginning device command form) (own_pages device.pages command.entry.paged)
    other

none_of_some : (device : DeviceParts) (code other : ℕ) (found : Option CommandParts)
    → command_with code device.commands ≡ found → other ≢ code → NoneHas other (registers_of_some device found)
none_of_some device code other None is apart = tt
none_of_some device code other (Some command) is apart =
    none_in_form device other command (register_form command.entry.shape)
    (λ same. apart (same ∙ found_code code device.commands command is))

-- the registers of a code are of no other one
pub of_no_other : (device : DeviceParts) (code other : ℕ) → other ≢ code
    → NoneHas other (registers_of_some device (command_with code device.commands))
of_no_other device code other apart = none_of_some device code other (command_with code device.commands) refl apart

module _ (code : ℕ) (rs fresh : List RegisterData) where
  -- a new code has all of what is new
  -- the new ones come after all others
  place_of_new : (place : RegisterRange) → NoneHas code rs → place.start ≡ length rs → place.end ≡ length (rs ++ fresh)
      → IsPlaceOf code place (rs ++ fresh)
  place_of_new place none starts ends =
      let all : length (rs ++ fresh) ≡ length rs + length fresh = length-append rs fresh in
      let front : take place.start (rs ++ fresh) ≡ rs = take_at rs fresh place.start (sym starts) in
      let back : drop place.end (rs ++ fresh) ≡ [] = drop_all place.end (rs ++ fresh) (omega arith) in
      record { ordered = omega arith; within = omega arith; front = rw front none; back = rw back tt }

  -- and another code has none of it
  place_of_other : (place : RegisterRange) → IsPlaceOf code place rs → NoneHas code fresh
      → IsPlaceOf code place (rs ++ fresh)
  place_of_other place is none =
      let all : length (rs ++ fresh) ≡ length rs + length fresh = length-append rs fresh in
      let front : take place.start (rs ++ fresh) ≡ take place.start rs =
      take-append-le place.start rs fresh (omega (arith, is.ordered, is.within)) in
      let back : drop place.end (rs ++ fresh) ≡ drop place.end rs ++ fresh =
      drop-append-le place.end rs fresh is.within in
      record {
        ordered = is.ordered;
        within = omega (arith, is.within);
        front = rw front is.front;
        back = rw back (none_has_append code (drop place.end rs) fresh is.back none);
      }

-- the places with one more
pub placed_more : (code : ℕ) (place : RegisterRange) (places : List RegisterRange) (rs fresh : List RegisterData)
    → ArePlaces places rs → NoneHas code rs
    → ((other : ℕ) → other ≢ code → NoneHas other fresh) → code < length places → place.start ≡ length rs
    → place.end ≡ length (rs ++ fresh) → ArePlaces (set places code place) (rs ++ fresh)
placed_more code place places rs fresh are none others within starts ends = λ other d small.
    elim (cases_eq other code) [
      | inl same ↦ let here : get_or (set places code place) other d ≡ place =
          ap (λ (n : ℕ). get_or (set places code place) n d) same ∙ get_or-set_same places code place d within in
          subst (λ (p : RegisterRange). IsPlaceOf other p (rs ++ fresh)) (sym here)
          (subst (λ (n : ℕ). IsPlaceOf n place (rs ++ fresh)) (sym same)
          (place_of_new code rs fresh place none starts ends))
      | inr apart ↦ let there : get_or (set places code place) other d ≡ get_or places other d =
          get_or-set_other places code other place d apart in
          subst (λ (p : RegisterRange). IsPlaceOf other p (rs ++ fresh)) (sym there)
          (place_of_other other rs fresh (get_or places other d) (are other d small) (others other apart))
    ]

-- where there are no registers, each place is empty
pub no_places : (n : ℕ) → n ≡ 256 → ArePlaces (replicate n (record { start = 0; end = 0 })) []
no_places n all = λ code d small.
    let nowhere : RegisterRange = record { start = 0; end = 0 } in
    let is : get_or (replicate n nowhere) code d ≡ nowhere = get_or-replicate n code nowhere d (omega arith) in
    subst (λ (p : RegisterRange). IsPlaceOf code p []) (sym is)
    (record { ordered = omega arith; within = omega arith; front = tt; back = tt })

-- ---- command by command

all_at : (code : ℕ) (cs : List CommandParts) (i : ℕ) (d : CommandParts)
    → AllByRecursion (λ y. nat_eq code y ≡ false) (map (λ c. c.entry.code) cs) → i < length cs
    → nat_eq code (get_or cs i d).entry.code ≡ false
all_at code [] i d all within = absurd (omega arith)
all_at code (c ∷ cs) zero d (other, all) within = other
all_at code (c ∷ cs) (suc i) d (other, all) within = all_at code cs i d all (omega arith)

-- what stands before a command has other codes
pub other_codes : (cs : List CommandParts) (i : ℕ) (d : CommandParts) → HaveOwnCodes cs → i < length cs
    → AllByRecursion (λ c. (get_or cs i d).entry.code ≢ c.entry.code) (take i cs)
unfolding IsDistinct
other_codes [] i d own within = absurd (omega arith)
other_codes (c ∷ cs) zero d own within = tt
other_codes (c ∷ cs) (suc i) d (here, own) within =
    let apart : nat_eq c.entry.code (get_or cs i d).entry.code ≡ false =
    all_at c.entry.code cs i d here (omega arith) in
    ((λ same. eqb-false c.entry.code (get_or cs i d).entry.code apart (sym same)), other_codes cs i d own (omega arith))

-- and it is the one that is found by its code
pub found_at : (cs : List CommandParts) (i : ℕ) (d : CommandParts) → HaveOwnCodes cs → i < length cs
    → command_with (get_or cs i d).entry.code cs ≡ Some (get_or cs i d)
unfolding IsDistinct
found_at [] i d own within = absurd (omega arith)
found_at (c ∷ cs) zero d own within = let same : nat_eq c.entry.code c.entry.code ≡ true =
    eq-eqb c.entry.code c.entry.code refl in rw same refl
found_at (c ∷ cs) (suc i) d (here, own) within =
    let apart : nat_eq c.entry.code (get_or cs i d).entry.code ≡ false =
    all_at c.entry.code cs i d here (omega arith) in
    rw apart (found_at cs i d own (omega arith))

module _ (device : DeviceParts) where
  none_has_all : (code : ℕ) (cs : List CommandParts) → AllByRecursion (λ c. code ≢ c.entry.code) cs
      → NoneHas code (flat_map (registers_of device) cs)
  none_has_all code [] others = tt
  none_has_all code (c ∷ cs) (other, others) =
      none_has_append code (registers_of device c) (flat_map (registers_of device) cs)
      (none_in_form device code c (register_form c.entry.shape) other) (none_has_all code cs others)

  -- so far there is no register of the next command
  pub none_so_far : (i : ℕ) (d : CommandParts) → HaveOwnCodes device.commands → i < length device.commands
      → NoneHas (get_or device.commands i d).entry.code (flat_map (registers_of device) (take i device.commands))
  none_so_far i d own within = none_has_all (get_or device.commands i d).entry.code (take i device.commands)
      (other_codes device.commands i d own within)

  -- the registers with one command more
  pub one_command_more : (i : ℕ) (d : CommandParts) → HaveOwnCodes device.commands → i < length device.commands
      → flat_map (registers_of device) (take i device.commands)
      ++ registers_of_some device (command_with (get_or device.commands i d).entry.code device.commands)
      ≡ flat_map (registers_of device) (take (i + 1) device.commands)
  one_command_more i d own within =
      let command = get_or device.commands i d in
      let more : take (i + 1) device.commands ≡ take i device.commands ++ command ∷ [] =
      take_more device.commands i d within in
      ap (λ (found : Option CommandParts). flat_map (registers_of device) (take i device.commands)
      ++ registers_of_some device found) (found_at device.commands i d own within)
      ∙ flat_map_more (registers_of device) [] (take i device.commands) command ∙ ap (flat_map (registers_of device))
      (sym more)

-- the command at an index, by its entry
at_found : (cs : List CommandParts) (i : ℕ) (entry : EntryParts) (found : Option CommandParts) → slice_get cs i ≡ found
    → Some entry ≡ option_map (λ c. c.entry) found
    → (d : CommandParts) × ((get_or cs i d).entry ≡ entry)
at_found cs i entry None is same = absurd (cc same)
at_found cs i entry (Some command) is same =
    let here : command.entry ≡ entry = cc in
    (command, ap (λ (c : CommandParts). c.entry) (get_or_from_slice_get cs i command command is) ∙ here)

pub command_at : (cs : List CommandParts) (i : ℕ) (entry : EntryParts)
    → Some entry ≡ option_map (λ c. c.entry) (slice_get cs i)
    → (d : CommandParts) × ((get_or cs i d).entry ≡ entry)
command_at cs i entry same = at_found cs i entry (slice_get cs i) refl same

-- there is one
pub some_command : (cs : List CommandParts) (i : ℕ) → i < length cs → None ≡ option_map (λ c. c.entry) (slice_get cs i)
    → ⊥
some_command [] i within none = omega arith
some_command (c ∷ cs) i within none =
    let here : slice_get (c ∷ cs) i ≡ Some (get_or (c ∷ cs) i c) = slice_get-get_or (c ∷ cs) i c within in
    let some : None ≡ Some (get_or (c ∷ cs) i c).entry = none ∙ ap (option_map (λ (x : CommandParts). x.entry)) here in
    cc some
