-- The first state of a device: each register holds as many bytes as its form takes. For the laws
-- `states_fit` and `replies_are_answers`. What a register begins with are zeros, the bytes of the
-- profile or VOUT_MODE's byte; that a command's register is found by its code and page goes along
-- the list of commands.
use Rattle.std.proofs.Common.{◌≡◌, ℕ, ◌+◌, ◌<◌, ◌≤◌, ◌⊎◌, inl, inr, zero, suc, Bool, true, false, ◌&&◌, ◌||◌, Option}
use Rattle.std.proofs.Common.{Some, None, cond, List, [], ◌∷◌, length, map, nat_eq, option_map, refl, sym, ap, subst}
use Rattle.std.proofs.Common.{◌∙◌, arith}
use Rattle.std.specs.List.{AllByRecursion, find, flat_map, list_any, range_with_len, slice_get}
use Rattle.std.specs.Option.{IfSome, option_or, unwrap_or}
use Rattle.std.proofs.lemmas.Bool.{eqb-false, eqb-true, leb-true}
use Rattle.std.proofs.lemmas.List.Concat.{flat_map-cons}
use Rattle.std.proofs.lemmas.List.Folds.{find-append}
use Rattle.std.proofs.lemmas.Option.{same_Some}
use Rattle.pmb_command.specs.declared.form.Form.{Form}
use Rattle.pmb_command.specs.declared.form.Form.TheVariants.{Zero, One, Two, Four, Eight, Block}
use Rattle.pmb_command.specs.Bus.{AreInitial, IsCommand, IsDevice, IsInitial}
use Rattle.pmb_command.specs.Entry.{EntryParts}
use Rattle.pmb_command.specs.Fitting.{is_length, register_form}
use Rattle.pmb_command.specs.Parts.{CommandParts, DeviceParts, InitialParts, Same, Each, command_with, initial_on}
use Rattle.pmb_command.specs.Wire.{Takes}
use Rattle.pmb_registers.specs.State.{RegisterData, first_bytes, first_mode, first_page, first_state, is_of_page}
use Rattle.pmb_registers.specs.State.{own_pages, registers_in, registers_of, zeros}
use Rattle.pmb_devices.specs.Replies.{IsState}
use Rattle.pmb_devices.proofs.Commands.{command_is, kept_at, mode_register}
use Rattle.pmb_devices.proofs.Writes.{by_test}

-- ---- what a register begins with

-- zeros are as many as the form takes
zeros_taken : (form : Form) → Takes form (length (zeros form))
zeros_taken Zero = refl
zeros_taken One = refl
zeros_taken Two = refl
zeros_taken Four = refl
zeros_taken Eight = refl
zeros_taken Block = omega arith

-- so are bytes whose number was tested
length_taken : (form : Form) (n : ℕ) → is_length (Some form) n ≡ true → Takes form n
length_taken Zero n is = absurd (cc is)
length_taken One n is = eqb-true n 1 is
length_taken Two n is = eqb-true n 2 is
length_taken Four n is = eqb-true n 4 is
length_taken Eight n is = eqb-true n 8 is
length_taken Block n is = leb-true n 255 is

-- those of a command's own
bytes_taken : (command : CommandParts) (form : Form) (o : Option (List ℕ)) → IfSome o (IsInitial command.entry)
    → register_form command.entry.shape ≡ Some form → Takes form (length (unwrap_or o (zeros form)))
bytes_taken command form None given register = zeros_taken form
bytes_taken command form (Some bytes) given register =
    length_taken form (length bytes) (subst (λ (o : Option Form). is_length o (length bytes) ≡ true) register
    given.fits)

-- what holds of each item holds of the one at a place
item_at : {X : Type 0} (P : X → Type 0) (xs : List X) (n : ℕ) → AllByRecursion P xs → IfSome (slice_get xs n) P
item_at P [] n all = tt
item_at P (x ∷ xs) zero all = all.0
item_at P (x ∷ xs) (suc n) all = item_at P xs n all.1

-- on a page a command has bytes of its form, where the profile gives it some there
given_on : (entry : EntryParts) (page : ℕ) (initial : Option InitialParts) → IfSome initial (AreInitial entry)
    → IfSome (initial_on page initial) (IsInitial entry)
given_on entry page None given = tt
given_on entry page (Some (Same bytes)) given = given
given_on entry page (Some (Each items)) given = item_at (IsInitial entry) items page given.1

-- the one byte of VOUT_MODE, or other bytes
first_in : (mode : ℕ) (test : Bool) (form : Form) (bytes : List ℕ) → (test ≡ true → form ≡ One)
    → Takes form (length bytes)
    → Takes form (length (cond test (mode ∷ []) bytes))
first_in mode true form bytes one taken = subst (λ (f : Form). Takes f 1) (sym (one refl)) refl
first_in mode false form bytes one taken = taken

-- the first bytes of a register, whichever page it is of
first_taken : (device : DeviceParts) (page : ℕ) (command : CommandParts) (form : Form) → IsCommand command
    → register_form command.entry.shape ≡ Some form
    → Takes form (length (first_bytes device page command form))
first_taken device page command form is register =
    first_in (first_mode device page) (nat_eq command.entry.code 0x20) form
    (unwrap_or (initial_on page command.initial) (zeros form))
    (
    λ mode.
    mode_register command.entry.shape form
    (kept_at command.entry 0x20 (eqb-true command.entry.code 0x20 mode) refl is.entry.fitting.fixed) register
    ) (bytes_taken command form (initial_on page command.initial)
    (given_on command.entry page command.initial is.initial) register)

-- ---- pages

-- a number of a range is one of its pages
in_range : (page a n : ℕ) → a ≤ page → page < a + n → list_any (is_of_page page) (map Some (range_with_len a n)) ≡ true
in_range page a zero from to = absurd (omega arith)
in_range page a (suc n) from to =
    let rest = list_any (is_of_page page) (map Some (range_with_len (a + 1) n)) in
    by_test (nat_eq a page) (nat_eq a page) refl (λ same. ap (λ (b : Bool). b || rest) same)
    (
    λ other.
    let apart : a ≡ page → ⊥ = eqb-false a page other in
    let later : rest ≡ true = in_range page (a + 1) n (omega arith) (omega arith) in
    ap (λ (b : Bool). b || rest) other ∙ later
    )

-- a command has a register on a page of the device, or one for all
has_page : (page pages : ℕ) (paged : Bool) → (page < pages) ⊎ (paged ≡ false)
    → list_any (is_of_page page) (own_pages pages paged) ≡ true
has_page page pages false there = refl
has_page page pages true (inl small) = in_range page 0 pages (omega arith) (omega arith)
has_page page pages true (inr none) = absurd (cc none)

-- ---- looking at registers

-- the bytes of what was found
abbrev pub bytes_of : Option RegisterData → Option (List ℕ)
bytes_of found = option_map (λ r. r.bytes) found

-- whether a register is of a code and a page
abbrev pub is_at : ℕ → ℕ → RegisterData → Bool
is_at page code r = nat_eq r.code code && is_of_page page r.page

-- one register, of what is held on each page
abbrev one_register : ℕ → (Option ℕ → List ℕ) → Option ℕ → RegisterData
one_register code bytes page = record { code = code; page = page; bytes = bytes page }

-- what was found holds what is held on one of the pages
abbrev HoldsOne : (Option ℕ → List ℕ) → Option RegisterData → Type 0
HoldsOne bytes found = (own : Option ℕ) × (bytes_of found ≡ Some (bytes own))

-- the first one, or one after it
held_first : (test : Bool) (r : RegisterData) (rest : Option RegisterData) (bytes : Option ℕ → List ℕ) (own : Option ℕ)
    → r.bytes ≡ bytes own → (test ≡ false → HoldsOne bytes rest) → HoldsOne bytes (cond test (Some r) rest)
held_first true r rest bytes own same later = (own, ap (λ (bs : List ℕ). Some bs) same)
held_first false r rest bytes own same later = later refl

-- what was found in front is found
found_or : (o rest : Option RegisterData) (bytes : Option ℕ → List ℕ) → HoldsOne bytes o
    → HoldsOne bytes (option_or o rest)
found_or None rest bytes is = absurd (cc is.1)
found_or (Some r) rest bytes is = is

module _ (page code : ℕ) where
  -- among the registers of a command's pages
  held_on : (own : ℕ) (bytes : Option ℕ → List ℕ) (pages : List (Option ℕ)) → nat_eq own code ≡ true
      → list_any (is_of_page page) pages ≡ true
      → HoldsOne bytes (find (is_at page code) (map (one_register own bytes) pages))
  held_on own bytes [] same some = absurd (cc some)
  held_on own bytes (p ∷ pages) same some =
      let rest = find (is_at page code) (map (one_register own bytes) pages) in
      held_first (is_at page code (one_register own bytes p)) (one_register own bytes p) rest bytes p refl
      (
      λ other.
      let not_here : is_of_page page p ≡ false = subst (λ (b : Bool). (b && is_of_page page p) ≡ false) same other in
      held_on own bytes pages same (subst (λ (b : Bool). (b || list_any (is_of_page page) pages) ≡ true) not_here some)
      )

  -- another command has none
  none_on : (own : ℕ) (bytes : Option ℕ → List ℕ) (pages : List (Option ℕ)) → nat_eq own code ≡ false
      → find (is_at page code) (map (one_register own bytes) pages) ≡ None
  none_on own bytes [] other = refl
  none_on own bytes (p ∷ pages) other =
      let r = one_register own bytes p in
      let rest = find (is_at page code) (map (one_register own bytes) pages) in
      let apart : is_at page code r ≡ false = ap (λ (b : Bool). b && is_of_page page p) other in
      ap (λ (b : Bool). cond b (Some r) rest) apart ∙ none_on own bytes pages other

  module _ (device : DeviceParts) where
    -- what a command begins with in a form, in the register of a page or of all
    abbrev beginning : CommandParts → Form → Option ℕ → List ℕ
    beginning c form own = first_bytes device (first_page own) c form

    -- none in any form of it
    none_in : (c : CommandParts) (o : Option Form) → nat_eq c.entry.code code ≡ false
        → find (is_at page code) (registers_in device c o) ≡ None
    none_in c None other = refl
    none_in c (Some form) other = none_on c.entry.code (beginning c form)
        (own_pages device.pages c.entry.paged) other

    module _ (command : CommandParts) (form : Form) (register : register_form command.entry.shape ≡ Some form)
        (there : (page < device.pages) ⊎ (command.entry.paged ≡ false)) where
      -- the command has one
      held_of : nat_eq command.entry.code code ≡ true
          → HoldsOne (beginning command form) (find (is_at page code) (registers_of device command))
      held_of same =
          subst (λ (o : Option Form). HoldsOne (beginning command form)
          (find (is_at page code) (registers_in device command o)))
          (sym register)
          (
          held_on command.entry.code (beginning command form) (own_pages device.pages command.entry.paged) same
          (has_page page device.pages command.entry.paged there)
          )

      -- so it is found among those of all commands
      held_in : (cs : List CommandParts) → command_with code cs ≡ Some command
          → HoldsOne (beginning command form) (find (is_at page code) (flat_map (registers_of device) cs))
      held_in [] is = absurd (cc is)
      -- the registers of this command, and of those after it
      held_in (c ∷ cs) is =
          let p = is_at page code in
          let front = find p (registers_of device c) in
          let rest = find p (flat_map (registers_of device) cs) in
          let split : find p (flat_map (registers_of device) (c ∷ cs)) ≡ option_or front rest =
          ap (find p) (flat_map-cons (registers_of device) c cs) ∙ find-append p (registers_of device c)
          (flat_map (registers_of device) cs) in
          let holds = HoldsOne (beginning command form) in
          subst holds (sym split)
          -- is it the command that is looked for?
          (by_test (nat_eq c.entry.code code) (nat_eq c.entry.code code) refl
          (
          -- yes: its own registers hold the bytes
          λ same.
          let c_is : c ≡ command = same_Some c command
          (ap (λ (b : Bool). cond b (Some c) (command_with code cs)) (sym same) ∙ is) in
          found_or front rest (beginning command form)
          (
          subst (λ (d : CommandParts). holds (find p (registers_of device d))) (sym c_is)
          (held_of (subst (λ (d : CommandParts). nat_eq d.entry.code code ≡ true) c_is same))
          )
          )
          (
          -- no: none of its registers is of that code, and the command comes after it
          λ other.
          subst (λ (o : Option RegisterData). holds (option_or o rest))
          (sym (none_in c (register_form c.entry.shape) other))
          (held_in cs (ap (λ (b : Bool). cond b (Some c) (command_with code cs)) (sym other) ∙ is))
          ))

-- ---- the first state

-- It fits the device.
pub first_fits : (device : DeviceParts) → IsDevice device → IsState device (first_state device)
first_fits device accepted = record {
  page = inl (omega (arith, accepted.some_page));
  holds = λ code page command form is register there.
      let held = held_in page code device command form register there device.commands is in
      record {
        bytes = first_bytes device (first_page held.0) command form;
        held_is = held.1;
        taken = first_taken device (first_page held.0) command form (command_is device accepted code command is)
            register;
      };
}
