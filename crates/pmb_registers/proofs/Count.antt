-- How many registers a device has: for `count_registers` and `count_of`, and for the room that
-- `push_registers` finds. A command has one for each of at most 32 pages, and a device has at most 256
-- commands, so that their sum does not wrap.
use Rattle.std.proofs.Common.{◌≡◌, ℕ, ◌+◌, ◌*◌, ◌<◌, ◌≤◌, Bool, true, false, Option, Some, None, List, [], ◌∷◌, length, map, take}
use Rattle.std.proofs.Common.{get_or, option_map, nat_eq, sym, ap, ◌∙◌, arith, ⊎_elim}
use Rattle.std.specs.List.{AllByRecursion, flat_map, list_any, range_with_len}
use Rattle.std.proofs.lemmas.Bool.{eqb-true, false≢true, or_cases}
use Rattle.std.proofs.lemmas.List.{length-append, length-map, take_more, flat_map_more}
use Rattle.std.proofs.lemmas.List.FromFn.{length-map-range_with_len}
use Rattle.std.proofs.lemmas.List.Folds.{length-flat_map-take}
use Rattle.std.proofs.lemmas.Map.Steps.{length-le_from_distinct_below}
use Rattle.pmb_command.specs.declared.form.Form.{Form}
use Rattle.pmb_command.specs.Bus.{IsCommand, IsDevice}
use Rattle.pmb_command.specs.Entry.{EntryParts}
use Rattle.pmb_command.specs.Fitting.{register_form}
use Rattle.pmb_command.specs.Parts.{CommandParts, DeviceParts, command_with}
use Rattle.pmb_registers.specs.State.{RegisterData, own_pages, registers_in, registers_of}
use Rattle.pmb_registers.specs.machine.Places.{registers_of_some}
use Rattle.pmb_registers.proofs.Beginning.{register_of_all, the_command}

-- ---- one command

-- a command with a form, which has a value for each page, has a register for each
pub each_counted : (device : DeviceParts) (command : CommandParts) (e : EntryParts) (form : Form)
    → register_form e.shape ≡ Some form → e.paged ≡ true → command.entry ≡ e
    → device.pages ≡ length (registers_of device command)
each_counted device command e form formed paged is =
    let own : Some form ≡ register_form command.entry.shape =
    sym (ap (λ (x : EntryParts). register_form x.shape) is ∙ formed) in
    let each : true ≡ command.entry.paged = sym (ap (λ (x : EntryParts). x.paged) is ∙ paged) in
    sym (length-map-range_with_len Some 0 device.pages)
    ∙ ap (λ (b : Bool). length (own_pages device.pages b)) each
    ∙ sym (length-map (own_pages device.pages command.entry.paged) _)
    ∙ ap (λ (o : Option Form). length (registers_in device command o)) own

-- the same, of the command with a code, or one register
module _ (device : DeviceParts) (code : ℕ) (entry : EntryParts) (form : Form)
    (same : Some entry ≡ option_map (λ c. c.entry) (command_with code device.commands))
    (formed : register_form entry.shape ≡ Some form) where
  pub counted_on_pages : entry.paged ≡ true
      → length (registers_of_some device (command_with code device.commands)) ≡ device.pages
  counted_on_pages paged =
      let the = the_command device code entry form same formed in
      ap (λ (o : Option CommandParts). length (registers_of_some device o)) the.1.0
      ∙ sym (each_counted device the.0 entry form formed paged the.1.1)

  pub counted_all : entry.paged ≡ false
      → length (registers_of_some device (command_with code device.commands)) ≡ 1
  counted_all paged =
      ap (λ (rs : List RegisterData). length rs) (sym (register_of_all device code entry form same formed paged))

-- ---- all commands

module _ (device : DeviceParts) (is : IsDevice device) where
  few_pages : (each : Bool) → length (own_pages device.pages each) ≤ 32
  few_pages true =
      let count : length (map Some (range_with_len 0 device.pages)) ≡ device.pages =
      length-map-range_with_len Some 0 device.pages in
      omega (arith, is.few_pages)
  few_pages false = omega arith

  few_of : (command : CommandParts) (form : Option Form) → length (registers_in device command form) ≤ 32
  few_of command None = omega arith
  few_of command (Some form) = rw length-map (few_pages command.entry.paged)

  few_of_all : (cs : List CommandParts) → length (flat_map (registers_of device) cs) ≤ 32 * length cs
  few_of_all [] = omega arith
  few_of_all (c ∷ cs) =
      let here = few_of c (register_form c.entry.shape) in
      let behind = few_of_all cs in
      let both = length-append (registers_of device c) (flat_map (registers_of device) cs) in
      omega arith

-- a code of a command is a byte
byte_codes : (cs : List CommandParts) → AllByRecursion IsCommand cs → (q : ℕ)
    → list_any (nat_eq q) (map (λ c. c.entry.code) cs) ≡ true → q < 256
byte_codes [] all q any = absurd (false≢true any)
byte_codes (c ∷ cs) (is, all) q any =
    let by_first = λ (same : nat_eq q c.entry.code ≡ true). let e : q ≡ c.entry.code = eqb-true q c.entry.code same in
    let small : q < 256 = omega (arith, is.entry.byte) in small in
    ⊎_elim by_first (byte_codes cs all q)
    (or_cases (nat_eq q c.entry.code) (list_any (nat_eq q) (map (λ c. c.entry.code) cs)) any)

-- so there are few registers
few_registers : (device : DeviceParts) → IsDevice device
    → length (flat_map (registers_of device) device.commands) ≤ 8192
few_registers device is =
    let codes : length (map (λ (c : CommandParts). c.entry.code) device.commands) ≤ 256 =
    length-le_from_distinct_below (map (λ (c : CommandParts). c.entry.code) device.commands) 256 is.own_codes
    (byte_codes device.commands is.commands) in
    let commands : length (map (λ (c : CommandParts). c.entry.code) device.commands) ≡ length device.commands =
    length-map device.commands (λ (c : CommandParts). c.entry.code) in
    let all = few_of_all device is device.commands in
    omega arith

module _ (device : DeviceParts) (i : ℕ) (d : CommandParts) (within : i < length device.commands) where
  -- one command more
  pub counted_more : length (flat_map (registers_of device) (take i device.commands))
      + length (registers_of device (get_or device.commands i d))
      ≡ length (flat_map (registers_of device) (take (i + 1) device.commands))
  counted_more =
      sym (length-append (flat_map (registers_of device) (take i device.commands))
      (registers_of device (get_or device.commands i d)))
      ∙ ap (λ (rs : List RegisterData). length rs)
      (flat_map_more (registers_of device) [] (take i device.commands) (get_or device.commands i d))
      ∙ ap (λ (cs : List CommandParts). length (flat_map (registers_of device) cs))
      (sym (take_more device.commands i d within))

  -- does not wrap
  pub counted_few : IsDevice device → length (flat_map (registers_of device) (take i device.commands))
      + length (registers_of device (get_or device.commands i d)) ≤ 8192
  counted_few is =
      let part = length-flat_map-take (registers_of device) device.commands i d within in
      let all = few_registers device is in
      omega arith
