-- What holds of each command that a device may have, and of each device of a bus: it holds with
-- one more of them, and of the one that a search finds. For `read_devices`, `read_device`, `read_next`,
-- `first_commands`, `standard_ones` and `DeviceProfile::entry` and `initial`.
use Rattle.std.proofs.Common.{◌≡◌, ◌≤◌, ℕ, ◌++◌, arith, length, List, [], ◌∷◌, Bool, true, false, cond, Some, None, map, nat_eq, refl, subst, sym}
use Rattle.std.proofs.Common.{zero, suc, Option, Result, Ok, Err, not, ◌||◌}
use Rattle.std.specs.Prelude.{IfOk, IfSome, option_map, slice_get}
use Rattle.std.specs.declared.alloc.AllocError.{AllocError}
use Rattle.std.specs.List.{AllByRecursion, IsDistinct, filter_map, find, range_with_len}
use Rattle.std.proofs.lemmas.List.{length-map}
use Rattle.pmb_command.specs.Bus.{AreBits, AreInitial, HasItemForEach, IsBit, IsCommand, IsInitial, IsUnitOf}
use Rattle.pmb_command.specs.Commands.{standard_entry}
use Rattle.pmb_command.specs.Names.{is_name}
use Rattle.pmb_command.specs.Standard.{IsStandardAt, standard_command}
use Rattle.pmb_command.specs.Units.{standard_unit}
use Rattle.pmb_keys.specs.CommandView.{bit_parts}
use Rattle.pmb_keys.specs.declared.command.NamedBit.{NamedBit as CodeBit}
use Rattle.pmb_command.specs.Entry.{EntryParts}
use Rattle.pmb_command.specs.Parts.{CommandParts, DeviceParts, InitialParts, Same, Each, initial_on}
use Rattle.pmb_keys.specs.DeviceKeys.{DeviceKeys}
use Rattle.pmb_keys.specs.Rules.{bind, unless}
use Rattle.pmb_keys.specs.declared.fault.FaultKind.TheVariants as faults
use Rattle.pmb_table.specs.Profile.{first_protection_fits, modes_fit, protection_fits, put, standard_commands, together}
use Rattle.pmb_table.specs.machine.CommandMap.{IsCommandOf}

-- what holds of all and of one more holds of all of them
pub All-push : {X : Type 0} (P : X → Type 0) (xs : List X) (x : X) → AllByRecursion P xs → P x
    → AllByRecursion P (xs ++ x ∷ [])
All-push P [] x all here = (here, tt)
All-push P (y ∷ ys) x all here = (all.0, All-push P ys x all.1 here)

-- it holds of the one that a search finds
pub All-find : {X : Type 0} (P : X → Type 0) (p : X → Bool) (xs : List X) → AllByRecursion P xs → IfSome (find p xs) P
All-find P p [] all = tt
All-find P p (x ∷ xs) all = by (p x) (All-find P p xs all.1)
  where
    by : (b : Bool) → IfSome (find p xs) P → IfSome (cond b (Some x) (find p xs)) P
    by true rest = all.0
    by false rest = rest

-- what holds of all by one rule holds of them by another that follows from it
pub All-map : {X : Type 0} (P Q : X → Type 0) (xs : List X) → ((x : X) → P x → Q x) → AllByRecursion P xs
    → AllByRecursion Q xs
All-map P Q [] follows all = tt
All-map P Q (x ∷ xs) follows all = (follows x all.0, All-map P Q xs follows all.1)

-- and a command that is put among commands of which it holds leaves them so
pub All-put : (P : CommandParts → Type 0) (c : CommandParts) (cs : List CommandParts) → P c → AllByRecursion P cs
    → AllByRecursion P (put c cs)
All-put P c [] is all = (is, tt)
All-put P c (x ∷ xs) is all = by (nat_eq c.entry.code x.entry.code) (All-put P c xs is all.1)
  where
    by : (b : Bool) → AllByRecursion P (put c xs) → AllByRecursion P (cond b (c ∷ xs) (x ∷ put c xs))
    by true rest = (is, all.1)
    by false rest = (all.0, rest)

-- a command of a device is one that a device may have, and its items go with the pages
pub commands_of : (pages : ℕ) (cs : List CommandParts) → AllByRecursion (IsCommandOf pages) cs
    → AllByRecursion IsCommand cs
commands_of pages cs all = All-map (IsCommandOf pages) IsCommand cs (λ c is. is.command) all

pub items_of : (pages : ℕ) (cs : List CommandParts) → AllByRecursion (IsCommandOf pages) cs
    → AllByRecursion (λ c. HasItemForEach pages c.initial) cs
items_of pages cs all = All-map (IsCommandOf pages) (λ c. HasItemForEach pages c.initial) cs (λ c is. is.items) all

-- what a command holds at first on a page
pub initial_at : (e : EntryParts) (page : ℕ) (initial : InitialParts) → AreInitial e initial
    → IfSome (initial_on page (Some initial)) (IsInitial e)
initial_at e page (Same bytes) is = is
initial_at e page (Each items) are = at page items are.1
  where
    at : (i : ℕ) (xs : List (List ℕ)) → AllByRecursion (IsInitial e) xs → IfSome (slice_get xs i) (IsInitial e)
    at i [] all = tt
    at zero (x ∷ xs) all = all.0
    at (suc i) (x ∷ xs) all = at i xs all.1

-- what holds of what is seen of a value holds of the value, seen so
pub IfSome-map : {X Y : Type 0} (f : X → Y) (P : Y → Type 0) (o : Option X) → IfSome (option_map f o) P
    → IfSome o (λ x. P (f x))
IfSome-map f P (Some x) holds = holds
IfSome-map f P None holds = tt

-- and what follows from it
pub IfSome-follows : {X : Type 0} (P Q : X → Type 0) (o : Option X) → ((x : X) → P x → Q x) → IfSome o P → IfSome o Q
IfSome-follows P Q (Some x) follows holds = follows x holds
IfSome-follows P Q None follows holds = tt

-- bits that a command may have are few, and have names
pub few_bits : (e : EntryParts) (bits : List CodeBit) → AreBits e (map bit_parts bits) → length bits ≤ 16
few_bits e bits are = omega (arith, are.few, length-map bits bit_parts)

pub bits_have_names : (e : EntryParts) (bits : List CodeBit) → AllByRecursion (IsBit e) (map bit_parts bits)
    → AllByRecursion (λ b. is_name b.name.bytes ≡ true) bits
bits_have_names e [] all = tt
bits_have_names e (b ∷ bits) all = (all.0.name, bits_have_names e bits all.1)

-- a standard command of which the profile says nothing is one that a device may have
pub standard_is_command : (code : ℕ) (e : EntryParts) → IsStandardAt code e → IsCommand (standard_command e)
unfolding IsDistinct
standard_is_command code e sound = record {
  entry = sound.entry;
  initial = tt;
  unit = subst (λ n. IfSome (standard_unit n) (IsUnitOf e.kind)) (sym sound.same_code) sound.unit;
  bits = record { few = omega arith; each = tt; ascending = tt; own_names = tt };
}

-- the standard commands have no items
bare_commands : (pages : ℕ) (es : List EntryParts)
    → AllByRecursion IsCommand (map standard_command es)
    → AllByRecursion (IsCommandOf pages) (map standard_command es)
bare_commands pages [] all = tt
bare_commands pages (e ∷ es) all = (record { command = all.0; items = tt }, bare_commands pages es all.1)

pub standard_commands_of : (pages : ℕ) (cs : List CommandParts) → cs ≡ standard_commands → AllByRecursion IsCommand cs
    → AllByRecursion (IsCommandOf pages) cs
unfolding standard_commands
standard_commands_of pages cs is all =
    subst (AllByRecursion (IsCommandOf pages)) (sym is)
    (bare_commands pages (filter_map standard_entry (range_with_len 0 256)) (subst (AllByRecursion IsCommand) is all))

-- which go with any number of pages, where there is memory for them
pub first_are_of : (r : Result (List CommandParts) AllocError) → IfOk r (λ cs. cs ≡ standard_commands)
    → IfOk r (λ cs. AllByRecursion IsCommand cs)
    → IfOk r (λ cs. (pages : ℕ) → AllByRecursion (IsCommandOf pages) cs)
first_are_of (Ok cs) is all = λ pages. standard_commands_of pages cs is all
first_are_of (Err e) is all = tt

-- what is asked for where something is so holds where it is so
pub holds_where : (so holds : Bool) → (not so || holds) ≡ true → so ≡ true → holds ≡ true
holds_where true holds fit is = fit
holds_where false holds fit is = cc

-- what holds of an address, or of another part, holds of that of the device that has it
pub of_part : {E X : Type 0} (part : DeviceParts → X) (P : X → Type 0) (x : X) (r : Result DeviceParts E)
    → IfOk r (λ d. part d ≡ x) → P x → IfOk r (λ d. P (part d))
of_part part P x (Ok d) same holds = subst P (sym same) holds
of_part part P x (Err e) same holds = tt

-- What keys and commands that go together keep to: the modes, and what WRITE_PROTECT is and begins with.
pub record GoTogether (keys : DeviceKeys) (commands : List CommandParts) : Type 0 where
  pub modes : modes_fit commands keys.modes ≡ true
  pub protection : protection_fits keys.protect commands ≡ true
  pub first_protection : first_protection_fits keys.protect commands ≡ true

pub go_together : (keys : DeviceKeys) (commands : List CommandParts) → together keys commands ≡ Ok tt
    → GoTogether keys commands
go_together keys commands is =
    let all = by (modes_fit commands keys.modes) (protection_fits keys.protect commands)
    (first_protection_fits keys.protect commands) is in
    record { modes = all.0; protection = all.1; first_protection = all.2 }
  where
    by : (modes protection first : Bool)
        → bind (unless faults.BadValue modes) (λ _. bind (unless faults.BadValue protection) (λ _.
        unless faults.BadInitial first)) ≡ Ok tt
        → (modes ≡ true) × (protection ≡ true) × (first ≡ true)
    by true true true is = (refl, refl, refl)
    by true true false is = cc
    by true false first is = cc
    by false protection first is = cc
