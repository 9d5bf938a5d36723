-- The commands of a device that its tables say, after the standard ones where it has them.
use Rattle.std.proofs.Common.{◌≡◌, ◌≤◌, ℕ, zero, suc, ◌+◌, Bool, true, false, not, Option, Some, None}
use Rattle.std.proofs.Common.{List, [], ◌∷◌, ◌++◌, arith, length, map, refl, subst, sym}
use Rattle.std.specs.Prelude.{IfOk, IfSome, if◌then◌else◌, nat_eq}
use Rattle.std.specs.List.{AllByRecursion, IsDistinct, cons_option, filter_map, list_any, range_with_len}
use Rattle.std.proofs.lemmas.Bool.{eqb-true, eqb-false, ne_eqb}
use Rattle.std.proofs.lemmas.Map.Keys.{IsDistinct-cons, IsDistinct-head, IsDistinct-tail}
use Rattle.toml.specs.Data.{Data, Items, no_items, item, as_table}
use Rattle.pmb_command.specs.Bus.{HasItemForEach, IsCommand}
use Rattle.pmb_command.specs.Commands.{standard_entry}
use Rattle.pmb_command.specs.Entry.{EntryParts}
use Rattle.pmb_command.specs.Fitting.{is_fitting}
use Rattle.pmb_command.specs.Parts.{CommandParts, HaveOwnCodes, InitialParts}
use Rattle.pmb_command.specs.Standard.{standard_command}
use Rattle.pmb_command.proofs.FittingLemmas.{fitting_parts}
use Rattle.pmb_command.proofs.StandardLemmas.{standard_entry_at}
use Rattle.pmb_keys.specs.declared.fault.FaultKind.TheVariants as faults
use Rattle.pmb_keys.specs.CommandRules.{command_from, command_of, entry_rule, initial_of, initial_value, unsigned_rule}
use Rattle.pmb_keys.specs.FurtherKeys.{FurtherKeys, further_keys}
use Rattle.pmb_keys.specs.DeviceKeys.{DeviceKeys}
use Rattle.pmb_keys.specs.Rules.{typed}
use Rattle.pmb_keys.proofs.Steps.{if_bind, if_steps, if_tested}
use Rattle.pmb_table.specs.Profile.{at_command, commands_after, device_commands, placed, put, standard_commands}
use Rattle.pmb_table.proofs.Accepted.{All-put, standard_is_command}
use Rattle.pmb_table.proofs.StandardList.{standard_from, standard_from-all}
use Rattle.pmb_json_objects.specs.Laws.{IsOfWords}
use Rattle.pmb_accepted.proofs.Entries.{AreFurther, IsNamed, if_entry, if_further, if_unsigned, standard_named}
use Rattle.pmb_accepted.proofs.Initial.{HoldsAtFirst, if_initial}
use Rattle.pmb_accepted.proofs.Steps.{if_placed}

-- ---- one command

-- A command that a device with so many pages may have, whose coefficients and exponents have 16 and 5 bits.
pub record IsSoundCommand (pages : ℕ) (c : CommandParts) : Type 0 where
  pub command : IsCommand c
  pub items : HasItemForEach pages c.initial
  pub words : IsOfWords c.entry.kind

sound_from : (pages : ℕ) (e : EntryParts) (further : FurtherKeys) (initial : Option InitialParts) → IsNamed e
    → AreFurther e further → is_fitting e ≡ true → IfSome initial (HoldsAtFirst e pages)
    → IsSoundCommand pages (command_from e further initial)
sound_from pages e further None named are fits holds = record {
  command = record {
    entry = record { byte = named.byte; name = named.name; fitting = fitting_parts e fits named.kind.ranges };
    initial = tt;
    unit = are.unit;
    bits = are.bits;
  };
  items = tt;
  words = named.kind.words;
}
sound_from pages e further (Some initial) named are fits holds = record {
  command = record {
    entry = record { byte = named.byte; name = named.name; fitting = fitting_parts e fits named.kind.ranges };
    initial = holds.are;
    unit = are.unit;
    bits = are.bits;
  };
  items = holds.items;
  words = named.kind.words;
}

if_command : (pages : ℕ) (taken : List ℕ) (d : Data) → IfOk (command_of pages taken d) (IsSoundCommand pages)
if_command pages taken d =
    if_bind (typed as_table d) _ _ (λ ms is. if_steps (entry_rule ms) _ IsNamed _ (if_entry ms)
    (λ worded named. if_bind (initial_value ms) _ _ (λ value is. if_steps (unsigned_rule worded ms) _ IsNamed _
    (if_unsigned worded ms named)
    (λ entry named. if_steps (further_keys entry ms) _ (AreFurther entry) _ (if_further entry ms)
    (λ further are. if_tested faults.CodeTwice (not (list_any (nat_eq entry.code) taken)) _ _
    (λ new. if_tested faults.BadForm (is_fitting entry) _ _
    (λ fits. if_steps (initial_of entry pages value) _ (λ o. IfSome o (HoldsAtFirst entry pages)) _
    (if_initial entry pages value)
    (λ initial holds. sound_from pages entry further initial named are fits holds))))))))

-- ---- commands with codes of their own

-- Commands of a device with so many pages, no two of which have one code.
pub record AreSoundCommands (pages : ℕ) (cs : List CommandParts) : Type 0 where
  pub each : AllByRecursion (IsSoundCommand pages) cs
  pub own_codes : HaveOwnCodes cs

-- a code that no command has, nor one that is put among them
other_put : (n : ℕ) (c : CommandParts) (cs : List CommandParts) → nat_eq n c.entry.code ≡ false
    → AllByRecursion (λ code. nat_eq n code ≡ false) (map (λ x. x.entry.code) cs)
    → AllByRecursion (λ code. nat_eq n code ≡ false) (map (λ x. x.entry.code) (put c cs))
other_put n c [] other all = (other, tt)
other_put n c (x ∷ xs) other all = by (nat_eq c.entry.code x.entry.code) (other_put n c xs other all.1)
  where
    by : (b : Bool) → AllByRecursion (λ code. nat_eq n code ≡ false) (map (λ x. x.entry.code) (put c xs))
        → AllByRecursion (λ code. nat_eq n code ≡ false)
        (map (λ x. x.entry.code) (if b then c ∷ xs else x ∷ put c xs))
    by true rest = (other, all.1)
    by false rest = (all.0, rest)

own_put : (c : CommandParts) (cs : List CommandParts) → HaveOwnCodes cs → HaveOwnCodes (put c cs)
own_put c [] own = IsDistinct-cons nat_eq c.entry.code [] tt own
own_put c (x ∷ xs) own =
    by (nat_eq c.entry.code x.entry.code) refl
    (own_put c xs (IsDistinct-tail nat_eq x.entry.code (map (λ x. x.entry.code) xs) own))
  where
    by : (b : Bool) → nat_eq c.entry.code x.entry.code ≡ b → HaveOwnCodes (put c xs)
        → HaveOwnCodes (if b then c ∷ xs else x ∷ put c xs)
    by true is rest =
        let same : x.entry.code ≡ c.entry.code = sym (eqb-true c.entry.code x.entry.code is) in
        subst (λ n. IsDistinct nat_eq (n ∷ map (λ x. x.entry.code) xs)) same own
    by false is rest =
        let other : nat_eq x.entry.code c.entry.code ≡ false =
        ne_eqb x.entry.code c.entry.code (λ same. eqb-false c.entry.code x.entry.code is (sym same)) in
        IsDistinct-cons nat_eq x.entry.code (map (λ x. x.entry.code) (put c xs))
        (other_put x.entry.code c xs other
        (IsDistinct-head nat_eq x.entry.code (map (λ x. x.entry.code) xs) own)) rest

-- ---- the standard commands

standard_sound : (pages code : ℕ) (e : EntryParts) → standard_entry code ≡ Some e
    → IsSoundCommand pages (standard_command e)
standard_sound pages code e has = record {
  command = standard_is_command code e (standard_entry_at code e has);
  items = tt;
  words = (standard_named code e has).kind.words;
}

-- their codes ascend
codes_from : (least a n : ℕ) → least ≤ a
    → AllByRecursion (λ code. least ≤ code) (map (λ x. x.entry.code) (standard_from a n))
codes_from least a zero low = tt
codes_from least a (suc n) low = by (standard_entry a) refl (codes_from least (a + 1) n (omega arith))
  where
    by : (o : Option EntryParts) → standard_entry a ≡ o
        → AllByRecursion (λ code. least ≤ code) (map (λ x. x.entry.code) (standard_from (a + 1) n))
        → AllByRecursion (λ code. least ≤ code)
        (map (λ x. x.entry.code)
        (map standard_command (cons_option o (filter_map standard_entry (range_with_len (a + 1) n)))))
    by None is rest = rest
    by (Some e) is rest = (omega (arith, (standard_entry_at a e is).same_code), rest)

others : (n : ℕ) (codes : List ℕ) → AllByRecursion (λ code. suc n ≤ code) codes
    → AllByRecursion (λ code. nat_eq n code ≡ false) codes
others n [] all = tt
others n (code ∷ codes) all =
    let above : suc n ≤ code = all.0 in
    (ne_eqb n code (λ same. omega arith), others n codes all.1)

standard_from_sound : (pages a n : ℕ) → AreSoundCommands pages (standard_from a n)
unfolding IsDistinct
standard_from_sound pages a zero = record { each = tt; own_codes = tt }
standard_from_sound pages a (suc n) = by (standard_entry a) refl (standard_from_sound pages (a + 1) n)
  where
    by : (o : Option EntryParts) → standard_entry a ≡ o → AreSoundCommands pages (standard_from (a + 1) n)
        → AreSoundCommands pages
        (map standard_command (cons_option o (filter_map standard_entry (range_with_len (a + 1) n))))
    by None is rest = rest
    by (Some e) is rest =
        let code : a ≡ e.code = sym (standard_entry_at a e is).same_code in
        let above : suc e.code ≤ a + 1 = omega arith in
        let later = map (λ (x : CommandParts). x.entry.code) (standard_from (a + 1) n) in
        record {
          each = (standard_sound pages a e is, rest.each);
          own_codes = (others e.code later (codes_from (suc e.code) (a + 1) n above), rest.own_codes);
        }

none_sound : (pages : ℕ) → AreSoundCommands pages []
unfolding IsDistinct
none_sound pages = record { each = tt; own_codes = tt }

all_standard_sound : (pages : ℕ) → AreSoundCommands pages standard_commands
all_standard_sound pages =
    subst (AreSoundCommands pages) (standard_from-all 256 refl) (standard_from_sound pages 0 256)

-- ---- the commands of a device

if_commands : (n pages : ℕ) (taken : List ℕ) (commands : List CommandParts) (ds : Items)
    → AreSoundCommands pages commands
    → IfOk (commands_after n pages taken commands ds) (AreSoundCommands pages)
if_commands n pages taken commands no_items are = are
if_commands n pages taken commands (item d ds) are =
    if_steps (placed (at_command n (length taken)) (command_of pages taken d)) _ (IsSoundCommand pages) _
    (if_placed (at_command n (length taken)) (command_of pages taken d) (IsSoundCommand pages)
    (if_command pages taken d))
    (λ c is. if_commands n pages (taken ++ c.entry.code ∷ []) (put c commands) ds
    (record {
      each = All-put (IsSoundCommand pages) c commands is are.each;
      own_codes = own_put c commands are.own_codes;
    }))

pub if_device_commands : (n : ℕ) (keys : DeviceKeys) → IfOk (device_commands n keys) (AreSoundCommands keys.pages)
if_device_commands n keys =
    if_commands n keys.pages [] (if keys.standard then standard_commands else []) keys.commands (by keys.standard)
  where
    by : (b : Bool) → AreSoundCommands keys.pages (if b then standard_commands else [])
    by true = all_standard_sound keys.pages
    by false = none_sound keys.pages
