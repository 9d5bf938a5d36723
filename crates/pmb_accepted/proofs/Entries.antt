-- The entry of a command that its keys say, but for what it begins with: its code, name, forms and kind, its
-- unit and the names of its bits.
use Rattle.std.proofs.Common.{◌≡◌, ◌<◌, ℕ, Bool, true, false, ◌&&◌, Option, Some, None, List, [], refl}
use Rattle.std.specs.Prelude.{IfOk, IfSome, codes, find, if◌then◌else◌, nat_eq, option_map}
use Rattle.std.specs.List.{list_all}
use Rattle.std.specs.Option.{option_and_then}
use Rattle.toml.specs.Data.{Data, Members, as_bool, as_str, get_member}
use Rattle.pmb_command.specs.Bus.{AreBits, IsUnitOf}
use Rattle.pmb_command.specs.Commands.{code_of_name, standard_entry}
use Rattle.pmb_command.specs.declared.entry.Kind.{Kind}
use Rattle.pmb_command.specs.declared.entry.Kind.TheVariants.{Raw, Number, Vout, VoutSigned, Status, Text}
use Rattle.pmb_command.specs.Entry.{EntryParts}
use Rattle.pmb_command.specs.Fitting.{is_number}
use Rattle.pmb_command.specs.Names.{IsNameOf, IsUnit, code_name, is_name, is_unit}
use Rattle.pmb_command.specs.Standard.{is_general}
use Rattle.pmb_command.specs.Units.{UnitRow, standard_unit, unit_rows}
use Rattle.pmb_command.proofs.Finding.{find_among}
use Rattle.pmb_command.proofs.NameLemmas.{fitting_name, made_name, unit_text}
use Rattle.pmb_command.proofs.StandardLemmas.{standard_entry_at}
use Rattle.pmb_keys.specs.declared.fault.FaultKind.TheVariants as faults
use Rattle.pmb_keys.specs.CommandRules.{bare_entry, base_of, base_rule, byte_rule, command_key_names, entry_rule}
use Rattle.pmb_keys.specs.CommandRules.{exponent_rule, kind_rule, shape_rule, unsigned_rule, words_rule}
use Rattle.pmb_keys.specs.FurtherKeys.{FurtherKeys, bits_of, bits_rule, further_keys, has_standard_kind, unit_of}
use Rattle.pmb_keys.specs.FurtherKeys.{unit_rule, unit_without_key}
use Rattle.pmb_keys.specs.Rules.{defaulted, only, optional, or_fault, typed}
use Rattle.pmb_keys.proofs.Arrays.{bind-ok}
use Rattle.pmb_keys.proofs.NamedBits.{named_bits, no_bits}
use Rattle.pmb_keys.proofs.Steps.{if_bind, if_defaulted, if_optional, if_steps, if_tested}
use Rattle.pmb_value.specs.declared.number_format.NumberFormat.TheVariants.{Linear11, Linear11Fixed, Word, Half, Vid}
use Rattle.pmb_json_objects.specs.Laws.{IsOfWords}
use Rattle.pmb_accepted.proofs.KindRanges.{IsSound, if_exponent_key, if_kind, if_unsigned_key}
use Rattle.pmb_accepted.proofs.Numbers.{if_byte}

-- What is known of an entry before its parts are looked at together.
pub record IsNamed (e : EntryParts) : Type 0 where
  pub byte : e.code < 256
  pub name : IsNameOf e.code e.name
  pub kind : IsSound e.kind

-- ---- the command that the other keys change

-- a standard command
general_words : (kind : Kind) → is_general kind ≡ true → IsOfWords kind
general_words Raw is = tt
general_words (Number Linear11) is = tt
general_words (Number (Linear11Fixed exponent)) is = tt
general_words (Number (Word format)) is = cc
general_words (Number Half) is = tt
general_words (Number (Vid table)) is = tt
general_words Vout is = tt
general_words VoutSigned is = tt
general_words Status is = tt
general_words Text is = tt

pub standard_named : (code : ℕ) (e : EntryParts) → standard_entry code ≡ Some e → IsNamed e
standard_named code e has =
    let at = standard_entry_at code e has in
    record {
      byte = at.entry.byte;
      name = at.entry.name;
      kind = record { ranges = at.entry.fitting.ranges; words = general_words e.kind at.general };
    }

if_standard : (code : Option ℕ) → IfOk (or_fault faults.UnknownName (option_and_then standard_entry code)) IsNamed
if_standard None = tt
if_standard (Some code) = by (standard_entry code) refl
  where
    by : (o : Option EntryParts) → standard_entry code ≡ o → IfOk (or_fault faults.UnknownName o) IsNamed
    by None has = tt
    by (Some e) has = standard_named code e has

-- a bare one
bare_named : (code : ℕ) (name : List ℕ) → code < 256 → IsNameOf code name → IsNamed (bare_entry code name)
bare_named code name byte is = record { byte = byte; name = is; kind = record { ranges = tt; words = tt } }

if_base : (code : Option ℕ) (name : Option Data) → IfSome code (λ n. n < 256) → IfOk (base_of code name) IsNamed
if_base None None byte = tt
if_base None (Some d) byte = if_bind (typed as_str d) _ _ (λ name is. if_standard (code_of_name name))
if_base (Some code) None byte = bare_named code (code_name code) byte (made_name code)
if_base (Some code) (Some d) byte =
    if_bind (typed as_str d) _ _ (λ name is. if_tested faults.BadName (is_name name) _ _
    (λ fits. bare_named code name byte (fitting_name name fits code)))

if_base_rule : (ms : Members) → IfOk (base_rule ms) IsNamed
if_base_rule ms =
    if_steps (optional byte_rule (codes "code") ms) _ (λ o. IfSome o (λ n. n < 256)) _
    (if_optional byte_rule (codes "code") ms (λ n. n < 256) if_byte)
    (λ code byte. if_base code (get_member (codes "name") ms) byte)

-- ---- the entry

pub if_entry : (ms : Members) → IfOk (entry_rule ms) IsNamed
if_entry ms =
    if_bind (only command_key_names ms) _ _ (λ known is. if_steps (base_rule ms) _ IsNamed _ (if_base_rule ms)
    (λ base named. if_bind (shape_rule base.shape ms) _ _ (λ shape is. if_steps (kind_rule base.kind ms) _ IsSound _
    (if_kind base.kind ms named.kind)
    (λ worded sound. if_steps (exponent_rule worded ms) _ IsSound _ (if_exponent_key worded ms sound)
    (λ kind sound. if_bind (defaulted (typed as_bool) base.paged (codes "paged") ms) _ _
    (λ paged is. record { byte = named.byte; name = named.name; kind = sound }))))))

pub if_unsigned : (e : EntryParts) (ms : Members) → IsNamed e → IfOk (unsigned_rule e ms) IsNamed
if_unsigned e ms named =
    if_steps (words_rule e.kind ms) _ IsSound _ (if_unsigned_key e.kind ms named.kind)
    (λ kind sound. record { byte = named.byte; name = named.name; kind = sound })

-- ---- the keys after it

-- the units of the standard commands are printable
every_unit_is_printable : list_all (λ r. is_unit r.unit) unit_rows ≡ true
unfolding unit_rows
every_unit_is_printable = refl

standard_unit_text : (code : ℕ) → IfSome (standard_unit code) IsUnit
standard_unit_text code = by (find (λ r. nat_eq r.code code) unit_rows) refl
  where
    by : (o : Option UnitRow) → find (λ r. nat_eq r.code code) unit_rows ≡ o
        → IfSome (option_map (λ r. r.unit) o) IsUnit
    by None found = tt
    by (Some r) found =
        unit_text r.unit
        (find_among (λ r. nat_eq r.code code) (λ r. is_unit r.unit) unit_rows r every_unit_is_printable found)

if_unit_rule : (kind : Kind) (d : Data) → IfOk (unit_rule kind d) (λ o. IfSome o (IsUnitOf kind))
if_unit_rule kind d =
    if_bind (typed as_str d) _ _ (λ unit is. if_tested faults.UnknownKey (is_number kind) _ _
    (λ number. if_tested faults.BadValue (is_unit unit) _ _
    (λ fits. record { number = number; text = unit_text unit fits })))

unit_of_number : (kind : Kind) (o : Option (List ℕ)) → is_number kind ≡ true → IfSome o IsUnit
    → IfSome o (IsUnitOf kind)
unit_of_number kind None number text = tt
unit_of_number kind (Some unit) number text = record { number = number; text = text }

without_key : (e : EntryParts) (ms : Members) → IfSome (unit_without_key e ms) (IsUnitOf e.kind)
without_key e ms = by (has_standard_kind ms) (is_number e.kind) refl
  where
    by : (standard number : Bool) → is_number e.kind ≡ number
        → IfSome (if standard && number then standard_unit e.code else None) (IsUnitOf e.kind)
    by false number is = tt
    by true false is = tt
    by true true is = unit_of_number e.kind (standard_unit e.code) is (standard_unit_text e.code)

-- What is known of the keys after the entry's.
pub record AreFurther (e : EntryParts) (further : FurtherKeys) : Type 0 where
  pub unit : IfSome further.unit (IsUnitOf e.kind)
  pub bits : AreBits e further.bits

pub if_further : (e : EntryParts) (ms : Members) → IfOk (further_keys e ms) (AreFurther e)
if_further e ms =
    if_steps (unit_of e ms) _ (λ o. IfSome o (IsUnitOf e.kind)) _
    (if_defaulted (unit_rule e.kind) (unit_without_key e ms) (codes "unit") ms (λ o. IfSome o (IsUnitOf e.kind))
    (without_key e ms) (if_unit_rule e.kind))
    (λ unit fits. if_steps (bits_of e ms) _ (AreBits e) _
    (if_defaulted (bits_rule e) [] (codes "bits") ms (AreBits e) (no_bits e)
    (λ d. named_bits e d (bits_rule e d) (λ bits. bits) (bind-ok (bits_rule e d))))
    (λ bits are. if_bind (defaulted (typed as_bool) false (codes "phased") ms) _ _
    (λ phased is. record { unit = fits; bits = are })))
