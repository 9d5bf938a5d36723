-- The kind of a command that its keys say: its exponent and its coefficients are in their ranges.
use Rattle.std.proofs.Common.{ℤ, Bool, true, false, Option, Some, None, Ok}
use Rattle.std.specs.Prelude.{IfOk, codes, if◌then◌else◌}
use Rattle.std.specs.List.{AllByRecursion}
use Rattle.toml.specs.Data.{Data, Members, as_bool, as_integer, as_str, get_member}
use Rattle.pmb_coefficients.specs.Coefficients.{Coefficients}
use Rattle.pmb_coefficients.specs.Exponent.{IsExponent}
use Rattle.pmb_command.specs.Bus.{KeepsRanges}
use Rattle.pmb_command.specs.declared.entry.Kind.{Kind}
use Rattle.pmb_command.specs.declared.entry.Kind.TheVariants.{Raw, Number, Vout, VoutSigned, Status, Text}
use Rattle.pmb_keys.specs.declared.fault.FaultKind.TheVariants as faults
use Rattle.pmb_keys.specs.CommandRules.{KindRule, coefficients, direct_kind, exponent_of, exponent_rule, exponent_value}
use Rattle.pmb_keys.specs.CommandRules.{fixed_exponent, has_exponent, is_exponent, is_linear11, kind_of_words}
use Rattle.pmb_keys.specs.CommandRules.{kind_rule}
use Rattle.pmb_keys.specs.CommandRules.{kind_words, linear16_kind, no_coefficients, of_words, plain_kind, word_rule}
use Rattle.pmb_keys.specs.CommandRules.{words_of, words_rule}
use Rattle.pmb_keys.specs.Rules.{named, typed}
use Rattle.pmb_keys.proofs.Steps.{if_bind, if_defaulted, if_named, if_required, if_steps, if_tested, if_there}
use Rattle.pmb_value.specs.declared.number_format.NumberFormat.TheVariants.{Linear11, Linear11Fixed, Word, Half, Vid}
use Rattle.pmb_vid.specs.declared.table.VidTable.TheVariants.{Vr11, Vr12, Vr13, Imvp9, Amd625mv, Nvidia195mv}
use Rattle.pmb_value.specs.declared.vout.VoutFormat.{VoutFormat}
use Rattle.pmb_value.specs.declared.vout.VoutFormat.TheVariants.{Unsigned, Signed, Direct}
use Rattle.pmb_json_objects.specs.Laws.{AreOfWords, IsOfWords}
use Rattle.pmb_accepted.proofs.Numbers.{exponent_parts, if_coefficients, if_exponent}

-- A kind whose exponent or coefficients are in their ranges, and have 5 or 16 bits.
pub record IsSound (kind : Kind) : Type 0 where
  pub ranges : KeepsRanges kind
  pub words : IsOfWords kind

-- DIRECT with such coefficients, and a linear format with such an exponent
direct_sound : (d : Coefficients) → AreOfWords d → IsSound (Number (Word (Direct d)))
direct_sound d are = record { ranges = are.format; words = are }

-- ---- what the key `kind` says

-- what further keys make of a word is such a kind
abbrev MakesSound : KindRule → Type 0
MakesSound rule = (ms : Members) → IfOk (rule ms) IsSound

plain : (kind : Kind) → IsSound kind → MakesSound (plain_kind kind)
plain kind sound ms = if_bind (no_coefficients ms) _ _ (λ u is. sound)

direct : MakesSound direct_kind
direct ms = if_steps (coefficients ms) _ AreOfWords _ (if_coefficients ms) direct_sound

linear16 : (format : ℤ → VoutFormat)
    → ((exponent : ℤ) → IsExponent exponent → IsSound (Number (Word (format exponent))))
    → MakesSound (linear16_kind format)
linear16 format sound ms =
    if_bind (no_coefficients ms) _ _ (λ u is. if_steps _ _ IsExponent _
    (if_required exponent_value (codes "exponent") ms IsExponent if_exponent) sound)

unranged : (kind : Kind) → KeepsRanges kind → IsOfWords kind → MakesSound (plain_kind kind)
unranged kind ranges words = plain kind (record { ranges = ranges; words = words })

-- what is said of each word, one after the other
both : {A B : Type 0} → A → B → A × B
both one others = (one, others)

all_words : AllByRecursion (λ w. MakesSound w.1) kind_words
all_words =
    both (unranged Raw tt tt)
    (both (unranged (Number Linear11) tt tt)
    (both (unranged Vout tt tt)
    (both (unranged VoutSigned tt tt)
    (both direct
    (both (unranged Status tt tt)
    (both (unranged (Number Half) tt tt)
    (both (linear16 Unsigned (λ exponent is. record { ranges = is; words = is }))
    (both (linear16 Signed (λ exponent is. record { ranges = is; words = is }))
    (both (unranged (Number (Vid Vr11)) tt tt)
    (both (unranged (Number (Vid Vr12)) tt tt)
    (both (unranged (Number (Vid Vr13)) tt tt)
    (both (unranged (Number (Vid Imvp9)) tt tt)
    (both (unranged (Number (Vid Amd625mv)) tt tt)
    (both (unranged (Number (Vid Nvidia195mv)) tt tt)
    (both (unranged Text tt tt) tt)))))))))))))))

if_kind_word : (d : Data) → IfOk (word_rule faults.BadValue kind_words d) MakesSound
if_kind_word d =
    if_bind (typed as_str d) _ _ (λ text is. if_there faults.BadValue (named kind_words text) MakesSound
    (if_named kind_words text MakesSound all_words))

pub if_kind : (base : Kind) (ms : Members) → IsSound base → IfOk (kind_rule base ms) IsSound
if_kind base ms sound =
    if_steps _ _ MakesSound _ (if_defaulted (word_rule faults.BadValue kind_words) (plain_kind base) (codes "kind") ms
    MakesSound (plain base sound) if_kind_word) (λ rule makes. makes ms)

-- ---- what the key `exponent` says

if_fixed : (kind : Kind) (d : Data) → IfOk (fixed_exponent kind d) IsSound
if_fixed kind d =
    if_bind (typed as_integer d) _ _ (λ z is. if_tested faults.UnknownKey (is_linear11 kind) _ _
    (λ linear. if_tested faults.BadValue (is_exponent z) _ _
    (λ fits. record { ranges = exponent_parts z fits; words = tt })))

pub if_exponent_key : (kind : Kind) (ms : Members) → IsSound kind → IfOk (exponent_rule kind ms) IsSound
if_exponent_key kind ms sound = by (get_member (codes "exponent") ms)
  where
    chosen : (d : Data) (b : Bool) → IfOk (if b then Ok kind else fixed_exponent kind d) IsSound
    chosen d true = sound
    chosen d false = if_fixed kind d

    by : (o : Option Data) → IfOk (exponent_of kind o) IsSound
    by None = sound
    by (Some d) = chosen d (has_exponent kind)

-- ---- what the key `unsigned` says

pub of_words_sound : (unsigned : Bool) (d : Coefficients) → AreOfWords d → AreOfWords (of_words unsigned d)
of_words_sound unsigned d are = record {
  slope = are.slope;
  offset = are.offset;
  format = record { slope = are.format.slope; least = are.format.least; greatest = are.format.greatest };
}

if_words : (unsigned : Bool) (kind : Kind) → IsSound kind → IfOk (kind_of_words unsigned kind) IsSound
if_words unsigned Raw sound = tt
if_words unsigned (Number Linear11) sound = tt
if_words unsigned (Number (Linear11Fixed exponent)) sound = tt
if_words unsigned (Number (Word (Unsigned exponent))) sound = tt
if_words unsigned (Number (Word (Signed exponent))) sound = tt
if_words unsigned (Number (Word (Direct d))) sound =
    direct_sound (of_words unsigned d) (of_words_sound unsigned d sound.words)
if_words unsigned (Number Half) sound = tt
if_words unsigned (Number (Vid table)) sound = tt
if_words unsigned Vout sound = tt
if_words unsigned VoutSigned sound = tt
if_words unsigned Status sound = tt
if_words unsigned Text sound = tt

pub if_unsigned_key : (kind : Kind) (ms : Members) → IsSound kind → IfOk (words_rule kind ms) IsSound
if_unsigned_key kind ms sound = by (get_member (codes "unsigned") ms)
  where
    by : (o : Option Data) → IfOk (words_of kind o) IsSound
    by None = sound
    by (Some d) = if_bind (typed as_bool d) _ _ (λ unsigned is. if_words unsigned kind sound)
