-- What a table of a profile says of one command.
use Rattle.std.specs.Prelude.{ℕ, ℤ, pos, negsuc, Bool, true, false, if◌then◌else◌, not, ◌&&◌, ◌||◌, ◌%◌, is_some, Option, Some, None}
use Rattle.std.specs.Prelude.{Result, Ok, Err, List, [], ◌∷◌, codes, length, nat_eq, int_le}
use Rattle.std.specs.List.{list_any}
use Rattle.std.specs.Option.{option_and_then}
use Rattle.std.specs.Ordering.{int_eq}
use Rattle.std.specs.Result.{result_ok}
use Rattle.toml.specs.Data.{Data, Items, Members, as_array, as_str, as_integer, as_bool, as_table, get_member}
use Rattle.hex.specs.Hex.{decode_of}
use Rattle.pmb_coefficients.specs.Coefficients.{Coefficients}
use Rattle.pmb_vid.specs.declared.table.VidTable.TheVariants.{Vr11, Vr12, Vr13, Imvp9, Amd625mv, Nvidia195mv}
use Rattle.pmb_value.specs.declared.vout.VoutFormat.{VoutFormat}
use Rattle.pmb_value.specs.declared.vout.VoutFormat.TheVariants.{Unsigned, Signed, Direct}
use Rattle.pmb_value.specs.declared.number_format.NumberFormat.TheVariants.{Linear11, Linear11Fixed, Word, Half, Vid}
use Rattle.pmb_keys.specs.declared.fault.FaultKind.{FaultKind}
use Rattle.pmb_keys.specs.declared.fault.FaultKind.TheVariants as faults
use Rattle.pmb_command.specs.declared.form.Form.{Form}
use Rattle.pmb_command.specs.declared.form.Form.TheVariants.{Zero, One, Two, Four, Eight, Block}
use Rattle.pmb_command.specs.declared.form.Shape.{Shape}
use Rattle.pmb_command.specs.declared.entry.Kind.{Kind}
use Rattle.pmb_command.specs.declared.entry.Kind.TheVariants.{Raw, Number, Vout, VoutSigned, Status, Text}
use Rattle.pmb_command.specs.Entry.{EntryParts}
use Rattle.pmb_command.specs.Commands.{standard_entry, code_of_name}
use Rattle.pmb_command.specs.Parts.{CommandParts, InitialParts, Same, Each}
use Rattle.pmb_command.specs.Names.{code_name, is_name}
use Rattle.pmb_command.specs.Fitting.{register_form, is_length, is_fitting}
use Rattle.pmb_keys.specs.FurtherKeys.{FurtherKeys, further_keys}
use Rattle.pmb_keys.specs.Rules.{bind, or_fault, unless, named, natural_within, only, typed, required, optional}
use Rattle.pmb_keys.specs.Rules.{defaulted, each_of, item_count}

-- the keys of a command's table
abbrev pub command_key_names : List (List ℕ)
command_key_names =
    codes "code" ∷ codes "name" ∷ codes "write" ∷ codes "read" ∷ codes "call" ∷ codes "kind" ∷ codes "m" ∷ codes "b"
    ∷ codes "r"
    ∷ codes "exponent" ∷ codes "paged" ∷ codes "initial" ∷ codes "unsigned" ∷ codes "unit" ∷ codes "bits" ∷ codes "phased" ∷ []

-- the words for the forms in which a command is written, read and called
abbrev pub write_forms : List (List ℕ × Option Form)
write_forms =
    (codes "none", None) ∷ (codes "zero", Some Zero) ∷ (codes "one", Some One) ∷ (codes "two", Some Two)
    ∷ (codes "four", Some Four)
    ∷ (codes "eight", Some Eight) ∷ (codes "block", Some Block) ∷ []

abbrev pub read_forms : List (List ℕ × Option Form)
read_forms =
    (codes "none", None) ∷ (codes "one", Some One) ∷ (codes "two", Some Two) ∷ (codes "four", Some Four)
    ∷ (codes "eight", Some Eight)
    ∷ (codes "block", Some Block) ∷ []

abbrev pub call_forms : List (List ℕ × Option Form)
call_forms = (codes "none", None) ∷ (codes "two", Some Two) ∷ (codes "block", Some Block) ∷ []

-- a whole number from 0 to 255
abbrev pub byte_rule : Data → Result ℕ FaultKind
byte_rule d = bind (typed as_integer d) (λ z. or_fault faults.BadValue (natural_within 0 255 z))

-- one of some words, or else a fault
abbrev pub word_rule : {X : Type 0} → FaultKind → List (List ℕ × X) → Data → Result X FaultKind
word_rule fault words d = bind (typed as_str d) (λ text. or_fault fault (named words text))

-- a command that only its code tells: no forms, raw, not paged
abbrev pub bare_entry : ℕ → List ℕ → EntryParts
bare_entry code name = record {
  code = code;
  name = name;
  shape =
      record { write = None; read = None; call = None };
  kind = Raw;
  paged = false;
}

-- What the other keys change: without a code the standard command of the name; else a bare one,
-- with the name or one made of the code.
abbrev pub base_of : Option ℕ → Option Data → Result EntryParts FaultKind
base_of None None = Err faults.MissingKey
base_of None (Some d) = bind (typed as_str d)
    (λ name. or_fault faults.UnknownName (option_and_then standard_entry (code_of_name name)))
base_of (Some code) None = Ok (bare_entry code (code_name code))
base_of (Some code) (Some d) =
    bind (typed as_str d) (λ name. bind (unless faults.BadName (is_name name)) (λ _. Ok (bare_entry code name)))

-- the ranges of m, b and r
abbrev pub is_slope : ℤ → Bool
is_slope z = (int_le (negsuc 32767) z && int_le z (pos 32767)) && not (int_eq z (pos 0))

abbrev pub is_offset : ℤ → Bool
is_offset z = int_le (negsuc 32767) z && int_le z (pos 32767)

abbrev pub is_scale : ℤ → Bool
is_scale z = int_le (negsuc 8) z && int_le z (pos 9)

-- a coefficient that has to be there
abbrev pub coefficient : (ℤ → Bool) → List ℕ → Members → Result ℤ FaultKind
coefficient fits key ms = required (λ d. bind (typed as_integer d)
    (λ z. bind (unless faults.BadCoefficients (fits z)) (λ _. Ok z))) key ms

-- m, b and r, which have to be there
abbrev pub coefficients : Members → Result Coefficients FaultKind
coefficients ms =
    bind (coefficient is_slope (codes "m") ms) (λ m.
    bind (coefficient is_offset (codes "b") ms) (λ b.
    bind (coefficient is_scale (codes "r") ms) (λ r.
    Ok (record { m = m; b = b; r = r; unsigned = false }))))

-- an integer that may not be there; its type is looked at first
abbrev pub absent_of : Option Data → Result Unit FaultKind
absent_of None = Ok tt
absent_of (Some d) = bind (typed as_integer d) (λ _. Err faults.UnknownKey)

abbrev pub no_coefficients : Members → Result Unit FaultKind
no_coefficients ms =
    bind (absent_of (get_member (codes "m") ms)) (λ _.
    bind (absent_of (get_member (codes "b") ms)) (λ _.
    absent_of (get_member (codes "r") ms)))

-- the command that the other keys change, as `code` and `name` tell it
abbrev pub base_rule : Members → Result EntryParts FaultKind
base_rule ms = bind (optional byte_rule (codes "code") ms) (λ code. base_of code (get_member (codes "name") ms))

-- the forms, where those of the base stay without a key
abbrev pub shape_rule : Shape → Members → Result Shape FaultKind
shape_rule base ms =
    bind (defaulted (word_rule faults.BadForm write_forms) base.write (codes "write") ms) (λ write.
    bind (defaulted (word_rule faults.BadForm read_forms) base.read (codes "read") ms) (λ read.
    bind (defaulted (word_rule faults.BadForm call_forms) base.call (codes "call") ms) (λ call.
    Ok (record { write = write; read = read; call = call }))))

-- what further keys make of a word for a kind
abbrev pub KindRule : Type 0
KindRule = Members → Result Kind FaultKind

-- a kind with which no coefficients may be there
abbrev pub plain_kind : Kind → KindRule
plain_kind kind ms = bind (no_coefficients ms) (λ _. Ok kind)

-- DIRECT, with which they have to be there
abbrev pub direct_kind : KindRule
direct_kind ms = bind (coefficients ms) (λ d. Ok (Number (Word (Direct d))))

-- an exponent of two, of five bits in two's complement
abbrev pub is_exponent : ℤ → Bool
is_exponent exponent = int_le (negsuc 15) exponent && int_le exponent (pos 15)

abbrev pub exponent_value : Data → Result ℤ FaultKind
exponent_value d = bind (typed as_integer d)
    (λ exponent. bind (unless faults.BadValue (is_exponent exponent)) (λ _. Ok exponent))

-- ULINEAR16 or SLINEAR16, with which the exponent has to be there
abbrev pub linear16_kind : (ℤ → VoutFormat) → KindRule
linear16_kind format ms =
    bind (no_coefficients ms) (λ _.
    bind (required exponent_value (codes "exponent") ms) (λ exponent.
    Ok (Number (Word (format exponent)))))

abbrev pub kind_words : List (List ℕ × KindRule)
kind_words =
    (codes "raw", plain_kind Raw) ∷ (codes "linear11", plain_kind (Number Linear11)) ∷ (codes "vout", plain_kind Vout)
    ∷ (codes "vout_signed", plain_kind VoutSigned) ∷ (codes "direct", direct_kind) ∷ (codes "status", plain_kind Status)
    ∷ (codes "half", plain_kind (Number Half))
    ∷ (codes "ulinear16", linear16_kind Unsigned)
    ∷ (codes "slinear16", linear16_kind Signed)
    ∷ (codes "vid:vr11", plain_kind (Number (Vid Vr11)))
    ∷ (codes "vid:vr12", plain_kind (Number (Vid Vr12)))
    ∷ (codes "vid:vr13", plain_kind (Number (Vid Vr13)))
    ∷ (codes "vid:imvp9", plain_kind (Number (Vid Imvp9)))
    ∷ (codes "vid:amd625mv", plain_kind (Number (Vid Amd625mv)))
    ∷ (codes "vid:nvidia195mv", plain_kind (Number (Vid Nvidia195mv)))
    ∷ (codes "text", plain_kind Text)
    ∷ []

-- the kind, where that of the base stays without a key, and then its coefficients
abbrev pub kind_rule : Kind → Members → Result Kind FaultKind
kind_rule base ms = bind (defaulted (word_rule faults.BadValue kind_words) (plain_kind base) (codes "kind") ms)
    (λ rule. rule ms)

-- the data are numbers in LINEAR11
abbrev pub is_linear11 : Kind → Bool
is_linear11 Raw = false
is_linear11 (Number Linear11) = true
is_linear11 (Number (Linear11Fixed exponent)) = true
is_linear11 (Number (Word format)) = false
is_linear11 (Number Half) = false
is_linear11 (Number (Vid table)) = false
is_linear11 Vout = false
is_linear11 VoutSigned = false
is_linear11 Status = false
is_linear11 Text = false

-- .. or in ULINEAR16 or SLINEAR16, whose exponent was read together with the kind
abbrev pub has_exponent : Kind → Bool
has_exponent Raw = false
has_exponent (Number Linear11) = false
has_exponent (Number (Linear11Fixed exponent)) = false
has_exponent (Number (Word (Unsigned exponent))) = true
has_exponent (Number (Word (Signed exponent))) = true
has_exponent (Number (Word (Direct d))) = false
has_exponent (Number Half) = false
has_exponent (Number (Vid table)) = false
has_exponent Vout = false
has_exponent VoutSigned = false
has_exponent Status = false
has_exponent Text = false

-- the exponent that a key fixes for LINEAR11; its type is looked at first, then that it goes with LINEAR11
-- alone
abbrev pub fixed_exponent : Kind → Data → Result Kind FaultKind
fixed_exponent kind d =
    bind (typed as_integer d) (λ exponent.
    bind (unless faults.UnknownKey (is_linear11 kind)) (λ _.
    bind (unless faults.BadValue (is_exponent exponent)) (λ _.
    Ok (Number (Linear11Fixed exponent)))))

abbrev pub exponent_of : Kind → Option Data → Result Kind FaultKind
exponent_of kind None = Ok kind
exponent_of kind (Some d) = if has_exponent kind then Ok kind else fixed_exponent kind d

-- a kind, with the exponent where a key fixes one
abbrev pub exponent_rule : Kind → Members → Result Kind FaultKind
exponent_rule kind ms = exponent_of kind (get_member (codes "exponent") ms)

-- coefficients for words that count as they stand, or in two's complement
abbrev pub of_words : Bool → Coefficients → Coefficients
of_words unsigned d = record { m = d.m; b = d.b; r = d.r; unsigned = unsigned }

-- a kind for such words: DIRECT alone has them
abbrev pub kind_of_words : Bool → Kind → Result Kind FaultKind
kind_of_words unsigned Raw = Err faults.UnknownKey
kind_of_words unsigned (Number Linear11) = Err faults.UnknownKey
kind_of_words unsigned (Number (Linear11Fixed exponent)) = Err faults.UnknownKey
kind_of_words unsigned (Number (Word (Unsigned exponent))) = Err faults.UnknownKey
kind_of_words unsigned (Number (Word (Signed exponent))) = Err faults.UnknownKey
kind_of_words unsigned (Number (Word (Direct d))) = Ok (Number (Word (Direct (of_words unsigned d))))
kind_of_words unsigned (Number Half) = Err faults.UnknownKey
kind_of_words unsigned (Number (Vid table)) = Err faults.UnknownKey
kind_of_words unsigned Vout = Err faults.UnknownKey
kind_of_words unsigned VoutSigned = Err faults.UnknownKey
kind_of_words unsigned Status = Err faults.UnknownKey
kind_of_words unsigned Text = Err faults.UnknownKey

-- whether words count as they stand, by a key; its type is looked at first, then that it goes with DIRECT
-- alone
abbrev pub words_of : Kind → Option Data → Result Kind FaultKind
words_of kind None = Ok kind
words_of kind (Some d) = bind (typed as_bool d) (λ unsigned. kind_of_words unsigned kind)

abbrev pub words_rule : Kind → Members → Result Kind FaultKind
words_rule kind ms = words_of kind (get_member (codes "unsigned") ms)

-- an entry with another kind
abbrev pub with_kind : EntryParts → Kind → EntryParts
with_kind e kind = record { code = e.code; name = e.name; shape = e.shape; kind = kind; paged = e.paged }

-- .. with the one that the key `unsigned` makes of its kind
abbrev pub unsigned_rule : EntryParts → Members → Result EntryParts FaultKind
unsigned_rule e ms = bind (words_rule e.kind ms) (λ kind. Ok (with_kind e kind))

-- What the keys but for `initial` and those after it say, each ruled in its turn.
abbrev pub entry_rule : Members → Result EntryParts FaultKind
entry_rule ms =
    bind (only command_key_names ms) (λ _.
    bind (base_rule ms) (λ base.
    bind (shape_rule base.shape ms) (λ shape.
    bind (kind_rule base.kind ms) (λ worded.
    bind (exponent_rule worded ms) (λ kind.
    bind (defaulted (typed as_bool) base.paged (codes "paged") ms) (λ paged.
    Ok (record { code = base.code; name = base.name; shape = shape; kind = kind; paged = paged })))))))

-- a value, which may be an array, has the type of `initial`: a string, or an array of strings
abbrev pub text_type : Data → Option Items → Result Unit FaultKind
text_type d None = bind (typed as_str d) (λ _. Ok tt)
text_type d (Some items) = bind (each_of (typed as_str) items) (λ _. Ok tt)

-- the value of `initial`; its type is looked at first
abbrev pub initial_value : Members → Result (Option Data) FaultKind
initial_value ms = optional (λ d. bind (text_type d (as_array d)) (λ _. Ok d)) (codes "initial") ms

-- the bytes that a text of hexadecimal digits spells
abbrev pub hex_bytes : List ℕ → Option (List ℕ)
hex_bytes text = result_ok (decode_of text)

-- a command has a register, and says what it begins with; PAGE begins as 0, and VOUT_MODE as the device's key says
abbrev pub register_check : EntryParts → Result Unit FaultKind
register_check e =
    bind (unless faults.BadInitial (not (nat_eq e.code 0x00 || nat_eq e.code 0x20))) (λ _.
    unless faults.BadInitial (is_some (register_form e.shape)))

-- the bytes that a register begins with on a page
abbrev pub initial_bytes : EntryParts → List ℕ → Result (List ℕ) FaultKind
initial_bytes e text =
    bind (register_check e) (λ _.
    bind (or_fault faults.BadInitial (hex_bytes text)) (λ bytes.
    bind (unless faults.BadInitial (is_length (register_form e.shape) (length bytes))) (λ _.
    Ok bytes)))

-- those of a value, which is a string
abbrev pub bytes_rule : EntryParts → Data → Result (List ℕ) FaultKind
bytes_rule e d = bind (typed as_str d) (initial_bytes e)

-- a command has a value for each page, and there is an item for each
abbrev pub items_check : EntryParts → ℕ → Items → Result Unit FaultKind
items_check e pages items =
    bind (unless faults.BadInitial e.paged) (λ _. unless faults.BadInitial (nat_eq (item_count items) pages))

-- items of such strings, one for each page of a command that has a value for each
abbrev pub items_rule : EntryParts → ℕ → Items → Result (List (List ℕ)) FaultKind
items_rule e pages items = bind (items_check e pages items) (λ _. each_of (bytes_rule e) items)

-- what a register begins with, by a value that may be an array
abbrev pub initial_rule : EntryParts → ℕ → Data → Option Items → Result InitialParts FaultKind
initial_rule e pages d None = bind (bytes_rule e d) (λ bytes. Ok (Same bytes))
initial_rule e pages d (Some items) = bind (items_rule e pages items) (λ each. Ok (Each each))

abbrev pub initial_of : EntryParts → ℕ → Option Data → Result (Option InitialParts) FaultKind
initial_of e pages None = Ok None
initial_of e pages (Some d) = bind (initial_rule e pages d (as_array d)) (λ initial. Ok (Some initial))

-- a command of what its keys say
abbrev pub command_from : EntryParts → FurtherKeys → Option InitialParts → CommandParts
command_from entry further initial = record {
  entry = entry;
  initial = initial;
  unit = further.unit;
  bits = further.bits;
  phased = further.phased;
}

-- A command of a device with so many pages, in which earlier tables have these codes: the keys, then
-- CodeTwice, then BadForm, then BadInitial.
abbrev pub command_of : ℕ → List ℕ → Data → Result CommandParts FaultKind
command_of pages taken d =
    bind (typed as_table d) (λ ms.
    bind (entry_rule ms) (λ worded.
    bind (initial_value ms) (λ value.
    bind (unsigned_rule worded ms) (λ entry.
    bind (further_keys entry ms) (λ further.
    bind (unless faults.CodeTwice (not (list_any (nat_eq entry.code) taken))) (λ _.
    bind (unless faults.BadForm (is_fitting entry)) (λ _.
    bind (initial_of entry pages value) (λ initial.
    Ok (command_from entry further initial)))))))))

-- What of `initial` is refused without memory: a string for a command that says nothing of a register, or
-- of an odd number of digits, and an array for a command without a value for each page, or with another
-- number of items than there are pages.
abbrev pub text_check : EntryParts → List ℕ → Result Unit FaultKind
text_check e text =
    bind (register_check e) (λ _. unless faults.BadInitial (not (nat_eq (length text % 2) 1)))

abbrev pub value_check : EntryParts → ℕ → Data → Option Items → Result Unit FaultKind
value_check e pages d None = bind (typed as_str d) (text_check e)
value_check e pages d (Some items) = items_check e pages items

abbrev pub initial_check : EntryParts → ℕ → Option Data → Result Unit FaultKind
initial_check e pages None = Ok tt
initial_check e pages (Some d) = value_check e pages d (as_array d)

-- What of a command is refused without memory: all but what only the bytes of `initial` tell.
abbrev pub command_check : ℕ → List ℕ → Data → Result Unit FaultKind
command_check pages taken d =
    bind (typed as_table d) (λ ms.
    bind (entry_rule ms) (λ worded.
    bind (initial_value ms) (λ value.
    bind (unsigned_rule worded ms) (λ entry.
    bind (further_keys entry ms) (λ further.
    bind (unless faults.CodeTwice (not (list_any (nat_eq entry.code) taken))) (λ _.
    bind (unless faults.BadForm (is_fitting entry)) (λ _.
    initial_check entry pages value)))))))
