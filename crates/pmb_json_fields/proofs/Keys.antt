-- The keys of what is said of data are some of those that there are, in their order. For the law
-- `keys_are_some_of_nine`. What the command's kind says has one of eleven lists of keys, and the key
-- of a text comes after them.
use Rattle.std.proofs.Common.{ℕ, ◌+◌, ◌*◌, Bool, true, false, Option, Some, None, Result, Ok, Err, List, [], ◌∷◌}
use Rattle.std.proofs.Common.{codes, inl, inr, refl, subst, sym}
use Rattle.std.proofs.lemmas.List.{map-append}
use Rattle.pmb_quantity.specs.Fraction.{Fraction}
use Rattle.pmb_value.specs.WordFault.{value_in}
use Rattle.pmb_value.specs.declared.number_format.WordFault.{WordFault}
use Rattle.pmb_value.specs.declared.sign.Sign.{Sign}
use Rattle.pmb_value.specs.declared.sign.Sign.TheVariants.{Unsigned, Signed}
use Rattle.pmb_voltage.specs.Voltage.{VoltagesData, voltage_format}
use Rattle.pmb_voltage.specs.declared.voltage.NoVoltage.{NoVoltage}
use Rattle.pmb_voltage.specs.declared.voltage.VoltageFormat.{VoltageFormat}
use Rattle.pmb_command.specs.declared.entry.Kind.{Kind}
use Rattle.pmb_command.specs.declared.entry.Kind.TheVariants.{Raw, Number, Vout, VoutSigned, Status, Text}
use Rattle.pmb_command.specs.Parts.{CommandParts}
use Rattle.pmb_command_data.specs.Text.{text_of}
use Rattle.pmb_json_text.specs.Member.{IsPart, Member}
use Rattle.pmb_json_text.proofs.Distinct.{parts_in_a_row}
use Rattle.pmb_json_fields.specs.declared.access.Access.{Access}
use Rattle.pmb_json_fields.specs.declared.access.Access.TheVariants.{Read, Write}
use Rattle.pmb_json_fields.specs.declared.basis.Basis.{Basis}
use Rattle.pmb_json_fields.specs.declared.basis.Basis.TheVariants.{Told, Assumed}
use Rattle.pmb_json_fields.specs.Laws.{data_keys, keys}
use Rattle.pmb_json_fields.specs.Value.{bits_members, data_members, form_of, format_members, kind_members}
use Rattle.pmb_json_fields.specs.Value.{marked_members, no_voltage_name, number_members, of_word, raw_members}
use Rattle.pmb_json_fields.specs.Value.{set_bits, status_members, text_members, value_members, vout_members}
use Rattle.pmb_json_fields.specs.Value.{word_fault_name}

-- all but that of a text
abbrev kind_keys : List (List ℕ)
kind_keys =
    codes "value" ∷ codes "number" ∷ codes "ratio" ∷ codes "mode" ∷ codes "unit" ∷ codes "raw" ∷ codes "bits"
    ∷ codes "clears" ∷ []

abbrev text_keys : List (List ℕ)
text_keys = codes "text" ∷ []

abbrev AreOfKind : List Member → Type 0
AreOfKind members = IsPart (keys members) kind_keys

nothing_said : AreOfKind []
nothing_said = inl (inl (inl (inl (inl (inl (inl (inl refl)))))))

raw_said : (why : List ℕ) → AreOfKind (raw_members why)
raw_said why = inl (inl (inl (inl (inl (inr (_, refl, inl (inl refl)))))))

value_said : (digits : ℕ) (unit : Option (List ℕ)) (value : Result Fraction WordFault)
    → AreOfKind (value_members digits unit value)
value_said digits None (Ok quantity) = inr (_, refl, inr (_, refl, inl (inl (inl (inl (inl (inl refl)))))))
value_said digits (Some unit) (Ok quantity) =
    inr (_, refl, inr (_, refl, inl (inl (inr (_, refl, inl (inl (inl refl)))))))
value_said digits unit (Err fault) = raw_said (word_fault_name fault)

bits_said : (access : Access) (names : List (List ℕ)) → AreOfKind (bits_members access names)
bits_said Read names = inl (inl (inl (inl (inl (inl (inr (_, refl, inl refl)))))))
bits_said Write names = inl (inl (inl (inl (inl (inl (inl (inr (_, refl, refl))))))))

marked_said : (digits : ℕ) (unit : Option (List ℕ)) (ratio : Bool) (basis : Basis) (value : Result Fraction WordFault)
    → AreOfKind (marked_members digits unit ratio basis value)
marked_said digits unit true Told (Ok quantity) = inl (inl (inr (_, refl, inl (inl (inl (inl (inl refl)))))))
marked_said digits unit true Assumed (Ok quantity) =
    inl (inl (inr (_, refl, inr (_, refl, inl (inl (inl (inl refl)))))))
marked_said digits None false Told (Ok quantity) = value_said digits None (Ok quantity)
marked_said digits (Some unit) false Told (Ok quantity) = value_said digits (Some unit) (Ok quantity)
marked_said digits None false Assumed (Ok quantity) =
    inr (_, refl, inr (_, refl, inl (inr (_, refl, inl (inl (inl (inl refl)))))))
marked_said digits (Some unit) false Assumed (Ok quantity) =
    inr (_, refl, inr (_, refl, inl (inr (_, refl, inr (_, refl, inl (inl (inl refl)))))))
marked_said digits unit ratio basis (Err fault) = raw_said (word_fault_name fault)

format_said : (digits : ℕ) (unit : Option (List ℕ)) (basis : Basis) (format : Result VoltageFormat NoVoltage)
    (word : ℕ)
    → AreOfKind (format_members digits unit basis format word)
format_said digits unit basis (Ok format) word =
    marked_said digits unit format.is_ratio basis (value_in format.number word)
format_said digits unit basis (Err why) word = raw_said (no_voltage_name why)

vout_said : (digits : ℕ) (voltages : VoltagesData) (basis : Basis) (c : CommandParts) (sign : Sign) (word : ℕ)
    → AreOfKind (vout_members digits voltages basis c sign word)
vout_said digits voltages basis c sign word =
    format_said digits c.unit basis (voltage_format voltages c.entry.code sign) word

word_said : (members : ℕ → List Member) (bytes : List ℕ) → ((word : ℕ) → AreOfKind (members word))
    → AreOfKind (of_word members bytes)
word_said members [] each = nothing_said
word_said members (a ∷ []) each = nothing_said
word_said members (low ∷ high ∷ []) each = each (low + 256 * high)
word_said members (a ∷ b ∷ c ∷ bytes) each = nothing_said

status_said : (access : Access) (c : CommandParts) (bytes : List ℕ) → AreOfKind (status_members access c bytes)
status_said access c [] = nothing_said
status_said access c (byte ∷ []) = bits_said access (set_bits c byte 8)
status_said access c (low ∷ high ∷ []) = bits_said access (set_bits c (low + 256 * high) 16)
status_said access c (a ∷ b ∷ d ∷ bytes) = nothing_said

kind_said : (digits : ℕ) (access : Access) (voltages : VoltagesData) (basis : Basis) (c : CommandParts) (kind : Kind)
    (bytes : List ℕ)
    → AreOfKind (kind_members digits access voltages basis c kind bytes)
kind_said digits access voltages basis c Raw bytes = nothing_said
kind_said digits access voltages basis c (Number format) bytes =
    word_said (number_members digits c.unit format) bytes (λ word. value_said digits c.unit (value_in format word))
kind_said digits access voltages basis c Vout bytes =
    word_said (vout_members digits voltages basis c Unsigned) bytes (vout_said digits voltages basis c Unsigned)
kind_said digits access voltages basis c VoutSigned bytes =
    word_said (vout_members digits voltages basis c Signed) bytes (vout_said digits voltages basis c Signed)
kind_said digits access voltages basis c Status bytes = status_said access c bytes
kind_said digits access voltages basis c Text bytes = nothing_said

text_said : (text : Option (List ℕ)) → IsPart (keys (text_members text)) text_keys
text_said None = inl refl
text_said (Some text) = inr (_, refl, refl)

pub are_of_data : (digits : ℕ) (access : Access) (voltages : VoltagesData) (basis : Basis) (c : CommandParts)
    (bytes : List ℕ)
    → IsPart (keys (data_members digits access voltages basis c bytes)) data_keys
are_of_data digits access voltages basis c bytes =
    let by_kind : List Member = kind_members digits access voltages basis c c.entry.kind bytes in
    let as_text : List Member = text_members (text_of c.entry (form_of access c.entry.shape) bytes) in
    subst (λ (ks : List (List ℕ)). IsPart ks data_keys) (sym (map-append (λ (m : Member). m.key) by_kind as_text))
    (parts_in_a_row (keys by_kind) kind_keys (keys as_text) text_keys
    (kind_said digits access voltages basis c c.entry.kind bytes)
    (text_said (text_of c.entry (form_of access c.entry.shape) bytes)))
