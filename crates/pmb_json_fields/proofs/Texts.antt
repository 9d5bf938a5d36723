-- Data are a text only where their kind is `raw` or `text`, of which nothing else is said. For
-- `append_data` of `src/data.rt`, which appends what the kind says, or the text.
use Rattle.std.proofs.Common.{◌≡◌, ◌∙◌, ◌⊎◌, inl, inr, ℕ, Bool, true, false, ◌&&◌, ◌||◌, if◌then◌else◌}
use Rattle.std.proofs.Common.{Option, Some, None, List, ◌++◌, refl, sym, ap}
use Rattle.std.specs.List.{list_all}
use Rattle.std.proofs.lemmas.List.{append-nil}
use Rattle.pmb_voltage.specs.Voltage.{VoltagesData}
use Rattle.pmb_command.specs.declared.entry.Kind.{Kind}
use Rattle.pmb_command.specs.declared.entry.Kind.TheVariants.{Raw, Number, Vout, VoutSigned, Status, Text}
use Rattle.pmb_command.specs.declared.form.Form.{Form}
use Rattle.pmb_command.specs.Entry.{EntryParts}
use Rattle.pmb_command.specs.Fitting.{is_raw}
use Rattle.pmb_command.specs.Names.{is_printable}
use Rattle.pmb_command.specs.Parts.{CommandParts}
use Rattle.pmb_command_data.specs.Standard.{has_standard_name}
use Rattle.pmb_command_data.specs.Text.{is_block, is_text_code, is_text_kind, text_of}
use Rattle.pmb_json_text.specs.Member.{Member}
use Rattle.pmb_json_fields.specs.declared.access.Access.{Access}
use Rattle.pmb_json_fields.specs.declared.basis.Basis.{Basis}
use Rattle.pmb_json_fields.specs.Value.{data_members, form_of, kind_members, text_members}

-- the kinds of which something else than a text is said
abbrev pub is_other : Kind → Bool
is_other Raw = false
is_other (Number format) = true
is_other Vout = true
is_other VoutSigned = true
is_other Status = true
is_other Text = false

-- the conditions of a text, where the two on the kind don't hold
neither : (code block named printable : Bool) → ((false || (code && (block && (false && named)))) && printable) ≡ false
neither true true named printable = refl
neither true false named printable = refl
neither false block named printable = refl

not_text : (kind : Kind) → is_other kind ≡ true → is_text_kind kind ≡ false
not_text Raw is = refl
not_text (Number format) is = refl
not_text Vout is = refl
not_text VoutSigned is = refl
not_text Status is = refl
not_text Text is = absurd (cc is)

not_raw : (kind : Kind) → is_other kind ≡ true → is_raw kind ≡ false
not_raw Raw is = absurd (cc is)
not_raw (Number format) is = refl
not_raw Vout is = refl
not_raw VoutSigned is = refl
not_raw Status is = refl
not_raw Text is = refl

-- data of such a kind are no text
no_text : (e : EntryParts) (form : Option Form) (bytes : List ℕ) → is_other e.kind ≡ true → None ≡ text_of e form bytes
no_text e form bytes other =
    let code : Bool = is_text_code e.code in
    let block : Bool = is_block form in
    let name : Bool = has_standard_name e in
    let printable : Bool = list_all is_printable bytes in
    sym (ap (λ (text : Bool). if (text || (code && (block && (is_raw e.kind && name)))) && printable then Some bytes
    else None) (not_text e.kind other)
    ∙ ap (λ (raw : Bool). if (false || (code && (block && (raw && name)))) && printable then Some bytes else None)
    (not_raw e.kind other)
    ∙ ap (λ (text : Bool). if text then Some bytes else None) (neither code block name printable))

-- so what its kind says is all
pub all_by_kind : (digits : ℕ) (access : Access) (voltages : VoltagesData) (basis : Basis) (c : CommandParts)
    (kind : Kind) (bytes : List ℕ)
    → c.entry.kind ≡ kind → is_other kind ≡ true
    → kind_members digits access voltages basis c kind bytes ≡ data_members digits access voltages basis c bytes
all_by_kind digits access voltages basis c kind bytes is other =
    let said : Kind → List Member = λ (k : Kind). kind_members digits access voltages basis c k bytes in
    let none : None ≡ text_of c.entry (form_of access c.entry.shape) bytes =
    no_text c.entry (form_of access c.entry.shape) bytes (ap is_other is ∙ other) in
    ap said (sym is) ∙ sym (append-nil (said c.entry.kind))
    ∙ ap (λ (text : Option (List ℕ)). said c.entry.kind ++ text_members text) none

-- .. and of the other kinds a text is all
pub all_by_text : (digits : ℕ) (access : Access) (voltages : VoltagesData) (basis : Basis) (c : CommandParts)
    (bytes : List ℕ)
    → (c.entry.kind ≡ Raw) ⊎ (c.entry.kind ≡ Text)
    → text_members (text_of c.entry (form_of access c.entry.shape) bytes)
    ≡ data_members digits access voltages basis c bytes
all_by_text digits access voltages basis c bytes is =
    let text : List Member = text_members (text_of c.entry (form_of access c.entry.shape) bytes) in
    let of_kind : Kind → List Member = λ (k : Kind). kind_members digits access voltages basis c k bytes ++ text in
    elim is [
      | inl raw ↦ sym (ap of_kind raw)
      | inr kind_text ↦ sym (ap of_kind kind_text)
    ]
