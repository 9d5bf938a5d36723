-- A piece of a capture says nothing that the whole denies, member by member: where an object stands,
-- its time, PAGE and PHASE, and a value by VOUT_MODE. For the law `meanings_of_pieces_are_of_the_whole`, and for
-- Pieces, which goes from members to objects. What the piece gives the whole gives too, but for
-- places, for what is not known in the piece or only assumed, and for times where these may differ.
use Rattle.std.proofs.Common.{◌≡◌, ℕ, zero, suc, ◌+◌, ◌<◌, ◌*◌, Bool, true, false, Option, Some, None, Result, Ok}
use Rattle.std.proofs.Common.{Err, ◌⊎◌, if◌then◌else◌, inl}
use Rattle.std.proofs.Common.{inr, List, [], ◌∷◌, ◌++◌, codes, length, slice_index_or, refl, sym, ◌∙◌}
use Rattle.std.proofs.Common.{ap, subst, arith}
use Rattle.std.specs.List.{AllByRecursion, Contains, list_any}
use Rattle.std.specs.Str.{bytes_eq}
use Rattle.std.proofs.lemmas.Bool.{false≢true}
use Rattle.std.proofs.lemmas.List.Elements.{Contains-append_cases, Contains-append_left, Contains-append_right}
use Rattle.pmb_command.specs.declared.entry.Kind.{Kind}
use Rattle.pmb_command.specs.declared.entry.Kind.TheVariants.{Raw, Number, Vout, VoutSigned, Status, Text}
use Rattle.pmb_command.specs.Parts.{CommandParts, DeviceParts, command_with}
use Rattle.pmb_command_data.specs.Phases.{has_phases}
use Rattle.pmb_command_data.specs.Text.{text_of}
use Rattle.pmb_json_fields.specs.declared.access.Access.{Access}
use Rattle.pmb_json_fields.specs.declared.basis.Basis.{Basis}
use Rattle.pmb_json_fields.specs.declared.basis.Basis.TheVariants.{Told, Assumed}
use Rattle.pmb_json_fields.specs.Value.{basis_members, data_members, form_of, format_members, kind_members}
use Rattle.pmb_json_fields.specs.Value.{marked_members, no_voltage_name, number_members, of_word, raw_members}
use Rattle.pmb_json_fields.specs.Value.{status_members, text_members, voltage_members, voltage_unit, vout_members}
use Rattle.pmb_json_fields.specs.Value.{word_fault_name}
use Rattle.pmb_quantity.specs.Fraction.{Fraction}
use Rattle.pmb_value.specs.WordFault.{value_in}
use Rattle.pmb_value.specs.declared.number_format.WordFault.{WordFault}
use Rattle.pmb_value.specs.declared.sign.Sign.{Sign}
use Rattle.pmb_value.specs.declared.sign.Sign.TheVariants.{Unsigned, Signed}
use Rattle.pmb_voltage.specs.declared.voltage.NoVoltage.{NoVoltage}
use Rattle.pmb_voltage.specs.declared.voltage.NoVoltage.TheVariants.{Unknown}
use Rattle.pmb_voltage.specs.declared.voltage.VoltageFormat.{VoltageFormat}
use Rattle.pmb_voltage.specs.Voltage.{voltage_format, voltages_of}
use Rattle.pmb_voltage.proofs.Knowing.{knows_no_other}
use Rattle.pmb_unknown_start.specs.Certain.{StaysKnown}
use Rattle.pmb_unknown_start.specs.declared.mode.KnownMode.{KnownMode}
use Rattle.pmb_json_text.specs.Json.{null, string}
use Rattle.pmb_json_text.specs.Member.{Member, count, named}
use Rattle.pmb_places.specs.declared.places.Place.{Place}
use Rattle.pmb_json_objects.specs.Head.{Head}
use Rattle.pmb_json_objects.specs.Members.{entry_members, head_members, of_command, of_device_command, page_members}
use Rattle.pmb_json_objects.specs.Members.{is_marked, page_mode_member}
use Rattle.pmb_json_objects.specs.Members.{phase_member, selected_value, time_members, where_members}
use Rattle.pmb_json.specs.Pieces.{IsMeaning, IsUnknown, IsWhere, OtherTimes, SayNoMore, TellsNoMore, Timing}
use Rattle.pmb_json.specs.Pieces.{meaning_keys}

-- ---- times

-- a time that a piece tells is that of the whole, or may be another
abbrev pub Tells : Timing → Option (List ℕ) → Option (List ℕ) → Type 0
Tells timing piece whole = (timing ≡ OtherTimes) ⊎ TellsNoMore piece whole

-- so is that of each packet of a piece, before which n events come in the whole
abbrev pub TellEach : Timing → ℕ → (ℕ → Option (List ℕ)) → (ℕ → Option (List ℕ)) → Type 0
TellEach timing n times theirs = (at : ℕ) → Tells timing (times at) (theirs (n + at))

-- ---- keys

at_one : (x m : Member) (k : ℕ) → k < 1 → slice_index_or (x ∷ []) k m ≡ m → x ≡ m
at_one x m zero small is = is
at_one x m (suc k) small is = absurd (omega arith)

of_each : (P : List ℕ → Type 0) (keys : List (List ℕ)) (key : List ℕ) (k : ℕ) → AllByRecursion P keys
    → k < length keys → slice_index_or keys k key ≡ key → P key
of_each P [] key k each within is = absurd (omega (arith, within))
of_each P (first ∷ keys) key zero each within is = subst P is each.0
of_each P (first ∷ keys) key (suc k) each within is = of_each P keys key k each.1 (omega (arith, within)) is

-- the keys of what may be another in a piece
abbrev moving_keys : List (List ℕ)
moving_keys =
    codes "at" ∷ codes "line" ∷ codes "column" ∷ codes "page" ∷ codes "phase" ∷ codes "raw" ∷ codes "mode"
    ∷ codes "page_mode" ∷ codes "time" ∷ []

abbrev is_moving : List ℕ → Bool
is_moving key = list_any (bytes_eq key) moving_keys

-- none of what data mean is such
meaning_stays : (m : Member) → IsMeaning m → is_moving m.key ≡ false
meaning_stays m means =
    of_each (λ key. is_moving key ≡ false) meaning_keys m.key means.0
    (refl, (refl, (refl, (refl, (refl, (refl, (refl, (refl, tt)))))))) means.1 means.2

where_moves : (m : Member) → IsWhere m → is_moving m.key ≡ true
where_moves m (inl is) = ap is_moving is
where_moves m (inr (inl is)) = ap is_moving is
where_moves m (inr (inr is)) = ap is_moving is

unknown_moves : (m : Member) → IsUnknown m → is_moving m.key ≡ true
unknown_moves m (inl is) = ap (λ (x : Member). is_moving x.key) is
unknown_moves m (inr (inl is)) = ap (λ (x : Member). is_moving x.key) is
unknown_moves m (inr (inr (inl is))) = ap (λ (x : Member). is_moving x.key) is
unknown_moves m (inr (inr (inr (inl is)))) = ap (λ (x : Member). is_moving x.key) is
unknown_moves m (inr (inr (inr (inr is)))) = ap (λ (x : Member). is_moving x.key) is

module _ {timing : Timing} where
  -- ---- members

  pub same : (members : List Member) → SayNoMore timing members members
  same members = record { each = λ m here. inr (inr (inr here)) }

  pub both : {a b c d : List Member} → SayNoMore timing a b → SayNoMore timing c d → SayNoMore timing (a ++ c) (b ++ d)
  both {a} {b} {c} {d} first second = record {
    each = λ m here.
        elim (Contains-append_cases a c m here) [
          | inl there ↦
              elim (first.each m there) [
                | inl place ↦ inl place
                | inr (inl is) ↦ inr (inl is)
                | inr (inr (inl time)) ↦ inr (inr (inl time))
                | inr (inr (inr found)) ↦ inr (inr (inr (Contains-append_left b d m found)))
              ]
          | inr there ↦
              elim (second.each m there) [
                | inl place ↦ inl place
                | inr (inl is) ↦ inr (inl is)
                | inr (inr (inl time)) ↦ inr (inr (inl time))
                | inr (inr (inr found)) ↦ inr (inr (inr (Contains-append_right b d m found)))
              ]
        ];
  }

  -- no member at all
  nothing_said : (others : List Member) → SayNoMore timing [] others
  nothing_said others = record { each = λ m here. absurd (omega (arith, here.1)) }

  -- a member that says where the object begins
  moves : (x : Member) (others : List Member) → IsWhere x → SayNoMore timing (x ∷ []) others
  moves x others place = record { each = λ m here. inl (subst IsWhere (at_one x m here.0 here.1 here.2) place) }

  -- .. or that something is not known
  unknown : (x : Member) (others : List Member) → IsUnknown x → SayNoMore timing (x ∷ []) others
  unknown x others is = record { each = λ m here. inr (inl (subst IsUnknown (at_one x m here.0 here.1 here.2) is)) }

  -- what data mean is nothing else
  pub meaning_said : (piece whole : List Member) (m : Member) → SayNoMore timing piece whole → Contains piece m
      → IsMeaning m → Contains whole m
  meaning_said piece whole m no_more here means =
      let stays : is_moving m.key ≡ false = meaning_stays m means in
      elim (no_more.each m here) [
        | inl place ↦ absurd (false≢true (sym stays ∙ where_moves m place))
        | inr (inl is) ↦ absurd (false≢true (sym stays ∙ unknown_moves m is))
        | inr (inr (inl time)) ↦ absurd (false≢true (sym stays ∙ ap is_moving time.1))
        | inr (inr (inr found)) ↦ found
      ]

  where_said : (at next : ℕ) (place there : Place)
      → SayNoMore timing (where_members at place) (where_members next there)
  where_said at next place there =
      both (moves (named (codes "at") (count at)) (named (codes "at") (count next) ∷ []) (inl refl))
      (both (moves (named (codes "line") (count place.line)) (named (codes "line") (count there.line) ∷ [])
      (inr (inl refl)))
      (moves (named (codes "column") (count place.column)) (named (codes "column") (count there.column) ∷ [])
      (inr (inr refl))))

  -- a time that may be another
  other_time : (x : Member) (others : List Member) → timing ≡ OtherTimes → x.key ≡ codes "time"
      → SayNoMore timing (x ∷ []) others
  other_time x others other is = record {
    each = λ m here. inr (inr (inl (
      other,
      subst (λ (m : Member). m.key ≡ codes "time") (at_one x m here.0 here.1 here.2)
          is,
    )));
  }

  time_said : (time theirs : Option (List ℕ)) → Tells timing time theirs
      → SayNoMore timing (time_members time) (time_members theirs)
  time_said None theirs told = nothing_said (time_members theirs)
  time_said (Some time) theirs (inl other) = other_time (named (codes "time") (string time)) (time_members theirs) other
      refl
  time_said (Some time) theirs (inr told) =
      subst (λ (t : Option (List ℕ)). SayNoMore timing (time_members (Some time)) (time_members t)) (sym told)
      (same (time_members (Some time)))

  pub head_said : (head there : Head) → Tells timing head.time there.time → (kind : List ℕ)
      → SayNoMore timing (head_members head kind) (head_members there kind)
  head_said head there told kind =
      both (where_said head.at there.at head.place there.place)
      (both (time_said head.time there.time told) (same (named (codes "kind") (string kind) ∷ [])))

  -- ---- PAGE and PHASE

  -- what is selected, where it is that of the whole if the piece knows it
  module _ (key : List ℕ) (unknown_null : IsUnknown (named key null)) (p q : Option ℕ)
      (known : (number : ℕ) → p ≡ Some number → q ≡ Some number) where
    selected_is : (r : Option ℕ) → p ≡ r → SayNoMore timing (named key (selected_value r) ∷ [])
        (named key (selected_value q) ∷ [])
    selected_is None is = unknown (named key null) (named key (selected_value q) ∷ []) unknown_null
    selected_is (Some number) is =
        subst (λ (r : Option ℕ). SayNoMore timing (named key (selected_value (Some number)) ∷ [])
        (named key (selected_value r) ∷ []))
        (sym (known number is)) (same (named key (selected_value (Some number)) ∷ []))

    selected_said : SayNoMore timing (named key (selected_value p) ∷ []) (named key (selected_value q) ∷ [])
    selected_said = selected_is p refl

  -- the mark of a page that is assumed
  either_marked : (b : Bool) (others : List Member)
      → SayNoMore timing (if b then named (codes "page_mode") (string (codes "assumed")) ∷ [] else []) others
  either_marked true others = unknown (named (codes "page_mode") (string (codes "assumed"))) others
      (inr (inr (inr (inr refl))))
  either_marked false others = nothing_said others

  module _ (p q : Option ℕ) (known : (number : ℕ) → p ≡ Some number → q ≡ Some number) where
    page_said : (one other : Basis) (pages : ℕ) (paged : Bool)
        → SayNoMore timing (page_members paged p one pages) (page_members paged q other pages)
    page_said one other pages false = same []
    page_said one other pages true =
        both (selected_said (codes "page") (inl refl) p q known)
        (either_marked (is_marked p one pages) (page_mode_member q other pages))

    phase_said : (phased : Bool) → SayNoMore timing (phase_member phased p) (phase_member phased q)
    phase_said false = same []
    phase_said true = selected_said (codes "phase") (inr (inl refl)) p q known

  pub entry_said : (p q : Option ℕ) → ((number : ℕ) → p ≡ Some number → q ≡ Some number)
      → (one other : Basis) (f g : Option ℕ) → ((number : ℕ) → f ≡ Some number → g ≡ Some number)
      → (device : DeviceParts) (c : CommandParts)
      → SayNoMore timing (entry_members p one f device c) (entry_members q other g device c)
  entry_said p q pages one other f g phases device c =
      both (same (named (codes "command") (string c.entry.name) ∷ []))
      (both (page_said p q pages one other device.pages c.entry.paged) (phase_said f g phases (has_phases device c)))

  -- .. of the command with a code, where there is one
  of_command_said : (one other : DeviceParts → CommandParts → List Member)
      → ((device : DeviceParts) (c : CommandParts) → SayNoMore timing (one device c) (other device c))
      → (device : DeviceParts) (found : Option CommandParts)
      → SayNoMore timing (of_command one device found) (of_command other device found)
  of_command_said one other said device None = same []
  of_command_said one other said device (Some c) = said device c

  pub of_device_command_said : (one other : DeviceParts → CommandParts → List Member)
      → ((device : DeviceParts) (c : CommandParts) → SayNoMore timing (one device c) (other device c))
      → (found : Option DeviceParts) (code : ℕ)
      → SayNoMore timing (of_device_command one found code) (of_device_command other found code)
  of_device_command_said one other said None code = same []
  of_device_command_said one other said (Some device) code =
      of_command_said one other said device (command_with code device.commands)

  -- ---- values

  -- the mark of a value whose mode is assumed
  mark_said : (one other : Basis) → SayNoMore timing (basis_members one) (basis_members other)
  mark_said Told other = nothing_said (basis_members other)
  mark_said Assumed other = unknown (named (codes "mode") (string (codes "assumed"))) (basis_members other)
      (inr (inr (inr (inl refl))))

module _ (places : ℕ) (acc : Access) (device : DeviceParts) (c : CommandParts) where
  -- data in the piece and in the whole, by what is known of VOUT_MODE and PAGE and what the mode rests on
  abbrev said_by : KnownMode → Option ℕ → Basis → List ℕ → List Member
  said_by m page basis bytes = data_members places acc (voltages_of device m page) basis c bytes

  module _ {timing : Timing} (one other : Basis) where
    -- ---- the format is the same, and its mode may be assumed

    value_said : (ratio : Bool) (value : Result Fraction WordFault)
        → SayNoMore timing (marked_members places c.unit ratio one value)
        (marked_members places c.unit ratio other value)
    value_said ratio (Ok quantity) =
        both (same (voltage_members places ratio quantity))
        (both (mark_said one other) (same (voltage_unit ratio c.unit)))
    value_said ratio (Err fault) = same (raw_members (word_fault_name fault))

    same_format_said : (format : Result VoltageFormat NoVoltage) (word : ℕ)
        → SayNoMore timing (format_members places c.unit one format word)
        (format_members places c.unit other format word)
    same_format_said (Ok format) word = value_said format.is_ratio (value_in format.number word)
    same_format_said (Err why) word = same (raw_members (no_voltage_name why))

    -- .. or it is not known in the piece
    format_said : (piece whole : Result VoltageFormat NoVoltage) (word : ℕ)
        → (piece ≡ Err Unknown) ⊎ (piece ≡ whole)
        → SayNoMore timing (format_members places c.unit one piece word)
        (format_members places c.unit other whole word)
    format_said piece whole word (inl is) =
        let theirs : List Member = format_members places c.unit other whole word in
        subst (λ (r : Result VoltageFormat NoVoltage). SayNoMore timing (format_members places c.unit one r word)
        theirs)
        (sym is) (unknown (named (codes "raw") (string (codes "unknown"))) theirs (inr (inr (inl refl))))
    format_said piece whole word (inr is) =
        subst (λ (r : Result VoltageFormat NoVoltage). SayNoMore timing (format_members places c.unit one piece word)
        (format_members places c.unit other r word)) is (same_format_said piece word)

    -- ---- what is known in both agrees

    module _ (m w : KnownMode) (p q : Option ℕ) (stays : StaysKnown m w)
        (known : (number : ℕ) → p ≡ Some number → q ≡ Some number) where
      voltage_said : (sign : Sign) (bytes : List ℕ)
          → SayNoMore timing (of_word (vout_members places (voltages_of device m p) one c sign) bytes)
          (of_word (vout_members places (voltages_of device w q) other c sign) bytes)
      voltage_said sign [] = same []
      voltage_said sign (a ∷ []) = same []
      voltage_said sign (low ∷ high ∷ []) =
          format_said (voltage_format (voltages_of device m p) c.entry.code sign)
          (voltage_format (voltages_of device w q) c.entry.code sign) (low + 256 * high)
          (knows_no_other device m w p q c.entry.code sign stays known)
      voltage_said sign (a ∷ b ∷ d ∷ bytes) = same []

      kind_said : (kind : Kind) (bytes : List ℕ)
          → SayNoMore timing (kind_members places acc (voltages_of device m p) one c kind bytes)
          (kind_members places acc (voltages_of device w q) other c kind bytes)
      kind_said Raw bytes = same []
      kind_said (Number format) bytes = same (of_word (number_members places c.unit format) bytes)
      kind_said Vout bytes = voltage_said Unsigned bytes
      kind_said VoutSigned bytes = voltage_said Signed bytes
      kind_said Status bytes = same (status_members acc c bytes)
      kind_said Text bytes = same []

      pub data_said : (bytes : List ℕ)
          → SayNoMore timing (said_by m p one bytes) (said_by w q other bytes)
      data_said bytes =
          both (kind_said c.entry.kind bytes)
          (same (text_members (text_of c.entry (form_of acc c.entry.shape) bytes)))
