-- What is said of a command's data can be written as JSON: values, numbers, units, bits, what is raw,
-- texts, and what fields say. For the law `objects_are_json`. Each code's value is a quantity
-- (Quantities), whose nearest decimal is a number; other texts are bytes below 256.
use Rattle.std.proofs.Common.{◌≡◌, ℕ, ◌+◌, ◌*◌, ◌/◌, ◌%◌, ◌^◌, ◌<◌, ◌==◌, if◌then◌else◌, Bool, true, false, Option}
use Rattle.std.proofs.Common.{Some, None, Result, Ok, Err, List, [], ◌∷◌, ◌++◌, codes, refl, sym, subst, arith}
use Rattle.std.specs.Prelude.{IfSome, ◌&&◌, ⊤}
use Rattle.std.specs.List.{list_all}
use Rattle.pmb_coefficients.specs.Coefficients.{Coefficients}
use Rattle.pmb_command.specs.declared.entry.Kind.{Kind}
use Rattle.pmb_command.specs.declared.entry.Kind.TheVariants.{Raw, Number, Vout, VoutSigned, Status, Text}
use Rattle.pmb_command.specs.declared.form.Form.{Form}
use Rattle.pmb_command.specs.Bus.{IsBus, IsDevice}
use Rattle.pmb_command.specs.Entry.{EntryParts}
use Rattle.pmb_command.specs.Names.{is_printable}
use Rattle.pmb_command.specs.Parts.{CommandParts, DeviceParts}
use Rattle.pmb_command_data.specs.Text.{has_text, text_of}
use Rattle.pmb_decimal.specs.Decimal.{rounded_text}
use Rattle.pmb_json_fields.specs.declared.access.Access.{Access}
use Rattle.pmb_json_fields.specs.declared.access.Access.TheVariants as access
use Rattle.pmb_json_fields.specs.declared.basis.Basis.{Basis}
use Rattle.pmb_json_fields.specs.declared.basis.Basis.TheVariants.{Told, Assumed}
use Rattle.pmb_json_fields.specs.Value.{basis_members, bits_members, data_members, form_of, format_members}
use Rattle.pmb_json_fields.specs.Value.{kind_members, marked_members, no_voltage_name, number_members, of_word}
use Rattle.pmb_json_fields.specs.Value.{quantity_members, raw_members, set_bits, status_members, text_members}
use Rattle.pmb_json_fields.specs.Value.{unit_members, value_members, voltage_members, voltage_unit, vout_members}
use Rattle.pmb_json_fields.specs.Value.{word_fault_name}
use Rattle.pmb_format.specs.Coding.{value_of}
use Rattle.pmb_format.specs.Words.{twos_complement}
use Rattle.pmb_unknown_start.specs.declared.mode.KnownMode.{KnownMode}
use Rattle.pmb_unknown_start.specs.declared.mode.KnownMode.TheVariants.{Known, NoPage}
use Rattle.pmb_unknown_start.specs.declared.mode.KnownMode.TheVariants as known
use Rattle.pmb_json_text.specs.Json.{IsNumber, string}
use Rattle.pmb_json_text.specs.Spelling.{AreBytes}
use Rattle.pmb_json_text.specs.Member.{Member, named}
use Rattle.pmb_meaning.specs.Data.{Exchange, called}
use Rattle.pmb_meaning.specs.Laws.{IsSaysOrNone}
use Rattle.pmb_meaning.specs.Object.{says_members_of}
use Rattle.pmb_quantity.specs.Fraction.{Fraction, IsQuantity}
use Rattle.pmb_quantity.specs.QuantityText.{spelling}
use Rattle.pmb_value.specs.NumberFormat.{number_coding}
use Rattle.pmb_value.specs.Vout.{direct_of, direct_words, format_of, linear_of, vout_coding}
use Rattle.pmb_value.specs.WordFault.{value_in, value_unless, word_fault}
use Rattle.pmb_value.specs.declared.number_format.NumberFormat.{NumberFormat}
use Rattle.pmb_value.specs.declared.number_format.NumberFormat.TheVariants as formats
use Rattle.pmb_value.specs.declared.number_format.WordFault.{WordFault}
use Rattle.pmb_value.specs.declared.number_format.WordFault.TheVariants.{NotANumber, NoCode, Off}
use Rattle.pmb_value.specs.declared.sign.Sign.{Sign}
use Rattle.pmb_value.specs.declared.sign.Sign.TheVariants.{Unsigned, Signed}
use Rattle.pmb_value.specs.declared.vout.ModeFault.{ModeFault}
use Rattle.pmb_value.specs.declared.vout.ModeFault.TheVariants as fault
use Rattle.pmb_value.specs.declared.vout.VoutFormat.{VoutFormat}
use Rattle.pmb_value.specs.declared.vout.VoutFormat.TheVariants as vout
use Rattle.pmb_vid.specs.declared.table.VidTable.{VidTable}
use Rattle.pmb_voltage.specs.declared.voltage.NoVoltage.{NoVoltage}
use Rattle.pmb_voltage.specs.declared.voltage.NoVoltage.TheVariants.{Unknown, Page, Vid, Relative}
use Rattle.pmb_voltage.specs.declared.voltage.NoVoltage.TheVariants.{Coefficients as NoCoefficients}
use Rattle.pmb_voltage.specs.declared.voltage.VoltageFormat.{VoltageFormat}
use Rattle.pmb_voltage.specs.Voltage.{VoltagesData, format_by, in_table, is_ratio, is_signed, meaning, named_format}
use Rattle.pmb_voltage.specs.Voltage.{vid_format, vid_table, voltage_format, voltages_of}
use Rattle.pmb_json_objects.specs.Laws.{AreOfWords, HasFormats, IsFormatOfWords, IsNumberOfWords, IsOfWords}
use Rattle.pmb_json_objects.specs.Packets.{call_says, data_of, exchange_of, fields_say, said_of}
use Rattle.pmb_json_objects.specs.Seen.{SeenData, basis_at, mode_at, page_at}
use Rattle.pmb_json_objects.proofs.Commands.{at_each, has_texts, is_device, kind_has_words, vout_has_words}
use Rattle.pmb_json_objects.proofs.Fine.{AreFine, HasTexts, IsFine, are_bytes, fine_of_both, fine_text, fine_texts}
use Rattle.pmb_json_objects.proofs.Fine.{fine_word, of_either, tested_bytes}
use Rattle.pmb_json_objects.proofs.Quantities.{LowestTermsAre, five_bits, of_direct, of_half, of_linear11, of_slinear16}
use Rattle.pmb_json_objects.proofs.Quantities.{of_ulinear16, of_vid}
use Rattle.pmb_json_objects.proofs.Texts.{bits_are_bytes, spelling_is_bytes}

-- that the decimal of a quantity is a number
abbrev pub DecimalsAreNumbers : Type 0
DecimalsAreNumbers = (digits : ℕ) (q : Fraction) → IsQuantity q → IsNumber (rounded_text digits q)

-- only two bytes are a word
fine_of_word : (members : ℕ → List Member) (bytes : List ℕ) → ((word : ℕ) → word < 65536 → AreFine (members word))
    → AreBytes bytes → AreFine (of_word members bytes)
fine_of_word members [] each small = tt
fine_of_word members (a ∷ []) each small = tt
fine_of_word members (low ∷ high ∷ []) each small =
    let first : low < 256 = small.0 in
    let second : high < 256 = small.1.0 in
    each (low + 256 * high) (omega arith)
fine_of_word members (a ∷ b ∷ c ∷ bytes) each small = tt

fine_raw : (why : List ℕ) → are_bytes why ≡ true → AreFine (raw_members why)
fine_raw why plain = (fine_word (codes "raw") why refl plain, tt)

fine_fault : (fault : WordFault) → AreFine (raw_members (word_fault_name fault))
fine_fault NotANumber = fine_raw (codes "nan") refl
fine_fault NoCode = fine_raw (codes "code") refl
fine_fault Off = fine_raw (codes "off") refl

fine_no_voltage : (why : NoVoltage) → AreFine (raw_members (no_voltage_name why))
fine_no_voltage Unknown = fine_raw (codes "unknown") refl
fine_no_voltage Page = fine_raw (codes "page") refl
fine_no_voltage Vid = fine_raw (codes "vid") refl
fine_no_voltage Relative = fine_raw (codes "relative") refl
fine_no_voltage NoCoefficients = fine_raw (codes "coefficients") refl

fine_bits : (a : Access) (c : CommandParts) (value bits : ℕ) → HasTexts c
    → AreFine (bits_members a (set_bits c value bits))
fine_bits access.Read c value bits texts =
    (fine_texts (codes "bits") (set_bits c value bits) refl (bits_are_bytes c value bits texts.bits), tt)
fine_bits access.Write c value bits texts =
    (fine_texts (codes "clears") (set_bits c value bits) refl (bits_are_bytes c value bits texts.bits), tt)

fine_status : (a : Access) (c : CommandParts) (bytes : List ℕ) → HasTexts c → AreFine (status_members a c bytes)
fine_status a c [] texts = tt
fine_status a c (byte ∷ []) texts = fine_bits a c byte 8 texts
fine_status a c (low ∷ high ∷ []) texts = fine_bits a c (low + 256 * high) 16 texts
fine_status a c (x ∷ y ∷ z ∷ bytes) texts = tt

fine_unit : (unit : Option (List ℕ)) → IfSome unit AreBytes → AreFine (unit_members unit)
fine_unit None small = tt
fine_unit (Some unit) small = (fine_text (codes "unit") unit refl small, tt)

-- ---- texts

text_is_bytes : (e : EntryParts) (form : Option Form) (bytes : List ℕ) → AreBytes bytes
    → IfSome (text_of e form bytes) AreBytes
text_is_bytes e form bytes small =
    of_either (λ o. IfSome o AreBytes) (has_text e form && list_all is_printable bytes) (Some bytes) None small tt

fine_characters : (text : Option (List ℕ)) → IfSome text AreBytes → AreFine (text_members text)
fine_characters None small = tt
fine_characters (Some text) small = (fine_text (codes "text") text refl small, tt)

-- ---- what fields say

-- that it is one member or none
abbrev pub SaysAreOne : Type 0
SaysAreOne = (device : DeviceParts) (e : EntryParts) (payload : Exchange) → IsDevice device
    → IsSaysOrNone (says_members_of device e payload)

fine_says : (members : List Member) → IsSaysOrNone members → AreFine members
fine_says [] is = tt
fine_says (m ∷ []) is = (
  record {
    key = subst AreBytes (sym is.key) (tested_bytes (codes "says") refl);
    value = is.writable;
    flat = is.distinct;
  },
  tt,
)
fine_says (m ∷ other ∷ more) is = absurd is

-- ---- formats of output voltages

-- a value, where there is one, is a quantity
abbrev IsValue : Result Fraction WordFault → Type 0
IsValue (Ok quantity) = IsQuantity quantity
IsValue (Err fault) = ⊤

value_unless_fault : (fault : Option WordFault) (value : Fraction) → IsQuantity value
    → IsValue (value_unless fault value)
value_unless_fault None value is = is
value_unless_fault (Some fault) value is = tt

-- what a VOUT_MODE names has an exponent of five bits, or coefficients of 16 bits
abbrev NamesWords : Result VoutFormat ModeFault → Type 0
NamesWords (Ok format) = IsFormatOfWords format
NamesWords (Err fault) = ⊤

-- so has the format of a voltage
abbrev HasWords : Result NumberFormat NoVoltage → Type 0
HasWords (Ok format) = IsNumberOfWords format
HasWords (Err why) = ⊤

abbrev VoltageHasWords : Result VoltageFormat NoVoltage → Type 0
VoltageHasWords (Ok format) = IsNumberOfWords format.number
VoltageHasWords (Err why) = ⊤

linear_words : (signed : Bool) (field : ℕ) → field < 32
    → IsFormatOfWords (linear_of signed (twos_complement 5 field))
linear_words true field few = five_bits field few
linear_words false field few = five_bits field few

-- for signed words too
words_of : (signed : Bool) (d : Coefficients) → AreOfWords d → AreOfWords (direct_words signed d)
words_of true d words = record {
  slope = words.slope;
  offset = words.offset;
  format = record { slope = words.format.slope; least = words.format.least; greatest = words.format.greatest };
}
words_of false d words = words

direct_names_words : (signed : Bool) (coefficients : Option Coefficients) → IfSome coefficients AreOfWords
    → NamesWords (direct_of signed coefficients)
direct_names_words signed None words = tt
direct_names_words signed (Some d) words = words_of signed d words

mode_names_words : (mode : ℕ) (signed : Bool) (coefficients : Option Coefficients) → IfSome coefficients AreOfWords
    → NamesWords (format_of mode signed coefficients)
mode_names_words mode signed coefficients words =
    let kind : ℕ = mode / 2 ^ 5 % 2 ^ 2 in
    let linear : Result VoutFormat ModeFault = Ok (linear_of signed (twos_complement 5 (mode % 2 ^ 5))) in
    let not_ieee : Result VoutFormat ModeFault = if kind == 2 then direct_of signed coefficients else linear in
    let not_vid : Result VoutFormat ModeFault = if kind == 3 then Err fault.Ieee else not_ieee in
    let not_relative : Result VoutFormat ModeFault = if kind == 1 then Err fault.Vid else not_vid in
    of_either NamesWords (mode / 2 ^ 7 == 1) (Err fault.Relative) not_relative tt
    (of_either NamesWords (kind == 1) (Err fault.Vid) not_vid tt
    (of_either NamesWords (kind == 3) (Err fault.Ieee) not_ieee tt
    (of_either NamesWords (kind == 2) (direct_of signed coefficients) linear
    (direct_names_words signed coefficients words) (linear_words signed (mode % 2 ^ 5) (omega arith)))))

table_has_words : (table : Result VidTable NoVoltage) → HasWords (in_table table)
table_has_words (Ok table) = tt
table_has_words (Err why) = tt

vid_has_words : (v : VoltagesData) (mode : ℕ) (ratio : Bool) (sign : Sign) → HasWords (vid_format v mode ratio sign)
vid_has_words v mode true sign = tt
vid_has_words v mode false Signed = tt
vid_has_words v mode false Unsigned = table_has_words (vid_table v.vid mode v.page)

named_has_words : (v : VoltagesData) (mode : ℕ) (ratio : Bool) (sign : Sign) (named : Result VoutFormat ModeFault)
    → NamesWords named → HasWords (named_format v mode ratio sign named)
named_has_words v mode ratio sign (Ok format) words = words
named_has_words v mode ratio sign (Err fault.Relative) words = tt
named_has_words v mode ratio sign (Err fault.Vid) words = vid_has_words v mode ratio sign
named_has_words v mode ratio sign (Err fault.Ieee) words = tt
named_has_words v mode ratio sign (Err fault.NoCoefficients) words = tt

meaning_has_words : (ratio : Bool) (format : Result NumberFormat NoVoltage) → HasWords format
    → VoltageHasWords (meaning ratio format)
meaning_has_words ratio (Ok number) words = words
meaning_has_words ratio (Err why) words = tt

known_has_words : (v : VoltagesData) (mode : KnownMode) (code : ℕ) (sign : Sign) → IfSome v.coefficients AreOfWords
    → VoltageHasWords (format_by v mode code sign)
known_has_words v (Known mode) code sign words =
    let signed : Bool = is_signed sign in
    let named : Result VoutFormat ModeFault = format_of (mode % 2 ^ 7) signed v.coefficients in
    let ratio : Bool = is_ratio mode code in
    meaning_has_words ratio (named_format v mode ratio sign named)
    (named_has_words v mode ratio sign named (mode_names_words (mode % 2 ^ 7) signed v.coefficients words))
known_has_words v known.Unknown code sign words = tt
known_has_words v NoPage code sign words = tt

module _ (lowest : LowestTermsAre) (decimals : DecimalsAreNumbers) where
  -- ---- numbers

  fine_exact : (key : List ℕ) (quantity : Fraction) → are_bytes key ≡ true
      → IsFine (named key (string (spelling quantity)))
  fine_exact key quantity plain = fine_text key (spelling quantity) plain (spelling_is_bytes quantity)

  fine_quantity : (digits : ℕ) (quantity : Fraction) → IsQuantity quantity → AreFine (quantity_members digits quantity)
  fine_quantity digits quantity is = (
    fine_exact (codes "value") quantity refl,
    (record { key = tested_bytes (codes "number") refl; value = decimals digits quantity is; flat = tt }, tt),
  )

  fine_value : (digits : ℕ) (unit : Option (List ℕ)) (value : Result Fraction WordFault) → IfSome unit AreBytes
      → IsValue value → AreFine (value_members digits unit value)
  fine_value digits unit (Ok quantity) small is =
      fine_of_both (quantity_members digits quantity) (unit_members unit) (fine_quantity digits quantity is)
      (fine_unit unit small)
  fine_value digits unit (Err fault) small is = fine_fault fault

  format_gives_quantities : (format : VoutFormat) (word : ℕ) → IsFormatOfWords format → word < 65536
      → IsQuantity (value_of (vout_coding format) word)
  format_gives_quantities (vout.Unsigned exponent) word words fits = of_ulinear16 lowest exponent word words fits
  format_gives_quantities (vout.Signed exponent) word words fits = of_slinear16 lowest exponent word words fits
  format_gives_quantities (vout.Direct d) word words fits = of_direct lowest d word words fits

  gives_quantities : (format : NumberFormat) (word : ℕ) → IsNumberOfWords format → word < 65536
      → IsQuantity (value_of (number_coding format) word)
  gives_quantities formats.Linear11 word words fits = of_linear11 lowest word fits
  gives_quantities (formats.Linear11Fixed exponent) word words fits = of_linear11 lowest word fits
  gives_quantities (formats.Word format) word words fits = format_gives_quantities format word words fits
  gives_quantities formats.Half word words fits = of_half lowest word fits
  gives_quantities (formats.Vid table) word words fits = of_vid lowest table word fits

  is_value : (format : NumberFormat) (word : ℕ) → IsNumberOfWords format → word < 65536
      → IsValue (value_in format word)
  is_value format word words fits =
      value_unless_fault (word_fault format word) (value_of (number_coding format) word)
      (gives_quantities format word words fits)

  -- ---- output voltages

  fine_basis : (basis : Basis) → AreFine (basis_members basis)
  fine_basis Told = tt
  fine_basis Assumed = (fine_word (codes "mode") (codes "assumed") refl refl, tt)

  fine_voltage : (digits : ℕ) (ratio : Bool) (quantity : Fraction) → IsQuantity quantity
      → AreFine (voltage_members digits ratio quantity)
  fine_voltage digits true quantity is = (fine_exact (codes "ratio") quantity refl, tt)
  fine_voltage digits false quantity is = fine_quantity digits quantity is

  fine_voltage_unit : (ratio : Bool) (unit : Option (List ℕ)) → IfSome unit AreBytes → AreFine (voltage_unit ratio unit)
  fine_voltage_unit true unit small = tt
  fine_voltage_unit false unit small = fine_unit unit small

  -- a value, what its VOUT_MODE rests on, and its unit
  fine_marked : (digits : ℕ) (unit : Option (List ℕ)) (ratio : Bool) (basis : Basis) (value : Result Fraction WordFault)
      → IfSome unit AreBytes → IsValue value → AreFine (marked_members digits unit ratio basis value)
  fine_marked digits unit ratio basis (Ok quantity) small is =
      fine_of_both (voltage_members digits ratio quantity) (basis_members basis ++ voltage_unit ratio unit)
      (fine_voltage digits ratio quantity is)
      (fine_of_both (basis_members basis) (voltage_unit ratio unit) (fine_basis basis)
      (fine_voltage_unit ratio unit small))
  fine_marked digits unit ratio basis (Err fault) small is = fine_fault fault

  fine_format : (digits : ℕ) (unit : Option (List ℕ)) (basis : Basis) (format : Result VoltageFormat NoVoltage)
      (word : ℕ)
      → IfSome unit AreBytes → VoltageHasWords format → word < 65536
      → AreFine (format_members digits unit basis format word)
  fine_format digits unit basis (Ok format) word small words fits =
      fine_marked digits unit format.is_ratio basis (value_in format.number word) small
      (is_value format.number word words fits)
  fine_format digits unit basis (Err why) word small words fits = fine_no_voltage why

  fine_vout : (digits : ℕ) (v : VoltagesData) (basis : Basis) (c : CommandParts) (sign : Sign) (word : ℕ) → HasTexts c
      → IfSome v.coefficients AreOfWords → word < 65536 → AreFine (vout_members digits v basis c sign word)
  fine_vout digits v basis c sign word texts words fits =
      fine_format digits c.unit basis (voltage_format v c.entry.code sign) word texts.unit
      (known_has_words v v.mode c.entry.code sign words) fits

  -- ---- by the command's kind

  fine_kind : (digits : ℕ) (a : Access) (v : VoltagesData) (basis : Basis) (c : CommandParts) (kind : Kind)
      (bytes : List ℕ)
      → HasTexts c → IfSome v.coefficients AreOfWords → IsOfWords kind → AreBytes bytes
      → AreFine (kind_members digits a v basis c kind bytes)
  fine_kind digits a v basis c Raw bytes texts vout words small = tt
  fine_kind digits a v basis c (Number format) bytes texts vout words small =
      fine_of_word (number_members digits c.unit format) bytes
      (λ word fits. fine_value digits c.unit (value_in format word) texts.unit (is_value format word words fits)) small
  fine_kind digits a v basis c Vout bytes texts vout words small =
      fine_of_word (vout_members digits v basis c Unsigned) bytes
      (λ word fits. fine_vout digits v basis c Unsigned word texts vout fits) small
  fine_kind digits a v basis c VoutSigned bytes texts vout words small =
      fine_of_word (vout_members digits v basis c Signed) bytes
      (λ word fits. fine_vout digits v basis c Signed word texts vout fits) small
  fine_kind digits a v basis c Status bytes texts vout words small = fine_status a c bytes texts
  fine_kind digits a v basis c Text bytes texts vout words small = tt

  fine_data : (digits : ℕ) (a : Access) (v : VoltagesData) (basis : Basis) (c : CommandParts) (bytes : List ℕ)
      → HasTexts c → IfSome v.coefficients AreOfWords → IsOfWords c.entry.kind → AreBytes bytes
      → AreFine (data_members digits a v basis c bytes)
  fine_data digits a v basis c bytes texts vout words small =
      let text : Option (List ℕ) = text_of c.entry (form_of a c.entry.shape) bytes in
      fine_of_both (kind_members digits a v basis c c.entry.kind bytes) (text_members text)
      (fine_kind digits a v basis c c.entry.kind bytes texts vout words small)
      (fine_characters text (text_is_bytes c.entry (form_of a c.entry.shape) bytes small))

  -- of the command with a code of the device with an address
  pub fine_said : SaysAreOne → (seen : SeenData) (a : Access) (addr code : ℕ) (bytes : List ℕ) → IsBus seen.profile
      → HasFormats seen addr code → AreBytes bytes → AreFine (said_of seen a addr code bytes)
  fine_said one seen a addr code bytes bus formats small =
      at_each AreFine tt (data_of seen a addr bytes) seen addr code
      (λ device c here there.
      let voltages : VoltagesData = voltages_of device (mode_at seen addr) (page_at seen addr) in
      let payload : Exchange = exchange_of a bytes in
      fine_of_both (data_members seen.digits a voltages (basis_at seen addr) c bytes)
      (fields_say payload device c)
      (fine_data seen.digits a voltages (basis_at seen addr) c bytes
      (has_texts seen addr device here code c there bus) (vout_has_words seen addr device here code formats)
      (kind_has_words seen addr device here code c there formats) small)
      (fine_says _ (one device c.entry payload (is_device seen addr device here bus))))

pub fine_call : SaysAreOne → (seen : SeenData) (addr code : ℕ) (first reply : List ℕ) → IsBus seen.profile
    → AreFine (call_says seen addr code first reply)
fine_call one seen addr code first reply bus =
    at_each AreFine tt (fields_say (called first reply)) seen addr code
    (λ device c here there. fine_says _ (one device c.entry (called first reply) (is_device seen addr device here bus)))
