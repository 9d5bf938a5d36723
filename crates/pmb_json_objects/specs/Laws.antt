-- Objects as JSON, and what holds by nature of that which they are made of.
use Rattle.std.specs.Prelude.{ℕ, ◌+◌, ◌^◌, ◌<◌, ◌≤◌, ⊤, IfSome, Option, List, [], ◌∷◌, codes, length}
use Rattle.std.specs.Prelude.{unsigned_abs}
use Rattle.std.specs.List.{AllByRecursion}
use Rattle.pmb_coefficients.specs.Coefficients.{Coefficients, MakeFormat}
use Rattle.pmb_command.specs.declared.entry.Kind.{Kind}
use Rattle.pmb_command.specs.declared.entry.Kind.TheVariants.{Raw, Number, Vout, VoutSigned, Status, Text}
use Rattle.pmb_value.specs.declared.number_format.NumberFormat.{NumberFormat}
use Rattle.pmb_value.specs.declared.number_format.NumberFormat.TheVariants as formats
use Rattle.pmb_value.specs.declared.vout.VoutFormat.{VoutFormat}
use Rattle.pmb_value.specs.declared.vout.VoutFormat.TheVariants.{Unsigned, Signed, Direct}
use Rattle.pmb_coefficients.specs.Exponent.{IsExponent}
use Rattle.pmb_command.specs.Bus.{IsBus}
use Rattle.pmb_command.specs.Parts.{device_with}
use Rattle.pmb_json_text.specs.Json.{HasDistinctKeys}
use Rattle.pmb_json_text.specs.Member.{AreWritable, Member, object_of}
use Rattle.pmb_json_text.specs.Spelling.{AreBytes}
use Rattle.pmb_places.specs.declared.places.Place.{Place}
use Rattle.pmb_transaction.specs.Transaction.{PartData, TransactionData, Write, Read, Call, Refused, Alert, NoAlert}
use Rattle.pmb_json_objects.specs.Head.{Head}
use Rattle.pmb_json_objects.specs.Seen.{SeenData, command_at, page_at, phase_at}

-- ---- what is promised

-- Members that can be written, where no object has a key twice: by the laws of `pmb_json_text` their line
-- is JSON, and spells their object.
pub record IsJsonObject (members : List Member) : Type 0 where
  pub writable : AreWritable members
  pub distinct : HasDistinctKeys (object_of members)

-- the keys of all objects; those of each are some of these, in this order
abbrev pub object_keys : List (List ℕ)
object_keys =
    codes "at" ∷ codes "line" ∷ codes "column" ∷ codes "time" ∷ codes "kind" ∷ codes "part" ∷ codes "parts"
    ∷ codes "reason" ∷ codes "expected" ∷ codes "got" ∷ codes "device" ∷ codes "name"
    ∷ codes "writes" ∷ codes "reads" ∷ codes "calls" ∷ codes "packets" ∷ codes "refused" ∷ codes "refusals"
    ∷ codes "bad_tokens" ∷ codes "others" ∷ codes "code" ∷ codes "command" ∷ codes "page" ∷ codes "page_mode" ∷ codes "phase"
    ∷ codes "bytes" ∷ codes "byte" ∷ codes "sent" ∷ codes "reply" ∷ codes "pec" ∷ codes "right_pec" ∷ codes "word"
    ∷ codes "value" ∷ codes "number" ∷ codes "ratio" ∷ codes "mode" ∷ codes "unit" ∷ codes "raw" ∷ codes "bits"
    ∷ codes "clears" ∷ codes "text" ∷ codes "says" ∷ []

-- ---- numbers of 64 bits

abbrev pub IsCount : ℕ → Type 0
IsCount n = n < 2 ^ 64

pub record IsPlace (place : Place) : Type 0 where
  pub line : IsCount place.line
  pub column : IsCount place.column

-- a time: bytes
abbrev pub IsTime : Option (List ℕ) → Type 0
IsTime time = IfSome time AreBytes

pub record IsHead (head : Head) : Type 0 where
  pub at : IsCount head.at
  pub place : IsPlace head.place
  pub time : IsTime head.time

-- ---- what is seen

-- Coefficients of 16 bits that make a format.
pub record AreOfWords (d : Coefficients) : Type 0 where
  pub slope : unsigned_abs d.m ≤ 2 ^ 15
  pub offset : unsigned_abs d.b ≤ 2 ^ 15
  pub format : MakeFormat d

-- those of a format in DIRECT, and the exponent of a linear one
abbrev pub IsFormatOfWords : VoutFormat → Type 0
IsFormatOfWords (Unsigned exponent) = IsExponent exponent
IsFormatOfWords (Signed exponent) = IsExponent exponent
IsFormatOfWords (Direct d) = AreOfWords d

abbrev pub IsNumberOfWords : NumberFormat → Type 0
IsNumberOfWords formats.Linear11 = ⊤
IsNumberOfWords (formats.Linear11Fixed exponent) = ⊤
IsNumberOfWords (formats.Word format) = IsFormatOfWords format
IsNumberOfWords formats.Half = ⊤
IsNumberOfWords (formats.Vid table) = ⊤

-- those of a kind
abbrev pub IsOfWords : Kind → Type 0
IsOfWords Raw = ⊤
IsOfWords (Number format) = IsNumberOfWords format
IsOfWords Vout = ⊤
IsOfWords VoutSigned = ⊤
IsOfWords Status = ⊤
IsOfWords Text = ⊤

-- The profile is accepted, and PAGE and PHASE of the device with an address are bytes.
pub record IsSeen (seen : SeenData) (addr : ℕ) : Type 0 where
  pub bus : IsBus seen.profile
  pub page : IfSome (page_at seen addr) (λ page. page < 256)
  pub phase : IfSome (phase_at seen addr) (λ phase. phase < 256)

-- The coefficients of that device's output voltages have 16 bits and make a format, and the kind of its
-- command with a code has such coefficients, or an exponent of five bits, where it has any.
pub record HasFormats (seen : SeenData) (addr code : ℕ) : Type 0 where
  pub vout : IfSome (device_with addr seen.profile) (λ device. IfSome device.vout_direct AreOfWords)
  pub kind : IfSome (command_at seen addr code) (λ c. IsOfWords c.entry.kind)

-- Data of that command: bytes.
pub record IsData (seen : SeenData) (addr code : ℕ) (bytes : List ℕ) : Type 0 where
  pub device : IsSeen seen addr
  pub formats : HasFormats seen addr code
  pub small : AreBytes bytes

-- ---- transactions

abbrev pub AreParts : SeenData → List PartData → Type 0
AreParts seen parts = AllByRecursion (λ part. IsData seen part.addr part.code part.bytes) parts

-- Each device that it names is seen, its data are such, and the parts of a group can be counted.
abbrev pub IsTransaction : SeenData → TransactionData → Type 0
IsTransaction seen (Write parts) = AreParts seen parts × IsCount (length parts)
IsTransaction seen (Read t) = IsData seen t.addr t.code t.reply
IsTransaction seen (Call t) = IsSeen seen t.addr
IsTransaction seen (Refused t) = AreParts seen t.parts × IsCount (length t.parts + 1) × IsSeen seen t.addr
IsTransaction seen (Alert t) = IsBus seen.profile
IsTransaction seen NoAlert = ⊤
