-- What the four events of `i2c` say.
use Rattle.std.specs.Prelude.{ℕ, ◌+◌, ◌-◌, ◌==◌, ◌||◌, true, false, Bool, Option, Some, None, not, nat_lt, bit_and}
use Rattle.std.specs.Prelude.{if◌then◌else◌, List, [], ◌∷◌, codes, length}
use Rattle.pmb_recording.specs.Told.{Reason, ChangesTheWire, MakesNoSense, Shows}
use Rattle.pmb_recording.specs.Wire.{same}
use Rattle.pmb_trace.specs.declared.event_name.EventName.{EventName}
use Rattle.pmb_trace.specs.declared.event_name.EventName.TheVariants.{I2cWrite, I2cRead, I2cReply, I2cResult}
use Rattle.pmb_trace.specs.declared.event_name.EventName.TheVariants.{SmbusWrite, SmbusRead, SmbusReply, SmbusResult}
use Rattle.pmb_trace.specs.Fields.{Number, Outcome, address_field, bytes_field, decimal_field, flags_field, outcome_field}

-- the direction of a message, or that it is a reply
pub data Role : Type 0 where
  Writes : Role
  Reads : Role
  Replies : Role

-- A message, or what it read: `bytes` are those that the line shows.
pub record Message : Type 0 where
  pub role : Role
  pub number : ℕ
  pub address : ℕ
  pub flags : Number
  pub length : Number
  pub bytes : List ℕ

-- an event, by its fields
pub data Says : Type 0 where
  OfMessage : Message → Says
  Result : ℕ → Outcome → Says
  -- its form is none
  Unreadable : Says

-- ---- fields

abbrev pub message : Role → Option Number → Option Number → Option Number → Option Number → Option (List ℕ) → Says
message role (Some number) (Some address) (Some flags) (Some length) (Some bytes) =
    OfMessage (record {
      role = role;
      number = number.value;
      address = address.value;
      flags = flags;
      length = length;
      bytes = bytes;
    })
message role (Some number) (Some address) (Some flags) (Some length) None = Unreadable
message role (Some number) (Some address) (Some flags) None bytes = Unreadable
message role (Some number) (Some address) None length bytes = Unreadable
message role (Some number) None flags length bytes = Unreadable
message role None address flags length bytes = Unreadable

-- a message, `i2c-0 #0 a=058 f=0000 l=1`, and the bytes that the line shows
abbrev pub message_of : Role → List ℕ → List ℕ → List ℕ → List ℕ → Option (List ℕ) → Says
message_of role number address flags length bytes =
    message role (decimal_field (codes "#") number) (address_field address) (flags_field flags)
    (decimal_field (codes "l=") length) bytes

-- `i2c_write` and `i2c_reply`, whose last field is the bytes
abbrev pub with_bytes : Role → List (List ℕ) → Says
with_bytes role (bus ∷ number ∷ address ∷ flags ∷ length ∷ bytes ∷ []) =
    message_of role number address flags length (bytes_field bytes)
with_bytes role [] = Unreadable
with_bytes role (a ∷ []) = Unreadable
with_bytes role (a ∷ b ∷ []) = Unreadable
with_bytes role (a ∷ b ∷ c ∷ []) = Unreadable
with_bytes role (a ∷ b ∷ c ∷ d ∷ []) = Unreadable
with_bytes role (a ∷ b ∷ c ∷ d ∷ e ∷ []) = Unreadable
with_bytes role (a ∷ b ∷ c ∷ d ∷ e ∷ f ∷ g ∷ rest) = Unreadable

-- `i2c_read`, which has none
abbrev pub without_bytes : List (List ℕ) → Says
without_bytes (bus ∷ number ∷ address ∷ flags ∷ length ∷ []) = message_of Reads number address flags length (Some [])
without_bytes [] = Unreadable
without_bytes (a ∷ []) = Unreadable
without_bytes (a ∷ b ∷ []) = Unreadable
without_bytes (a ∷ b ∷ c ∷ []) = Unreadable
without_bytes (a ∷ b ∷ c ∷ d ∷ []) = Unreadable
without_bytes (a ∷ b ∷ c ∷ d ∷ e ∷ f ∷ rest) = Unreadable

-- `i2c_result`: `i2c-0 n=2 ret=2`
abbrev pub result : Option Number → Option Outcome → Says
result (Some count) (Some outcome) = Result count.value outcome
result (Some count) None = Unreadable
result None outcome = Unreadable

abbrev pub result_of : List (List ℕ) → Says
result_of (bus ∷ count ∷ outcome ∷ []) = result (decimal_field (codes "n=") count) (outcome_field (codes "ret=") outcome)
result_of [] = Unreadable
result_of (a ∷ []) = Unreadable
result_of (a ∷ b ∷ []) = Unreadable
result_of (a ∷ b ∷ c ∷ d ∷ rest) = Unreadable

-- what an event says by its fields; the names of SMBus's events have none of these
abbrev pub says : EventName → List (List ℕ) → Says
says I2cWrite fields = with_bytes Writes fields
says I2cRead fields = without_bytes fields
says I2cReply fields = with_bytes Replies fields
says I2cResult fields = result_of fields
says SmbusWrite fields = Unreadable
says SmbusRead fields = Unreadable
says SmbusReply fields = Unreadable
says SmbusResult fields = Unreadable

-- ---- flags, by the names that Linux gives them

-- the message reads
abbrev pub i2c_m_rd : ℕ
i2c_m_rd = 0x0001

-- it has an error code, which is among its bytes
abbrev pub i2c_client_pec : ℕ
i2c_client_pec = 0x0004

-- its bytes stand where a device may put them
abbrev pub i2c_m_dma_safe : ℕ
i2c_m_dma_safe = 0x0200

-- the first byte that is read tells how many follow
abbrev pub i2c_m_recv_len : ℕ
i2c_m_recv_len = 0x0400

abbrev pub has : ℕ → ℕ → Bool
has flags flag = bit_and flags flag == flag

-- the flags that are read: of each message, and one more where it reads
abbrev pub flags_of_all : ℕ
flags_of_all = i2c_m_rd + i2c_client_pec + i2c_m_dma_safe

abbrev pub flags_read : Role → ℕ
flags_read Writes = flags_of_all
flags_read Reads = flags_of_all + i2c_m_recv_len
flags_read Replies = flags_of_all + i2c_m_recv_len

-- those beside them
abbrev pub other_flags : Role → ℕ → ℕ
other_flags role flags = bit_and flags (0xffff - flags_read role)

-- ---- what makes a message a fault by itself

abbrev pub reads : Role → Bool
reads Writes = false
reads Reads = true
reads Replies = true

-- the bytes that a line ought to show
abbrev pub to_show : Message → ℕ
to_show message = elim message.role [
  | Writes ↦ message.length.value
  | Reads ↦ 0
  | Replies ↦ message.length.value
]

-- an address of over seven bits, the flags of the other direction, more bytes than the length says
abbrev pub is_out_of_range : Message → Bool
is_out_of_range m =
    nat_lt 0x7f m.address || (not (same (has m.flags.value i2c_m_rd) (reads m.role))
    || nat_lt (to_show m) (length m.bytes))

-- the first fault that a message has by itself
abbrev pub own_fault : Message → Option Reason
own_fault m =
    if is_out_of_range m then Some MakesNoSense else
    if nat_lt (length m.bytes) (to_show m) then Some (Shows (length m.bytes) m.length.text) else
    if other_flags m.role m.flags.value == 0 then None else Some (ChangesTheWire m.flags.text)
