-- What a host does next, by what it heard: the signals that it sent, each with the answer to it.
--
-- While all goes well it sends the signals of its transaction in order. After the first that does
-- not go well it sends STOP, which is always the last one. Then it tells how it ended.
use Rattle.std.specs.Prelude.{◌≡◌, ◌≢◌, ℕ, ◌+◌, Bool, true, ◌&&◌, Option, Some, None, Result, Ok, Err, List, [], ◌∷◌, ◌++◌, is_some}
use Rattle.std.specs.Prelude.{length, map, flat_map, nat_eq}
use Rattle.std.specs.List.{AllByRecursion}
use Rattle.pmb_command.specs.Parts.{DeviceParts}
use Rattle.pmb_quantity.specs.Fraction.{Fraction}
use Rattle.pmb_transaction.specs.Transaction.{TransactionData}
use Rattle.pmb_transaction.specs.Packet.{Packet}
use Rattle.pmb_device.specs.declared.signal.HostSignal.{HostSignal}
use Rattle.pmb_device.specs.declared.signal.HostSignal.TheVariants.{Start, Byte, Ask, Ack, Nack, Stop}
use Rattle.pmb_device.specs.declared.signal.DeviceSignal.{DeviceSignal}
use Rattle.pmb_device.specs.declared.signal.DeviceSignal.TheVariants as answers
use Rattle.pmb_devices.specs.Bus.{AnsweredSignal, recorded_events}
use Rattle.pmb_value.specs.declared.number_format.NumberFormat.{NumberFormat}
use Rattle.pmb_host.specs.declared.step.HostFault.{HostFault}
use Rattle.pmb_host.specs.declared.step.HostFault.TheVariants.{Refused, NoByte, BadPec}
use Rattle.pmb_host.specs.declared.step.Reply.{Reply}
use Rattle.pmb_host.specs.declared.step.Reply.TheVariants.{Written, Bytes, Value, NoValue}
use Rattle.pmb_value.specs.WordFault.{value_in}
use Rattle.pmb_value.specs.declared.number_format.WordFault.{WordFault}
use Rattle.pmb_host.specs.Task.{replied, word_bytes}
use Rattle.pmb_host.specs.Signals.{AreRead, Say, leg_signals, legs_of, reply_form, reply_has_pec, signals}

-- ---- what was heard

-- the answer that a signal needs: ACK to a byte, a byte to an Ask, and none to others
abbrev pub IsGood : HostSignal → DeviceSignal → Type 0
IsGood Start result = Unit {0}
IsGood (Byte b) result = result ≡ answers.Ack
IsGood Ask result = (b : ℕ) × (result ≡ answers.Byte b)
IsGood Ack result = Unit {0}
IsGood Nack result = Unit {0}
IsGood Stop result = Unit {0}

abbrev pub GoWell : List AnsweredSignal → Type 0
GoWell heard = AllByRecursion (λ one. IsGood one.signal one.result) heard

-- the signals
abbrev pub sent_signals : List AnsweredSignal → List HostSignal
sent_signals heard = map (λ one. one.signal) heard

-- the byte of an answer to an Ask
abbrev pub byte_of : HostSignal → DeviceSignal → List ℕ
byte_of Start result = []
byte_of (Byte b) result = []
byte_of Ask answers.Silent = []
byte_of Ask answers.Ack = []
byte_of Ask answers.Nack = []
byte_of Ask (answers.Byte b) = b ∷ []
byte_of Ack result = []
byte_of Nack result = []
byte_of Stop result = []

-- the bytes that were read
abbrev pub bytes_read : List AnsweredSignal → List ℕ
bytes_read heard = flat_map (λ one. byte_of one.signal one.result) heard

-- ---- what is told

-- what contracts see of a reply
pub data ReplyData : Type 0 where
  AllWritten : ReplyData
  AllBytes : List ℕ → ReplyData
  OneValue : Fraction → ReplyData
  -- a word without a value
  NoQuantity : ReplyData

abbrev pub reply_data : Reply → ReplyData
reply_data Written = AllWritten
reply_data (Bytes bytes) = AllBytes bytes.items
reply_data (Value value) = OneValue value
reply_data NoValue = NoQuantity

-- what is told of a word in a format
abbrev pub told_word : Result Fraction WordFault → ReplyData
told_word (Ok value) = OneValue value
told_word (Err fault) = NoQuantity

module _ (profile : List DeviceParts) (task : TransactionData) where
  -- the bytes of both legs before a reply
  abbrev pub bytes_before : List ℕ
  bytes_before = flat_map (λ bytes. bytes) (legs_of profile task)

  -- these are all the bytes that are to be read
  abbrev pub IsAllRead : List ℕ → Type 0
  IsAllRead bytes = AreRead (reply_form profile task) (reply_has_pec task) bytes

  -- they say this reply, and the packet error code is right where one was asked for
  abbrev pub SaysReply : List ℕ → List ℕ → Type 0
  SaysReply reply bytes = Say (reply_form profile task) (reply_has_pec task) bytes_before reply bytes

  -- ---- the next signal

  -- All went well, and for some bytes that may still be read this signal comes next.
  pub record GoesOn (heard : List AnsweredSignal) (signal : HostSignal) : Type 0 where
    pub well : GoWell heard
    pub to_read : List ℕ
    pub all : IsAllRead (bytes_read heard ++ to_read)
    pub behind : List HostSignal
    pub spelled : signals (legs_of profile task) (bytes_read heard ++ to_read) ≡ sent_signals heard ++ signal ∷ behind

  -- The last signal was the first that did not go well, and STOP comes next.
  pub record GivesUp (heard : List AnsweredSignal) (signal : HostSignal) : Type 0 where
    pub front : List AnsweredSignal
    pub last : AnsweredSignal
    pub split : heard ≡ front ++ last ∷ []
    pub well : GoWell front
    pub not_well : IsGood last.signal last.result → ⊥
    pub stop : signal ≡ Stop

  -- ---- the end

  -- All went well to the end: all was written, and all read.
  pub record Completes (heard : List AnsweredSignal) : Type 0 where
    pub well : GoWell heard
    pub all : IsAllRead (bytes_read heard)
    pub spelled : sent_signals heard ≡ signals (legs_of profile task) (bytes_read heard)

  -- .. and the bytes say this reply. What was recorded is then the packet.
  pub record Succeeds (heard : List AnsweredSignal) (reply : List ℕ) : Type 0 where
    pub completes : Completes heard
    pub says : SaysReply reply (bytes_read heard)
    pub packet : Packet profile (replied task reply) (recorded_events heard)

  -- .. but the packet error code is wrong.
  pub record HasBadPec (heard : List AnsweredSignal) : Type 0 where
    pub completes : Completes heard
    pub wrong : (reply : List ℕ) → SaysReply reply (bytes_read heard) → ⊥

  -- After the first signal that did not go well came STOP.
  pub record StopsBehind (heard front : List AnsweredSignal) (failed : AnsweredSignal) : Type 0 where
    pub result : DeviceSignal
    pub split : heard ≡ front ++ failed ∷ record { signal = Stop; result = result } ∷ []
    pub well : GoWell front

  -- It was a byte that was not acknowledged: the leg counts from 1, and in it the byte from 0.
  pub record IsRefused (heard : List AnsweredSignal) (leg byte : ℕ) (at_read : Bool) : Type 0 where
    pub front : List AnsweredSignal
    pub refused : ℕ
    pub result : DeviceSignal
    pub not_acked : result ≢ answers.Ack
    pub stops : StopsBehind heard front (record { signal = Byte refused; result = result })
    pub legs : List (List ℕ)
    pub bytes : List ℕ
    pub before : sent_signals front ≡ flat_map leg_signals legs ++ Start ∷ map Byte bytes
    pub leg_is : leg ≡ length legs + 1
    pub byte_is : byte ≡ length bytes
    -- To read, the second leg is that of the address for reading.
    pub at_read_is : at_read ≡ (is_some (reply_form profile task) && nat_eq leg 2)

  -- It was an Ask to which no byte was given.
  pub record GetsNoByte (heard : List AnsweredSignal) : Type 0 where
    pub front : List AnsweredSignal
    pub result : DeviceSignal
    pub none : (b : ℕ) → result ≢ answers.Byte b
    pub stops : StopsBehind heard front (record { signal = Ask; result = result })

  -- How it ended, where it failed.
  pub data Fails (heard : List AnsweredSignal) (fault : HostFault) : Type 0 where
    refused : (leg byte : ℕ) (at_read : Bool) → IsRefused heard leg byte at_read → fault ≡ Refused leg byte at_read
        → Fails heard fault
    no_byte : GetsNoByte heard → fault ≡ NoByte → Fails heard fault
    bad_pec : HasBadPec heard → fault ≡ BadPec → Fails heard fault

  -- What is told of a reply: that all was written, its bytes, or, where a format is given, the
  -- value of the word that they are.
  pub data IsTold (number : Option NumberFormat) (reply : List ℕ) (told : ReplyData) : Type 0 where
    written : reply_form profile task ≡ None → told ≡ AllWritten → IsTold number reply told
    bytes : is_some (reply_form profile task) ≡ true → number ≡ None → told ≡ AllBytes reply → IsTold number reply told
    value : (format : NumberFormat) (word : ℕ) → number ≡ Some format → reply ≡ word_bytes word
        → told ≡ told_word (value_in format word) → IsTold number reply told
