-- What a line says of an event that no packet can have there: a sentence for each reason, and a hint where the cause
-- is known.
use Rattle.std.specs.Prelude.{ℕ, ◌&&◌, Bool, true, false, nat_eq, Option, Some, None, List, [], ◌∷◌, ◌++◌, codes, drop}
use Rattle.std.specs.Option.{is_none, is_some}
use Rattle.pmb_bus.specs.Kinds.{holds}
use Rattle.pmb_bus.specs.declared.event.Event.{Event}
use Rattle.pmb_bus.specs.declared.event.Event.TheVariants.{Start, Byte, Ack, Nack, Stop}
use Rattle.pmb_bus.specs.declared.kinds.Kinds.{Kinds}
use Rattle.pmb_command.specs.declared.pec_mode.PecMode.{PecMode}
use Rattle.pmb_command.specs.declared.pec_mode.PecMode.TheVariants.{Off, On, Optional}
use Rattle.pmb_command.specs.Parts.{DeviceParts, device_with}
use Rattle.pmb_json_objects.specs.Packets.{is_whole_in, is_whole_write, last_byte}
use Rattle.pmb_json_objects.specs.Refusals.{due_pec}
use Rattle.pmb_json_objects.specs.Seen.{SeenData, entry_at}
use Rattle.pmb_json_text.specs.declared.item_order.ItemOrder.TheVariants.{First}
use Rattle.pmb_partial_packet.specs.PartialPacket.{but_last, leg_or_none, reply, said_device, sent, written_to}
use Rattle.pmb_transaction.specs.Names.{with_name}
use Rattle.pmb_transaction.specs.declared.reason.Reason.{Reason}
use Rattle.pmb_transaction.specs.declared.reason.Reason.TheVariants.{ReadFirst, BadRestart, BadPec, UnknownDevice}
use Rattle.pmb_transaction.specs.declared.reason.Reason.TheVariants.{UnknownCommand, TooLong, TooShort, WrongEvent}
use Rattle.pmb_transaction.specs.declared.reason.Reason.TheVariants.{Truncated}
use Rattle.pmb_log_data.specs.Text.{after_says, blank_and_digits, byte_after_blank, byte_digits, bytes_says, joined}
use Rattle.pmb_log_data.specs.Whole.{leg_code, reply_form}

-- ---- events

abbrev pub event_says : Event → List ℕ
event_says Start = codes "START"
event_says (Byte b) = byte_digits b
event_says Ack = codes "ACK"
event_says Nack = codes "NACK"
event_says Stop = codes "STOP"

-- the event that came, or the end of the events
abbrev pub got_says : Option Event → List ℕ
got_says None = codes "the end"
got_says (Some event) = event_says event

-- the kinds of a set, in this order
abbrev pub kind_words : Kinds → List (List ℕ)
kind_words kinds =
    with_name (holds kinds Start) (codes "START")
    (with_name (holds kinds (Byte 0)) (codes "a byte")
    (with_name (holds kinds Ack) (codes "ACK")
    (with_name (holds kinds Nack) (codes "NACK")
    (with_name (holds kinds Stop) (codes "STOP") []))))

abbrev pub kinds_says : Kinds → List ℕ
kinds_says kinds = joined (codes " or ") First (kind_words kinds)

-- ---- error codes

abbrev pub right_says : Option ℕ → List ℕ
right_says None = []
right_says (Some right) = codes ": " ++ byte_digits right ++ codes " is right"

-- one that came after these bytes of a reply
abbrev pub replied_code_says : ℕ → List ℕ → Option ℕ → List ℕ
replied_code_says code bytes right =
    codes "wrong error code" ++ blank_and_digits code ++ after_says bytes ++ right_says right

-- one that was sent as the last of these bytes, the first of which is the command's code
abbrev pub sent_code_says : List ℕ → Option ℕ → List ℕ
sent_code_says bytes right =
    codes "wrong error code" ++ byte_after_blank (last_byte bytes) ++ after_says (drop 1 (but_last bytes))
    ++ codes " was acknowledged" ++ right_says right

abbrev pub plain_code_says : Option ℕ → List ℕ
plain_code_says right = codes "wrong error code" ++ right_says right

-- by the event: a byte of a reply, or the ACK of a byte that was sent; no other event comes with a wrong error code
abbrev pub code_at_says : Event → List ℕ → List ℕ → Option ℕ → List ℕ
code_at_says Start bytes replied right = plain_code_says right
code_at_says (Byte b) bytes replied right = replied_code_says b replied right
code_at_says Ack bytes replied right = sent_code_says bytes right
code_at_says Nack bytes replied right = plain_code_says right
code_at_says Stop bytes replied right = plain_code_says right

abbrev pub wrong_code_says : Option Event → List ℕ → List ℕ → Option ℕ → List ℕ
wrong_code_says None bytes replied right = plain_code_says right
wrong_code_says (Some event) bytes replied right = code_at_says event bytes replied right

-- ---- commands

-- the code that was sent, if one was
abbrev pub first_byte : List ℕ → Option ℕ
first_byte [] = None
first_byte (code ∷ bytes) = Some code

-- whether a device has the command whose code was sent
abbrev pub has_sent_command : SeenData → Option ℕ → Option ℕ → Bool
has_sent_command seen None code = false
has_sent_command seen (Some addr) None = false
has_sent_command seen (Some addr) (Some code) = is_some (entry_at seen addr code)

abbrev pub why_no_command : Bool → List ℕ
why_no_command true = codes " acknowledged, but it cannot come here"
why_no_command false = codes " acknowledged, but the profile has no such command"

abbrev pub unknown_command_says : SeenData → Option ℕ → List ℕ → List ℕ
unknown_command_says seen to bytes =
    codes "code" ++ byte_after_blank (first_byte bytes) ++ why_no_command (has_sent_command seen to (first_byte bytes))

-- ---- hints

abbrev pub off_hint : List ℕ
off_hint = codes " (a right error code: pec is \"off\" in the profile)"

abbrev pub long_hint : List ℕ
long_hint = codes " (an error code? pec is \"off\" in the profile)"

abbrev pub missing_hint : List ℕ
missing_hint = codes " (the error code is missing: pec is \"on\" in the profile)"

abbrev pub first_hint : List ℕ
first_hint = codes " (Receive Byte, or a capture that begins inside a packet)"

abbrev pub is_off : PecMode → Bool
is_off Off = true
is_off On = false
is_off Optional = false

abbrev pub is_on : PecMode → Bool
is_on Off = false
is_on On = true
is_on Optional = false

-- whether packets of a device carry no error code
abbrev pub has_off : Option DeviceParts → Bool
has_off None = false
has_off (Some device) = is_off device.pec

abbrev pub device_of : SeenData → Option ℕ → Option DeviceParts
device_of seen None = None
device_of seen (Some addr) = device_with addr seen.profile

-- whether a byte is the right error code of a written leg: its address, and the bytes that were sent after it
abbrev pub is_leg_code : Option ℕ → Option (List ℕ) → ℕ → Bool
is_leg_code None bytes byte = false
is_leg_code (Some addr) None byte = false
is_leg_code (Some addr) (Some bytes) byte = nat_eq byte (leg_code addr bytes)

-- .. where that leg is under way, and none is read
abbrev pub is_unread_code : Option (List ℕ) → Option ℕ → Option (List ℕ) → ℕ → Bool
is_unread_code None to bytes byte = is_leg_code to bytes byte
is_unread_code (Some replied) to bytes byte = false

abbrev pub is_leg_event : Option ℕ → Option (List ℕ) → Option (List ℕ) → Event → Bool
is_leg_event to bytes replied Start = false
is_leg_event to bytes replied (Byte b) = is_unread_code replied to bytes b
is_leg_event to bytes replied Ack = false
is_leg_event to bytes replied Nack = false
is_leg_event to bytes replied Stop = false

abbrev pub is_leg_byte : Option ℕ → Option (List ℕ) → Option (List ℕ) → Option Event → Bool
is_leg_byte to bytes replied None = false
is_leg_byte to bytes replied (Some event) = is_leg_event to bytes replied event

-- whether only the error code is missing after the bytes of a reply
abbrev pub lacks_code : Option DeviceParts → List ℕ → List ℕ → Bool
lacks_code None bytes replied = false
lacks_code (Some device) bytes replied = is_on device.pec && is_whole_in (reply_form device bytes) replied

-- whether only the error code is missing after the bytes of a write: they are whole, and no reply can follow them
abbrev pub lacks_write_code : Option DeviceParts → List ℕ → Bool
lacks_write_code None bytes = false
lacks_write_code (Some device) bytes =
    is_on device.pec && is_whole_write (Some device) bytes && is_none (reply_form device bytes)

-- whether an event ends a leg
abbrev pub ends_leg : Event → Bool
ends_leg Start = true
ends_leg (Byte b) = false
ends_leg Ack = false
ends_leg Nack = false
ends_leg Stop = true

abbrev pub is_leg_end : Option Event → Bool
is_leg_end None = false
is_leg_end (Some event) = ends_leg event

abbrev pub if_so : Bool → List ℕ → List ℕ
if_so true hint = hint
if_so false hint = []

-- ---- the sentences

-- GOT is the event, R what was replied in the leg, D what was sent in the last leg that is written.
abbrev pub refusal_says : SeenData → List Event → Option Event → Reason → Kinds → List ℕ
refusal_says seen front event ReadFirst kinds = got_says event ++ codes " reads without a command" ++ first_hint
refusal_says seen front event BadRestart kinds = got_says event ++ codes " cannot come after a repeated START"
refusal_says seen front event BadPec kinds =
    wrong_code_says event (leg_or_none (sent front)) (leg_or_none (reply front))
    (due_pec BadPec front event)
refusal_says seen front event UnknownDevice kinds = codes "acknowledged, but the profile has no such device"
refusal_says seen front event UnknownCommand kinds =
    unknown_command_says seen (written_to front) (leg_or_none (sent front))
refusal_says seen front event TooLong kinds =
    codes "read on after " ++ bytes_says (leg_or_none (reply front)) ++ codes ", which is all"
    ++ if_so (has_off (device_of seen (said_device front))) long_hint
refusal_says seen front event TooShort kinds =
    codes "ended after " ++ bytes_says (leg_or_none (reply front)) ++ codes ": more bytes have to come"
    ++ if_so (lacks_code (device_of seen (said_device front)) (leg_or_none (sent front)) (leg_or_none (reply front)))
    missing_hint
refusal_says seen front event WrongEvent kinds =
    got_says event ++ codes " came, but " ++ kinds_says kinds ++ codes " can come"
    ++ if_so (has_off (device_of seen (written_to front))
    && is_leg_byte (written_to front) (sent front) (reply front) event) off_hint
    ++ if_so (is_leg_end event
    && lacks_write_code (device_of seen (written_to front)) (leg_or_none (sent front))) missing_hint
refusal_says seen front event Truncated kinds = codes "the capture ends inside the packet"
