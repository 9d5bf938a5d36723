-- Why an event was refused.
use Rattle.std.specs.Prelude.{ℕ, ◌==◌, if◌then◌else◌, Option, Some, None}
use Rattle.pmb_bus.specs.declared.event.Event.{Event}
use Rattle.pmb_bus.specs.declared.event.Event.TheVariants.{Start, Byte, Ack, Nack, Stop}
use Rattle.pmb_bus.specs.declared.kinds.Kinds.{Kinds}
use Rattle.pmb_bus.specs.Kinds.{bits, kind_of}
use Rattle.pmb_transaction.specs.declared.reason.Reason.{Reason}
use Rattle.pmb_transaction.specs.declared.reason.Reason.TheVariants.{ReadFirst, BadRestart, BadPec, UnknownDevice}
use Rattle.pmb_transaction.specs.declared.reason.Reason.TheVariants.{UnknownCommand, TooLong, TooShort, WrongEvent}
use Rattle.pmb_transaction.specs.declared.reason.Reason.TheVariants.{Truncated}
use Rattle.pmb_items.specs.declared.item.ItemRefusal.{ItemRefusal}

abbrev pub reason_number : Reason → ℕ
reason_number ReadFirst = 1
reason_number BadRestart = 2
reason_number BadPec = 3
reason_number UnknownDevice = 4
reason_number UnknownCommand = 5
reason_number TooLong = 6
reason_number TooShort = 7
reason_number WrongEvent = 8
reason_number Truncated = 9

-- the reason of a number, if it is that of one
abbrev pub reason_of : ℕ → Option Reason
reason_of number =
    if number == 1 then Some ReadFirst
    else if number == 2 then Some BadRestart
    else if number == 3 then Some BadPec
    else if number == 4 then Some UnknownDevice
    else if number == 5 then Some UnknownCommand
    else if number == 6 then Some TooLong
    else if number == 7 then Some TooShort
    else if number == 8 then Some WrongEvent
    else if number == 9 then Some Truncated
    else None

-- the refused event; none where the events ended
abbrev pub got_kind : Option Event → ℕ
got_kind None = 0
got_kind (Some event) = kind_of event

abbrev pub event_byte : Event → ℕ
event_byte Start = 0
event_byte (Byte b) = b
event_byte Ack = 0
event_byte Nack = 0
event_byte Stop = 0

abbrev pub got_byte : Option Event → ℕ
got_byte None = 0
got_byte (Some event) = event_byte event

abbrev pub no_refusal : ItemRefusal
no_refusal = record { reason = 0; expected = 0; got = 0; byte = 0 }

abbrev pub refusal_of : Reason → Kinds → Option Event → ItemRefusal
refusal_of reason expected event = record {
  reason = reason_number reason;
  expected = bits expected;
  got = got_kind event;
  byte = got_byte event;
}
