-- The names of reasons and of kinds of events, as they are printed.
use Rattle.std.specs.Prelude.{ℕ, Bool, true, false, List, [], ◌∷◌, codes}
use Rattle.pmb_bus.specs.declared.event.Event.TheVariants.{Start, Byte, Ack, Nack, Stop}
use Rattle.pmb_bus.specs.declared.kinds.Kinds.{Kinds}
use Rattle.pmb_bus.specs.Kinds.{holds}
use Rattle.pmb_transaction.specs.declared.reason.Reason.{Reason}
use Rattle.pmb_transaction.specs.declared.reason.Reason.TheVariants.{ReadFirst, BadRestart, BadPec, UnknownDevice}
use Rattle.pmb_transaction.specs.declared.reason.Reason.TheVariants.{UnknownCommand, TooLong, TooShort, WrongEvent}
use Rattle.pmb_transaction.specs.declared.reason.Reason.TheVariants.{Truncated}

abbrev pub reason_name : Reason → List ℕ
reason_name ReadFirst = codes "ReadFirst"
reason_name BadRestart = codes "BadRestart"
reason_name BadPec = codes "BadPec"
reason_name UnknownDevice = codes "UnknownDevice"
reason_name UnknownCommand = codes "UnknownCommand"
reason_name TooLong = codes "TooLong"
reason_name TooShort = codes "TooShort"
reason_name WrongEvent = codes "WrongEvent"
reason_name Truncated = codes "Truncated"

-- a name if the flag is set, before others
abbrev pub with_name : Bool → List ℕ → List (List ℕ) → List (List ℕ)
with_name true name names = name ∷ names
with_name false name names = names

-- the kinds of a set by their names, in this order
abbrev pub kind_names : Kinds → List (List ℕ)
kind_names kinds =
    with_name (holds kinds Start) (codes "Start")
    (with_name (holds kinds (Byte 0)) (codes "Byte")
    (with_name (holds kinds Ack) (codes "Ack")
    (with_name (holds kinds Nack) (codes "Nack")
    (with_name (holds kinds Stop) (codes "Stop") []))))
