-- The events of a text as C has them: a status, and two numbers.
use Rattle.std.specs.Prelude.{◌≡◌, ℕ, ℤ, Option, Some, None, Result, Ok, Err, List}
use Rattle.pmb_bus.specs.declared.event.Event.{Event}
use Rattle.pmb_bus.specs.declared.event.Event.TheVariants.{Start, Byte, Ack, Nack, Stop}
use Rattle.pmb_bus.specs.declared.lexer.LexFault.{LexFault}
use Rattle.pmb_bus.specs.declared.lexer.Step.{Step}
use Rattle.pmb_bus.specs.declared.lexer.Step.TheVariants as answers
use Rattle.pmb_firmware.specs.declared.event.PmbEvent.{PmbEvent}
use Rattle.pmb_firmware.specs.declared.call_status.CallStatus.TheVariants.{Done, NoEvent, BadToken}
use Rattle.pmb_firmware.specs.CallStatus.{number_of}
use Rattle.pmb_firmware.specs.declared.lexer.PmbLexer.{PmbLexer}
use Rattle.pmb_firmware.specs.Lexer.{Feeds, Finishes}

-- the numbers of an event
abbrev pub event_numbers : Event → PmbEvent
event_numbers Start = record { kind = 0; byte = 0 }
event_numbers (Byte byte) = record { kind = 1; byte = byte }
event_numbers Ack = record { kind = 2; byte = 0 }
event_numbers Nack = record { kind = 3; byte = 0 }
event_numbers Stop = record { kind = 4; byte = 0 }

-- what is told of a step: its event, or why there is none, and then the event stays as it was
pub record Tells (status told : ℤ) (event left : PmbEvent) : Type 0 where
  pub says : status ≡ told
  pub leaves : left ≡ event

abbrev pub TellsStep : Step → PmbEvent → ℤ → PmbEvent → Type 0
TellsStep (answers.Event found) event status left = Tells status (number_of Done) (event_numbers found) left
TellsStep answers.Need event status left = Tells status (number_of NoEvent) event left
TellsStep (answers.Fault fault) event status left = Tells status (number_of BadToken) event left

-- What a lexer that stands at a text answers for a piece more of it is told.
pub record Lexes (n : ℕ) (text : List ℕ) (events : List Event) (piece : List ℕ) (used : ℕ) (after : PmbLexer)
    (event : PmbEvent) (status : ℤ) (left : PmbEvent) : Type 0 where
  pub step : Step
  pub feeds : Feeds n text events piece used step after
  pub tells : TellsStep step event status left

-- after a fault
pub record StaysFaulted (before after : PmbLexer) (event : PmbEvent) (status : ℤ) (left : PmbEvent) : Type 0 where
  pub says : status ≡ number_of BadToken
  pub leaves : left ≡ event
  pub same : after ≡ before

abbrev pub TellsEnd : Result (Option Event) LexFault → PmbEvent → ℤ → PmbEvent → Type 0
TellsEnd (Ok (Some found)) event status left = Tells status (number_of Done) (event_numbers found) left
TellsEnd (Ok None) event status left = Tells status (number_of NoEvent) event left
TellsEnd (Err fault) event status left = Tells status (number_of BadToken) event left

-- .. and at its end
pub record Ends (n : ℕ) (text : List ℕ) (events : List Event) (after : PmbLexer) (event : PmbEvent) (status : ℤ)
    (left : PmbEvent) : Type 0 where
  pub answer : Result (Option Event) LexFault
  pub finishes : Finishes n text events answer after
  pub tells : TellsEnd answer event status left
