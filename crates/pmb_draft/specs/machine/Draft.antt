-- Where a `Draft` is within a capture.
use Rattle.std.proofs.Common.{append_assoc, subst, sym}
use Rattle.std.specs.Prelude.{◌≡◌, ℕ, None, Some, List, [], ◌++◌, length, IsSome}
use Rattle.pmb_bus.specs.declared.event.Event.{Event}
use Rattle.pmb_bus.specs.Lexer.{LexerStandsAt}
use Rattle.pmb_command.specs.Parts.{DeviceParts, command_with, device_with}
use Rattle.pmb_draft.specs.declared.code_set.CodeSet.{CodeSet}
use Rattle.pmb_draft.specs.declared.draft.Draft.{Draft}
use Rattle.pmb_draft.specs.Draft.{Reads}
use Rattle.pmb_draft.specs.machine.CodeSet.{IsIn}
use Rattle.pmb_draft.specs.machine.Seen.{HasSeen}

-- it was given these bytes, whose words have ended in these events, and more may follow
pub record DraftStands (draft : Draft) (bytes : List ℕ) (events : List Event) : Type 0 where
  pub lexer : LexerStandsAt draft.lexer (length bytes) bytes events
  pub seen : HasSeen draft.seen events
  pub bad : draft.bad ≡ None

-- it has read all events of these bytes, up to a word that is no token
pub record HasRead (draft : Draft) (bytes : List ℕ) : Type 0 where
  pub events : List Event
  pub reads : Reads bytes events draft.bad
  pub seen : HasSeen draft.seen events

-- so far, whatever follows
pub record HasStopped (draft : Draft) (bytes : List ℕ) : Type 0 where
  pub events : List Event
  pub at : ℕ
  pub bad : draft.bad ≡ Some at
  pub reads : (more : List ℕ) → Reads (bytes ++ more) events (Some at)
  pub seen : HasSeen draft.seen events

-- ---- as an engine, which writes nothing

abbrev pub Taking : Draft → Draft → List ℕ → List ℕ → Type 0
Taking start now bytes text = (text ≡ []) × ((events : List Event) × DraftStands now bytes events)

abbrev pub Stopped : Draft → Draft → List ℕ → List ℕ → Type 0
Stopped start now bytes text = (text ≡ []) × HasStopped now bytes

abbrev pub Ended : Draft → Draft → List ℕ → List ℕ → Type 0
Ended start now bytes text = (text ≡ []) × HasRead now bytes

-- what stops it holds whatever follows
pub stops_for_good : (start now : Draft) (bytes text more : List ℕ) → Stopped start now bytes text
    → Stopped start now (bytes ++ more) text
stops_for_good start now bytes text more stopped = (
  stopped.0,
  record {
    events = stopped.1.events;
    at = stopped.1.at;
    bad = stopped.1.bad;
    reads = λ others. subst (λ (b : List ℕ). Reads b stopped.1.events (Some stopped.1.at))
        (sym (append_assoc bytes more others)) (stopped.1.reads (more ++ others));
    seen = stopped.1.seen;
  },
)

-- ---- what a bus has

-- a device, and with it each command of a set at its address
pub record HasDevice (codes : CodeSet) (devices : List DeviceParts) (address : ℕ) : Type 0 where
  pub device : DeviceParts
  pub found : device_with address devices ≡ Some device
  pub commands : (code : ℕ) → IsIn codes address code → IsSome (command_with code device.commands)
