-- What the values of this crate's types hold, in the words of the definitions.
use Rattle.std.specs.Prelude.{ℕ, ◌≤◌, true, false, Bool, Option, Some, None, List, [], ◌∷◌, length}
use Rattle.pmb_recording.specs.Content.{most_content}
use Rattle.pmb_trace.specs.Line as line
use Rattle.pmb_trace.specs.Views.{number_of, outcome_of}
use Rattle.pmb_smbus.specs.Events as events
use Rattle.pmb_smbus.specs.declared.events.Front.{Front}
use Rattle.pmb_smbus.specs.declared.events.Message.{Message}
use Rattle.pmb_smbus.specs.declared.events.Says.{Says}
use Rattle.pmb_smbus.specs.declared.events.Says.TheVariants as says

abbrev pub front_of : Front → events.Front
front_of front = record { head = front.head; flags = number_of front.flags }

-- bytes, or that they are hidden
abbrev pub bytes_in : Bool → List ℕ → events.Bytes
bytes_in true bytes = events.Hidden
bytes_in false bytes = events.Shown bytes

-- the same, where an event has its bytes or the placeholder
abbrev pub shown_as : Option Bool → List ℕ → Option events.Bytes
shown_as (Some is_hidden) bytes = Some (bytes_in is_hidden bytes)
shown_as None bytes = None

-- a message with the bytes that its event shows
abbrev pub message_with : Message → List ℕ → events.Message
message_with m bytes = record {
  front = front_of m.front;
  length = number_of m.length;
  bytes = bytes_in m.is_hidden bytes;
}

-- a message, if there is one
abbrev pub said_message : (events.Message → events.Says) → Option Message → List ℕ → events.Says
said_message says (Some m) bytes = says (message_with m bytes)
said_message says None bytes = events.Unreadable

abbrev pub said : Says → List ℕ → events.Says
said (says.Writes m) bytes = events.Writes (message_with m bytes)
said (says.Reads front) bytes = events.Reads (front_of front)
said (says.Replies m) bytes = events.Replies (message_with m bytes)
said (says.Result front writes outcome) bytes = events.Result (front_of front) writes (outcome_of outcome)
said says.Nothing bytes = events.Unreadable

-- words of at most that many bytes
abbrev pub AreAtMost : ℕ → List (List ℕ) → Type 0
AreAtMost most [] = Unit {0}
AreAtMost most (word ∷ words) = (length word ≤ most) × AreAtMost most words

-- words that are no longer than a line that can be read
abbrev pub AreWords : List (List ℕ) → Type 0
AreWords words = AreAtMost most_content words

-- the words of an event
abbrev pub IsShortEvent : line.Event → Type 0
IsShortEvent e = (length e.front ≤ most_content) × AreWords e.fields
