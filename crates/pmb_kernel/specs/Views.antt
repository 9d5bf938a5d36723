-- What the values of this crate's types hold, in the words of the definitions.
use Rattle.std.specs.Prelude.{ℕ, ◌≤◌, Option, Some, None, List, [], ◌∷◌, length}
use Rattle.pmb_recording.specs.Content.{most_content}
use Rattle.pmb_trace.specs.Views.{outcome_of}
use Rattle.pmb_kernel.specs.Events as events
use Rattle.pmb_kernel.specs.declared.events.Message.{Message}
use Rattle.pmb_kernel.specs.declared.events.Role.{Role}
use Rattle.pmb_kernel.specs.declared.events.Role.TheVariants as role
use Rattle.pmb_kernel.specs.declared.events.Says.{Says}
use Rattle.pmb_kernel.specs.declared.events.Says.TheVariants as says

abbrev pub role_of : Role → events.Role
role_of role.Writes = events.Writes
role_of role.Reads = events.Reads
role_of role.Replies = events.Replies

-- a message that shows some bytes
abbrev pub message_with : Message → List ℕ → events.Message
message_with m bytes = record {
  role = role_of m.role;
  number = m.number;
  address = m.address;
  flags = record { text = m.flags_text.now; value = m.flags };
  length = record { text = m.length_text.now; value = m.length };
  bytes = bytes;
}

-- a message, if there is one
abbrev pub said_message : Option Message → List ℕ → events.Says
said_message (Some m) bytes = events.OfMessage (message_with m bytes)
said_message None bytes = events.Unreadable

-- and the bytes that it shows, if these are some
abbrev pub with_shown : Option Message → Option (List ℕ) → events.Says
with_shown (Some m) (Some bytes) = events.OfMessage (message_with m bytes)
with_shown (Some m) None = events.Unreadable
with_shown None bytes = events.Unreadable

abbrev pub said : Says → List ℕ → events.Says
said (says.Message m) bytes = events.OfMessage (message_with m bytes)
said (says.Result count outcome) bytes = events.Result count (outcome_of outcome)
said says.Nothing bytes = events.Unreadable

-- a text that has room where a line has
abbrev pub IsShort : List ℕ → Type 0
IsShort text = length text ≤ most_content

-- texts of at most so many bytes
abbrev pub AreWithin : ℕ → List (List ℕ) → Type 0
AreWithin most [] = Unit {0}
AreWithin most (text ∷ texts) = (length text ≤ most) × AreWithin most texts

-- the words of a line
abbrev pub AreWords : List (List ℕ) → Type 0
AreWords words = AreWithin most_content words
