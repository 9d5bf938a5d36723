-- What a byte is to the word under way, and a token at the front of a text.
use Rattle.std.specs.Prelude.{◌≡◌, ℕ, ◌+◌, ◌==◌, ◌||◌, Bool, true, Option, Some, None, is_some, List, ◌∷◌, ◌++◌, length}
use Rattle.hex.specs.Hex.{is_hex_digit}
use Rattle.pmb_bus.specs.declared.event.Event.{Event}
use Rattle.pmb_bus.specs.declared.event.Event.TheVariants.{Byte}
use Rattle.pmb_bus.specs.Event.{character, letter_event, event_of}
use Rattle.pmb_bus.specs.Text.{is_separator}

-- whether a byte outside comments ends a word
abbrev pub ends_word : ℕ → Bool
ends_word b = is_separator b || b == character "#"

-- whether some token begins with a byte
abbrev pub starts_token : ℕ → Bool
starts_token b = is_some (letter_event b) || is_hex_digit b

-- the event of a byte, if there is one
abbrev pub option_event : Option ℕ → Option Event
option_event (Some byte) = Some (Byte byte)
option_event None = None

-- A text begins with the token of an event and a separator, `used` bytes together.
pub record BeginsWithToken (text : List ℕ) (event : Event) (used : ℕ) : Type 0 where
  pub word : List ℕ
  pub separator : ℕ
  pub rest : List ℕ
  pub split : text ≡ word ++ separator ∷ rest
  pub token : event_of word ≡ Some event
  pub separates : is_separator separator ≡ true
  pub counted : used ≡ length word + 1
