-- A line of sigrok's I2C decoder.
use Rattle.std.specs.Prelude.{ℕ, ◌&&◌, ◌||◌, true, false, Bool, Option, Some, None, is_some, if◌then◌else◌, List, []}
use Rattle.std.specs.Prelude.{◌∷◌}
use Rattle.std.specs.Prelude.{codes, slice_index}
use Rattle.pmb_words.specs.Numbers.{decimal_of, fitting_of}
use Rattle.pmb_words.specs.Parts.{after, blank, parted}
use Rattle.pmb_sigrok_line.specs.Annotation.{behind_blank, colon, event_in}
use Rattle.pmb_sigrok_line.specs.declared.event.Event.{Event}

-- the byte of a dash
abbrev pub dash : ℕ
dash = slice_index (codes "-") 0

-- A line: the sample where it begins, if it has one that fits 64 bits; the decoder's name; the event, if it says one.
pub record Line : Type 0 where
  pub sample : Option ℕ
  pub name : List ℕ
  pub event : Option Event

-- the line of a name and an annotation: none where the name is empty or no annotation follows
abbrev pub named : Option ℕ → List ℕ → Option (List ℕ) → Option Line
named sample [] (Some text) = None
named sample [] None = None
named sample (byte ∷ name) (Some text) =
    Some (record { sample = sample; name = byte ∷ name; event = event_in text })
named sample (byte ∷ name) None = None

-- The name is all up to the first colon, which a blank has to follow.
abbrev pub with_name : Option ℕ → List ℕ → Option Line
with_name sample text = named sample (parted colon text).front (behind_blank (parted colon text).rest)

-- whether both parts of a word are decimal numbers
abbrev pub are_numbers : List ℕ → Option (List ℕ) → Bool
are_numbers first (Some last) = is_some (decimal_of first) && is_some (decimal_of last)
are_numbers first None = false

-- whether a word is the samples of a line, as `25000-25010`
abbrev pub is_range : List ℕ → Bool
is_range word = are_numbers (parted dash word).front (parted dash word).rest

-- the line of a first word, and of what follows it
abbrev pub behind_range : List ℕ → List ℕ → Option (List ℕ) → Option Line
behind_range line word (Some rest) =
    if is_range word then with_name (fitting_of (parted dash word).front) rest else with_name None line
behind_range line word None = with_name None line

-- The line of the decoder that a text is, if it is one: samples or none, a name, an annotation.
unfoldable pub decoder_line : List ℕ → Option Line
decoder_line line = behind_range line (parted blank line).front (parted blank line).rest

-- blank lines, and those of sigrok-cli that are none of the decoder
unfoldable pub is_remark : List ℕ → Bool
is_remark [] = true
is_remark (byte ∷ line) =
    is_some (after (codes "sr:") (byte ∷ line)) || (is_some (after (codes "srd:") (byte ∷ line))
    || (is_some (after (codes "cli:") (byte ∷ line)) || is_some (after (codes " - ") (byte ∷ line))))
