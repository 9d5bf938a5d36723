-- What the words behind the head of a VCD are.
use Rattle.std.specs.Prelude.{ℕ, ◌==◌, ◌||◌, Bool, Option, Some, None, if◌then◌else◌, List, [], ◌∷◌, codes}
use Rattle.std.specs.Str.{bytes_eq}
use Rattle.pmb_vcd.specs.declared.token.Section.{Section}
use Rattle.pmb_vcd.specs.declared.token.Section.TheVariants.{Dump, Other}
use Rattle.pmb_vcd.specs.declared.token.Token.{Token}
use Rattle.pmb_vcd.specs.declared.token.Token.TheVariants as code
use Rattle.pmb_vcd.specs.declared.token.Value.{Value}
use Rattle.pmb_vcd.specs.declared.token.Value.TheVariants as values
use Rattle.pmb_wires.specs.declared.level.Level.{Level}
use Rattle.pmb_wires.specs.declared.level.Level.TheVariants.{Low, High, Unknown}
use Rattle.pmb_words.specs.Numbers.{fitting_of}

-- what a word is
pub data Word : Type 0 where
  -- `#25`: the time, in time units
  At : ℕ → Word
  -- `1!`: a level, and the ID of its signal
  Sets : Level → List ℕ → Word
  -- `b1`: a value, whose signal is the next word
  Gives : Value → Word
  -- `$dumpvars`: a section begins
  Opens : Section → Word
  -- `$end`: it ends
  Closes : Word
  -- nothing of these
  Senseless : Word

-- the same as it is kept
abbrev pub word_of : Token → Word
word_of (code.Time time) = At time
word_of (code.Level level id) = Sets level id.now
word_of (code.Value value) = Gives value
word_of (code.Section section) = Opens section
word_of code.End = Closes
word_of code.NoSense = Senseless

-- ---- levels

-- 0 and 1, also as letters: a wire that nothing drives is pulled up
abbrev pub is_low : ℕ → Bool
is_low byte = byte == 48 || (byte == 108 || byte == 76)

abbrev pub is_high : ℕ → Bool
is_high byte = byte == 49 || (byte == 104 || (byte == 72 || (byte == 122 || byte == 90)))

abbrev pub is_unknown : ℕ → Bool
is_unknown byte =
    byte == 120 || (byte == 88 || (byte == 117 || (byte == 85 || (byte == 119 || (byte == 87 || byte == 45)))))

abbrev pub level_of : ℕ → Option Level
level_of byte =
    if is_low byte then Some Low else
    if is_high byte then Some High else
    if is_unknown byte then Some Unknown else None

-- ---- words

abbrev pub at_time : Option ℕ → Word
at_time (Some time) = At time
at_time None = Senseless

abbrev pub sets : Option Level → List ℕ → Word
sets (Some level) [] = Senseless
sets (Some level) (byte ∷ id) = Sets level (byte ∷ id)
sets None id = Senseless

-- a vector of one level, or another
abbrev pub one_level : Option Level → Value
one_level (Some level) = values.Level level
one_level None = values.Vector

abbrev pub vector : List ℕ → Word
vector [] = Senseless
vector (byte ∷ []) = Gives (one_level (level_of byte))
vector (byte ∷ next ∷ bytes) = Gives values.Vector

abbrev pub number_or_text : List ℕ → Word
number_or_text [] = Senseless
number_or_text (byte ∷ bytes) = Gives values.Other

abbrev pub is_dump : List ℕ → Bool
is_dump name =
    bytes_eq name (codes "dumpvars") || (bytes_eq name (codes "dumpall")
    || (bytes_eq name (codes "dumpon") || bytes_eq name (codes "dumpoff")))

abbrev pub named : List ℕ → Word
named name = if bytes_eq name (codes "end") then Closes else if is_dump name then Opens Dump else Opens Other

abbrev pub section : List ℕ → Word
section [] = Senseless
section (byte ∷ name) = named (byte ∷ name)

abbrev pub is_vector : ℕ → Bool
is_vector byte = byte == 98 || byte == 66

abbrev pub is_number_or_text : ℕ → Bool
is_number_or_text byte = byte == 114 || (byte == 82 || (byte == 115 || byte == 83))

abbrev pub token_of : List ℕ → Word
token_of [] = Senseless
token_of (first ∷ rest) =
    if first == 35 then at_time (fitting_of rest) else
    if first == 36 then section rest else
    if is_vector first then vector rest else
    if is_number_or_text first then number_or_text rest else sets (level_of first) rest
