-- What each line is where facts are told as objects.
use Rattle.std.specs.Prelude.{◌≡◌, ℕ, IfSome, List, ◌++◌, codes}
use Rattle.std.specs.List.{AllByRecursion, flat_map}
use Rattle.pmb_command.specs.Parts.{DeviceParts}
use Rattle.pmb_json_text.specs.Json.{HasDistinctKeys, IsJsonText, IsObject, Json}
use Rattle.pmb_json_text.specs.Spelling.{FitsInLine}
use Rattle.pmb_json_objects.specs.Laws.{AreOfWords, IsOfWords}

-- ---- a line

-- A line without its LF: a JSON text (RFC 8259) that spells one object, in which no object at any depth
-- has a key twice. It has printable ASCII alone, and so no LF.
pub record IsJsonLine (line : List ℕ) : Type 0 where
  pub value : Json
  pub object : IsObject value
  pub distinct : HasDistinctKeys value
  pub spells : IsJsonText line value
  pub printable : FitsInLine line

-- JSON Lines: such lines in order, each followed by a LF, and nothing else.
pub record AreJsonLines (text : List ℕ) : Type 0 where
  pub lines : List (List ℕ)
  pub each : AllByRecursion IsJsonLine lines
  pub whole : text ≡ flat_map (λ line. line ++ codes "\n") lines

-- ---- a profile

-- The coefficients of a device in DIRECT, of its output voltage and of its commands, have 16 bits and
-- make formats, and its commands' linear formats have exponents of five bits, as the types of a profile
-- have it.
pub record MakesFormats (device : DeviceParts) : Type 0 where
  pub vout : IfSome device.vout_direct AreOfWords
  pub commands : AllByRecursion (λ c. IsOfWords c.entry.kind) device.commands

-- those of each device
abbrev pub AllMakeFormats : List DeviceParts → Type 0
AllMakeFormats profile = AllByRecursion MakesFormats profile
