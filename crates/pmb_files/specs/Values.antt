-- Values that are words of the command line, as lines.
use Rattle.std.specs.Prelude.{ℕ, ◌==◌, ◌&&◌, ◌||◌, List, [], ◌∷◌, ◌++◌, codes, if◌then◌else◌, map}
use Rattle.std.specs.List.{flat_map}
use Rattle.pmb_files.specs.Words.{Text}

-- a word without `0x` in front
abbrev pub without_0x : Text → Text
without_0x [] = []
without_0x (first ∷ []) = first ∷ []
without_0x (first ∷ second ∷ more) =
    if first == 48 && (second == 120 || second == 88) then more else first ∷ second ∷ more

-- a blank for an LF, so that a word is one line
abbrev pub in_line : ℕ → ℕ
in_line byte = if byte == 10 then 32 else byte

-- the line of a word
abbrev pub value_line : Text → List ℕ
value_line word = map in_line (without_0x word) ++ codes "\n"

-- those of all
abbrev pub values_text : List Text → List ℕ
values_text words = flat_map value_line words
