-- Names of signals: `top.bus.SCL` has the parts `top`, `bus` and `SCL`.
use Rattle.std.specs.Prelude.{ℕ, ◌+◌, ◌==◌, nat_le, ◌&&◌, ◌||◌, true, false, Bool, if◌then◌else◌, List, [], ◌∷◌, length}
use Rattle.std.specs.Str.{bytes_eq}

-- ---- a name that is given

abbrev pub is_blank : ℕ → Bool
is_blank byte = byte == 32 || byte == 9

abbrev pub without_blanks : List ℕ → List ℕ
without_blanks [] = []
without_blanks (byte ∷ text) = if is_blank byte then without_blanks text else byte ∷ without_blanks text

-- whether the wanted name stands behind a `.` of a name
abbrev pub is_behind_point : List ℕ → List ℕ → Bool
is_behind_point wanted [] = false
is_behind_point wanted (byte ∷ name) = (byte == 46 && bytes_eq name wanted) || is_behind_point wanted name

-- whether it does, or is the name itself
abbrev pub is_named : List ℕ → List ℕ → Bool
is_named wanted name = bytes_eq name wanted || is_behind_point wanted name

-- ---- words

-- what stands behind the last `.` of a name: all of it where there is none
abbrev pub last_from : List ℕ → List ℕ → List ℕ
last_from part [] = part
last_from part (byte ∷ name) = last_from (if byte == 46 then name else part) name

abbrev pub last_part : List ℕ → List ℕ
last_part name = last_from name name

-- `A` to `Z` as small letters
abbrev pub lower : ℕ → ℕ
lower byte = if nat_le 65 byte && nat_le byte 90 then byte + 32 else byte

-- Whether a text begins with a word of small letters, in any case. The word without letters begins each text.
abbrev pub begins : List ℕ → List ℕ → Bool
begins [] text = true
begins (letter ∷ word) [] = false
begins (letter ∷ word) (byte ∷ text) = lower byte == letter && begins word text

-- whether it is that word, or contains it
abbrev pub is_word : List ℕ → List ℕ → Bool
is_word word text = length text == length word && begins word text

abbrev pub has_word : List ℕ → List ℕ → Bool
has_word word [] = false
has_word word (byte ∷ text) = begins word (byte ∷ text) || has_word word text
