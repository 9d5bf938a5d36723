-- The names of commands and devices, and the texts of units.
use Rattle.std.specs.Prelude.{◌≡◌, ◌⊎◌, ℕ, ◌≤◌, Bool, true, ◌&&◌, List, [], ◌∷◌, ◌++◌, codes, length, nat_eq, nat_le}
use Rattle.std.specs.List.{AllByRecursion, list_all, list_any}
use Rattle.hex.specs.Hex.{encode_lower}

-- the characters of which a name is made
abbrev pub name_characters : List ℕ
name_characters = codes "ABCDEFGHIJKLMNOPQRSTUVWXYZ0123456789_"

abbrev pub is_name_byte : ℕ → Bool
is_name_byte b = list_any (nat_eq b) name_characters

-- 1 to 32 of them
abbrev pub is_name : List ℕ → Bool
is_name text = (nat_le 1 (length text) && nat_le (length text) 32) && list_all is_name_byte text

-- the name of a command for which a profile gives only the code
abbrev pub code_name : ℕ → List ℕ
code_name code = codes "CMD_" ++ encode_lower (code ∷ [])

-- A name of the command with a code, of 1 to 32 characters: one that fits, or the one made of the
-- code.
pub record IsNameOf (code : ℕ) (name : List ℕ) : Type 0 where
  pub some : 1 ≤ length name
  pub most : length name ≤ 32
  pub spelled : (is_name name ≡ true) ⊎ (name ≡ code_name code)

-- a character of ASCII that can be printed
abbrev pub is_printable : ℕ → Bool
is_printable b = nat_le 0x20 b && nat_le b 0x7e

-- at least one of them, and no more than a limit
abbrev pub is_printable_text : ℕ → List ℕ → Bool
is_printable_text limit text = (nat_le 1 (length text) && nat_le (length text) limit) && list_all is_printable text

-- A text of at least one character and no more than a limit, each from 20h to 7eh.
pub record IsPrintableText (limit : ℕ) (text : List ℕ) : Type 0 where
  pub some : 1 ≤ length text
  pub most : length text ≤ limit
  pub printable : AllByRecursion (λ b. (0x20 ≤ b) × (b ≤ 0x7e)) text

-- a name of a device: 1 to 32 such characters
abbrev pub is_device_name : List ℕ → Bool
is_device_name = is_printable_text 32

abbrev pub IsDeviceName : List ℕ → Type 0
IsDeviceName = IsPrintableText 32

-- a unit: 1 to 16 such characters
abbrev pub is_unit : List ℕ → Bool
is_unit = is_printable_text 16

abbrev pub IsUnit : List ℕ → Type 0
IsUnit = IsPrintableText 16
