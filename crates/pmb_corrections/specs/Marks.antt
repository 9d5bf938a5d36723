-- Where a text stops being what is to stand there.
use Rattle.std.specs.Prelude.{ℕ, ◌+◌, ◌||◌, if◌then◌else◌, List, [], ◌∷◌, drop, min, nat_eq}
use Rattle.std.specs.Char.{is_ascii_digit, is_ascii_hexdigit}
use Rattle.std.specs.List.{prefix_len}

-- four hexadecimal digits: at the first byte that is none, at the fifth, or at the end
abbrev pub code_mark : List ℕ → ℕ
code_mark text = min (prefix_len is_ascii_hexdigit text) 4

-- after the digits a point (46) or a slash (47), and then digits
abbrev pub end_mark : List ℕ → ℕ
end_mark [] = 0
end_mark (byte ∷ rest) =
    if nat_eq byte 46 || nat_eq byte 47 then 1 + prefix_len is_ascii_digit rest else 0

-- digits, and then that
abbrev pub number_mark : List ℕ → ℕ
number_mark text =
    if nat_eq (prefix_len is_ascii_digit text) 0 then 0
    else prefix_len is_ascii_digit text + end_mark (drop (prefix_len is_ascii_digit text) text)

-- a hyphen (45), or none, and then that: the byte where no quantity goes on so, or the end
abbrev pub quantity_mark : List ℕ → ℕ
quantity_mark [] = 0
quantity_mark (byte ∷ rest) = if nat_eq byte 45 then 1 + number_mark rest else number_mark (byte ∷ rest)
