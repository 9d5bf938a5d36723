-- A name byte by byte, without blanks, and with each doubled quote of a field in quotes once.
use Rattle.std.specs.Prelude.{ℕ, ◌==◌, ◌&&◌, Bool, false, if◌then◌else◌, List, [], ◌∷◌}
use Rattle.pmb_sample_fields.specs.Fields.{quote}
use Rattle.pmb_wire_names.specs.Kept.{with_byte}

-- The byte in front may be the first of two quotes.
abbrev pub name_from : List ℕ → Bool → Bool → List ℕ → List ℕ
name_from kept is_second is_quoted [] = kept
name_from kept is_second is_quoted (byte ∷ raw) =
    if is_second && ((byte == quote) && is_quoted) then name_from kept false is_quoted raw else
    name_from (with_byte kept byte) (byte == quote) is_quoted raw
