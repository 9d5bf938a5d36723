-- What is known of the value of `initial` once its type was looked at.
use Rattle.std.specs.Prelude.{◌≡◌, Ok, Option, Some, None}
use Rattle.toml.specs.Data.{Data, as_array}
use Rattle.pmb_keys.specs.CommandRules.{text_type}

-- where there is a value, it is a string, or an array of strings
abbrev pub IsTyped : Option Data → Type 0
IsTyped None = Unit
IsTyped (Some d) = text_type d (as_array d) ≡ Ok tt
