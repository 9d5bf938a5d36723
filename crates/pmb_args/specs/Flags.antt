-- The flags among the matches of a subcommand.
use Rattle.std.specs.Prelude.{Bool, List, [], codes, unwrap_or}
use Rattle.std.specs.Str.{bytes_eq}
use Rattle.clap.specs.Words.{Row, Text, first_of}

-- a flag is among them
abbrev pub has_flag : Text → List Row → Bool
has_flag name rows = bytes_eq (unwrap_or (first_of name rows) []) (codes "true")
