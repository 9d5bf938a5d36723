-- How a file is announced among several.
use Rattle.std.specs.Prelude.{◌&&◌, ◌||◌, Bool, nat_le, codes, if◌then◌else◌}
use Rattle.std.specs.Str.{bytes_eq}
use Rattle.pmb_files.specs.Contradictions.{count_of, subcommand_name}
use Rattle.pmb_files.specs.Words.{FileWords}
use Rattle.pmb_files.specs.declared.heading.Heading.{Heading}
use Rattle.pmb_files.specs.declared.heading.Heading.TheVariants.{Comment, Object}

-- objects are written by `json`, and by `stats` with `--json`
abbrev pub writes_objects : FileWords → Bool
writes_objects said = bytes_eq (subcommand_name said.tool) (codes "json")
    || (bytes_eq (subcommand_name said.tool) (codes "stats") && nat_le 1 (count_of (codes "--json") said.tool))

-- so a file is announced by an object, and else by a comment
abbrev pub heading_of : FileWords → Heading
heading_of said = if writes_objects said then Object else Comment
