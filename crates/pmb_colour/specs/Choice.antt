-- Whether there is colour: by the word of `--color`, by what standard output is, and by NO_COLOR and TERM.
use Rattle.std.specs.Prelude.{ℕ, ◌&&◌, Bool, true, false, not, nat_lt, Option, Some, None, List, codes, length, if◌then◌else◌}
use Rattle.std.specs.Str.{bytes_eq}
use Rattle.pmb_colour.specs.declared.choice.Choice.{Choice}
use Rattle.pmb_colour.specs.declared.choice.Choice.TheVariants.{Auto, Always, Never}
use Rattle.pmb_colour.specs.declared.choice.Output.{Output}
use Rattle.pmb_colour.specs.declared.choice.Output.TheVariants.{Terminal, Other}

-- the choice that a word names
abbrev pub choice_of : List ℕ → Option Choice
choice_of word =
    if bytes_eq word (codes "auto") then Some Auto else
    if bytes_eq word (codes "always") then Some Always else
    if bytes_eq word (codes "never") then Some Never else
    None

-- NO_COLOR is set, and not empty
abbrev pub refuses : Option (List ℕ) → Bool
refuses None = false
refuses (Some value) = nat_lt 0 (length value)

-- TERM is that of a terminal without sequences
abbrev pub is_dumb : Option (List ℕ) → Bool
is_dumb None = false
is_dumb (Some term) = bytes_eq term (codes "dumb")

abbrev pub takes_colour : Output → (no_color term : Option (List ℕ)) → Bool
takes_colour Terminal no_color term = not (refuses no_color) && not (is_dumb term)
takes_colour Other no_color term = false

abbrev pub has_colour : Choice → Output → (no_color term : Option (List ℕ)) → Bool
has_colour Auto output no_color term = takes_colour output no_color term
has_colour Always output no_color term = true
has_colour Never output no_color term = false
