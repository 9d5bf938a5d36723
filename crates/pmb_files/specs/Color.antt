-- The words of `--color`, which `log` and `stats` take, what they ask for, and which lines may have colour.
use Rattle.std.specs.Prelude.{ℕ, ◌==◌, ◌&&◌, ◌||◌, Bool, Option, Some, None, List, [], ◌∷◌, codes, if◌then◌else◌}
use Rattle.std.specs.Str.{bytes_eq}
use Rattle.pmb_words.specs.Parts.{after}
use Rattle.pmb_colour.specs.Choice.{choice_of, has_colour}
use Rattle.pmb_colour.specs.declared.choice.Choice.{Choice}
use Rattle.pmb_colour.specs.declared.choice.Choice.TheVariants.{Auto}
use Rattle.pmb_colour.specs.declared.choice.Output.{Output}
use Rattle.pmb_colour.specs.declared.lines.Lines.{Lines}
use Rattle.pmb_colour.specs.declared.lines.Lines.TheVariants.{Log, Table}
use Rattle.pmb_files.specs.Contradictions.{count_of, subcommand_name}
use Rattle.pmb_files.specs.Words.{Text, is_valued}
use Rattle.pmb_files.specs.declared.color.Awaited.{Awaited}
use Rattle.pmb_files.specs.declared.color.Awaited.TheVariants.{Any, Value, Word, Names}
use Rattle.pmb_files.specs.declared.color.Mark.{Mark}
use Rattle.pmb_files.specs.declared.color.Mark.TheVariants.{End, Color, Followed, Other}

-- the words that are left, and each WORD of `--color`
pub record ColorWords : Type 0 where
  pub left : List Text
  pub colors : List Text

-- ---- a word

-- the subcommands that have the flag
abbrev pub takes_color : Text → Bool
takes_color name = bytes_eq name (codes "log") || bytes_eq name (codes "stats")

-- another flag after which a word follows that is its value
abbrev pub is_followed : Text → Bool
is_followed word = is_valued word || bytes_eq word (codes "-p") || bytes_eq word (codes "--profile")

abbrev pub mark_of : Text → Mark
mark_of word =
    if bytes_eq word (codes "--") then End else
    if bytes_eq word (codes "--color") then Color else
    if is_followed word then Followed else
    Other

-- ---- the words of a command line

abbrev pub no_words : ColorWords
no_words = record { left = []; colors = [] }

-- the word is left
abbrev pub is_left : Text → ColorWords → ColorWords
is_left word others = record others { left = word ∷ others.left }

-- it is one of `--color`
abbrev pub is_color : Text → ColorWords → ColorWords
is_color color others = record others { colors = color ∷ others.colors }

-- The words after the subcommand's name, by what the next one is. After `--` no word is a flag. The WORD of a last
-- `--color` is empty, and so a bad one.
abbrev pub words_from : Awaited → List Text → ColorWords
words_from Word [] = is_color [] no_words
words_from Any [] = no_words
words_from Value [] = no_words
words_from Names [] = no_words
words_from Word (word ∷ words) = is_color word (words_from Any words)
words_from Value (word ∷ words) = is_left word (words_from Any words)
words_from Names (word ∷ words) = is_left word (words_from Names words)
words_from Any (word ∷ words) = elim (after (codes "--color=") word) [
  | Some color ↦ is_color color (words_from Any words)
  | None ↦ elim (mark_of word) [
    | End ↦ is_left word (words_from Names words)
    | Color ↦ words_from Word words
    | Followed ↦ is_left word (words_from Value words)
    | Other ↦ is_left word (words_from Any words)
  ]
]

-- All words of the command line, the program's own name and the subcommand's first. Where the subcommand has no
-- `--color`, all are left.
abbrev pub color_words : List Text → ColorWords
color_words [] = no_words
color_words (program ∷ []) = is_left program no_words
color_words (program ∷ name ∷ words) =
    is_left program (is_left name (words_from (if takes_color name then Any else Names) words))

-- ---- what they ask for

-- The last WORD counts. Where one of them is none of the three words, they ask for nothing.
abbrev pub choice_after : Choice → List Text → Option Choice
choice_after choice [] = Some choice
choice_after choice (color ∷ colors) = elim (choice_of color) [
  | Some next ↦ choice_after next colors
  | None ↦ None
]

-- without any it is `auto`
abbrev pub asked_choice : List Text → Option Choice
asked_choice colors = choice_after Auto colors

-- ---- lines

-- The lines that the subcommand writes, where these may have colour. Objects have none: `stats` writes these where a
-- word is `--json`. (One that is the name of a file, after `--`, counts too.)
abbrev pub lines_of : List Text → Option Lines
lines_of words =
    if bytes_eq (subcommand_name words) (codes "log") then Some Log else
    if bytes_eq (subcommand_name words) (codes "stats") && count_of (codes "--json") words == 0 then Some Table else
    None

-- The lines that are painted: by the words, by what standard output is, and by NO_COLOR and TERM, where these are set.
-- None are where a WORD is bad.
abbrev pub painted_lines : ColorWords → Output → Option Text → Option Text → Option Lines
painted_lines words output no_color term = elim (asked_choice words.colors) [
  | Some choice ↦ if has_colour choice output no_color term then lines_of words.left else None
  | None ↦ None
]
