-- The words of the command line that name files, and the words that are left for the tool.
use Rattle.std.specs.Prelude.{ℕ, Bool, true, false, not, nat_le, ◌&&◌, ◌||◌, ◌==◌, Option, Some, None, List, [], ◌∷◌, codes}
use Rattle.std.specs.Prelude.{if◌then◌else◌}
use Rattle.std.specs.Str.{bytes_eq}
use Rattle.pmb_files.specs.declared.file_use.FileUse.{FileUse}
use Rattle.pmb_files.specs.declared.file_use.FileUse.TheVariants.{Captures, Input, Recording, Bare, Values}
use Rattle.pmb_files.specs.declared.words.Sort.{Sort}
use Rattle.pmb_files.specs.declared.words.Sort.TheVariants.{End, Profile, Joined, Valued, Flag, Plain}
use Rattle.pmb_files.specs.declared.words.Next.{Next}
use Rattle.pmb_files.specs.declared.words.Next.TheVariants.{Any, Value, ProfileName, Names}

abbrev pub Text : Type 0
Text = List ℕ

-- What the words are: those for the tool, each PROFILE, whether the files are joined, each FILE, and each VALUE.
pub record FileWords : Type 0 where
  pub tool : List Text
  pub profiles : List Text
  pub is_joined : Bool
  pub files : List Text
  pub values : List Text

-- ---- the subcommands

-- what a subcommand takes files for, by its name, or values; no other takes any
abbrev pub use_of : Text → Option FileUse
use_of name =
    if bytes_eq name (codes "show") || bytes_eq name (codes "check") || bytes_eq name (codes "json")
    || bytes_eq name (codes "log") || bytes_eq name (codes "stats") then Some Captures else
    if bytes_eq name (codes "build") || bytes_eq name (codes "run") || bytes_eq name (codes "profile") then Some Input else
    if bytes_eq name (codes "import") then Some Recording else
    if bytes_eq name (codes "scan") then Some Bare else
    if bytes_eq name (codes "encode") || bytes_eq name (codes "decode") then Some Values else
    None

-- `-p` is one of its flags
abbrev pub takes_profile : FileUse → Bool
takes_profile Captures = true
takes_profile Input = true
takes_profile Recording = false
takes_profile Bare = false
takes_profile Values = false

-- it takes files
abbrev pub takes_files : FileUse → Bool
takes_files Captures = true
takes_files Input = true
takes_files Recording = true
takes_files Bare = true
takes_files Values = false

-- the first word that is no flag is no file and no value: SOURCE of `import`, FORMAT of `encode` and `decode`
abbrev pub has_own_word : FileUse → Bool
has_own_word Captures = false
has_own_word Input = false
has_own_word Recording = true
has_own_word Bare = false
has_own_word Values = true

-- ---- a word

-- a flag of the tool after which a word follows that is its value
abbrev pub is_valued : Text → Bool
is_valued word =
    bytes_eq word (codes "--digits") || bytes_eq word (codes "--device") || bytes_eq word (codes "--fail-on")
    || bytes_eq word (codes "--bus") || bytes_eq word (codes "--rate")

-- a word that begins with `-` and has more; `-` alone names standard input
abbrev pub begins_as_flag : Text → Bool
begins_as_flag [] = false
begins_as_flag (first ∷ []) = false
begins_as_flag (first ∷ second ∷ more) = first == 45

-- a word that begins with `-` and a digit, as a value may
abbrev pub begins_as_negative : Text → Bool
begins_as_negative [] = false
begins_as_negative (first ∷ []) = false
begins_as_negative (first ∷ second ∷ more) = first == 45 && (nat_le 48 second && nat_le second 57)

abbrev pub sort_of : FileUse → Text → Sort
sort_of «use» word =
    if bytes_eq word (codes "--") then End else
    if takes_profile «use» && (bytes_eq word (codes "-p") || bytes_eq word (codes "--profile")) then Profile else
    if takes_files «use» && bytes_eq word (codes "--joined") then Joined else
    if is_valued word then Valued else
    if not (takes_files «use») && begins_as_negative word then Plain else
    if begins_as_flag word then Flag else
    Plain

-- ---- the words of a subcommand

-- the word is for the tool
abbrev pub for_tool : Text → FileWords → FileWords
for_tool word others = record others { tool = word ∷ others.tool }

-- it names a profile
abbrev pub names_profile : Text → FileWords → FileWords
names_profile word others = record others { profiles = word ∷ others.profiles }

-- it names a file
abbrev pub names_file : Text → FileWords → FileWords
names_file word others = record others { files = word ∷ others.files }

-- it is a value
abbrev pub is_value : Text → FileWords → FileWords
is_value word others = record others { values = word ∷ others.values }

-- a word that is no flag, and not the subcommand's own
abbrev pub names_input : FileUse → Text → FileWords → FileWords
names_input Captures word others = names_file word others
names_input Input word others = names_file word others
names_input Recording word others = names_file word others
names_input Bare word others = names_file word others
names_input Values word others = is_value word others

-- it joins the files
abbrev pub joins : FileWords → FileWords
joins others = record others { is_joined = true }

abbrev pub no_words : FileWords
no_words = record { tool = []; profiles = []; is_joined = false; files = []; values = [] }

-- The words after the subcommand's name, by what the next one is. A word that is no flag and no value of one names a
-- file, or is a value, but for the subcommand's own word, if that is still to come (`own`). After `--` no word is a flag. A last `-p`
-- names no profile, and is left to the tool, which refuses it.
abbrev pub words_of : FileUse → (own : Bool) → Next → List Text → FileWords
words_of «use» own ProfileName [] = for_tool (codes "-p") no_words
words_of «use» own Any [] = no_words
words_of «use» own Value [] = no_words
words_of «use» own Names [] = no_words
words_of «use» own ProfileName (word ∷ words) = names_profile word (words_of «use» own Any words)
words_of «use» own Value (word ∷ words) = for_tool word (words_of «use» own Any words)
words_of «use» own Names (word ∷ words) =
    if own then for_tool word (words_of «use» false Names words) else names_input «use» word (words_of «use» own Names words)
words_of «use» own Any (word ∷ words) = elim (sort_of «use» word) [
  | End ↦ words_of «use» own Names words
  | Profile ↦ words_of «use» own ProfileName words
  | Joined ↦ joins (words_of «use» own Any words)
  | Valued ↦ for_tool word (words_of «use» own Value words)
  | Flag ↦ for_tool word (words_of «use» own Any words)
  | Plain ↦ if own then for_tool word (words_of «use» false Any words)
      else names_input «use» word (words_of «use» own Any words)
]

-- The words after the subcommand's name; where it takes no files, all are for the tool.
abbrev pub words_after : Option FileUse → List Text → FileWords
words_after None words = record no_words { tool = words }
words_after (Some «use») words = words_of «use» (has_own_word «use») Any words

-- All words of the command line, the program's own name and the subcommand's first, which the tool is given too.
abbrev pub split_words : List Text → FileWords
split_words [] = no_words
split_words (program ∷ []) = for_tool program no_words
split_words (program ∷ name ∷ words) = for_tool program (for_tool name (words_after (use_of name) words))
