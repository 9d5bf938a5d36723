-- Which words that name files contradict each other, and which files are read.
use Rattle.std.specs.Prelude.{
  ◌&&◌,
  ◌||◌,
  ℕ,
  Bool,
  true,
  false,
  not,
  nat_le,
  Option,
  Some,
  None,
  List,
  [],
  ◌∷◌,
  codes,
  length,
  suc,
  if◌then◌else◌,
}
use Rattle.std.specs.Str.{bytes_eq}
use Rattle.pmb_files.specs.Words.{FileWords, Text, use_of}
use Rattle.pmb_files.specs.declared.file_use.FileUse.{FileUse}
use Rattle.pmb_files.specs.declared.file_use.FileUse.TheVariants.{Captures, Input, Recording, Bare, Values}

-- how often a word is among words
abbrev pub count_of : Text → List Text → ℕ
count_of word [] = 0
count_of word (other ∷ words) = if bytes_eq other word then suc (count_of word words) else count_of word words

-- there are two profiles, or one and the sample
abbrev pub has_two_profiles : FileWords → Bool
has_two_profiles said = nat_le 2 (length said.profiles)
    || (nat_le 1 (length said.profiles) && nat_le 1 (count_of (codes "--sample") said.tool))

-- the subcommand's name, the second word
abbrev pub subcommand_name : List Text → Text
subcommand_name [] = []
subcommand_name (program ∷ []) = []
subcommand_name (program ∷ name ∷ words) = name

-- there are several files, and they are not joined
abbrev pub has_several : FileWords → Bool
has_several said = nat_le 2 (length said.files) && not said.is_joined

-- the subcommand reads several files as captures of their own
abbrev pub reads_each : Option FileUse → Bool
reads_each (Some Captures) = true
reads_each (Some Input) = false
reads_each (Some Recording) = false
reads_each (Some Bare) = false
reads_each (Some Values) = false
reads_each None = false

-- standard input is named twice, or for a profile; or there are several files where one is read
abbrev pub has_two_inputs : FileWords → Bool
has_two_inputs said = (nat_le 2 (count_of (codes "-") said.files) || nat_le 1 (count_of (codes "-") said.profiles))
    || (has_several said && not (reads_each (use_of (subcommand_name said.tool))))

-- the files that are read: standard input where none is named
abbrev pub names_of : FileWords → List Text
names_of said = if nat_le 1 (length said.files) then said.files else codes "-" ∷ []

-- no word names a file or is a value, and `--joined` is not there
abbrev pub names_nothing : FileWords → Bool
names_nothing said = not said.is_joined && (not (nat_le 1 (length said.profiles))
    && (not (nat_le 1 (length said.files)) && not (nat_le 1 (length said.values))))
