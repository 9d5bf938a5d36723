-- What the words taken so far say, and what a word adds.
use Rattle.std.specs.Prelude.{Bool, ◌++◌, ◌||◌, codes, map, if◌then◌else◌}
use Rattle.pmb_files.specs.Words.{FileWords, Text, for_tool, names_input, no_words}
use Rattle.pmb_files.specs.declared.file_use.FileUse.{FileUse}
use Rattle.pmb_files.specs.declared.words.FileWords.{FileWords as Kept}
use Rattle.pmb_files.specs.declared.words.Next.{Next}
use Rattle.pmb_files.specs.declared.words.Next.TheVariants.{Any, Value, ProfileName, Names}

-- the same as it is kept
abbrev pub file_words_of : Kept → FileWords
file_words_of kept = record {
  tool = map (λ word. word.now) kept.tool.items;
  profiles = map (λ word. word.now) kept.profiles.items;
  is_joined = kept.is_joined;
  files = map (λ word. word.now) kept.files.items;
  values = map (λ word. word.now) kept.values.items;
}

-- what words say, and then more of them
abbrev pub after : FileWords → FileWords → FileWords
after said more = record {
  tool = said.tool ++ more.tool;
  profiles = said.profiles ++ more.profiles;
  is_joined = said.is_joined || more.is_joined;
  files = said.files ++ more.files;
  values = said.values ++ more.values;
}

-- a word that is no flag
abbrev pub plain_word : FileUse → (own : Bool) → Text → FileWords
plain_word «use» own word = if own then for_tool word no_words else names_input «use» word no_words

-- what is added where no word follows
abbrev pub last_word : Next → FileWords
last_word Any = no_words
last_word Value = no_words
last_word ProfileName = for_tool (codes "-p") no_words
last_word Names = no_words
