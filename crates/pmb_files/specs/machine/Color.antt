-- What the words taken so far are, and what a word adds.
use Rattle.std.specs.Prelude.{◌++◌, [], map}
use Rattle.pmb_files.specs.Color.{ColorWords, is_color, no_words}
use Rattle.pmb_files.specs.declared.color.Awaited.{Awaited}
use Rattle.pmb_files.specs.declared.color.Awaited.TheVariants.{Any, Value, Word, Names}
use Rattle.pmb_files.specs.declared.color.ColorWords.{ColorWords as Kept}

-- the same as it is kept
abbrev pub color_words_of : Kept → ColorWords
color_words_of kept = record {
  left = map (λ word. word.now) kept.left.items;
  colors = map (λ color. color.now) kept.colors.items;
}

-- some words, and then more of them
abbrev pub with_more : ColorWords → ColorWords → ColorWords
with_more words more = record { left = words.left ++ more.left; colors = words.colors ++ more.colors }

-- what is added where no word follows
abbrev pub last_of : Awaited → ColorWords
last_of Any = no_words
last_of Value = no_words
last_of Word = is_color [] no_words
last_of Names = no_words
