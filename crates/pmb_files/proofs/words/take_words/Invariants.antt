use Rattle.std.proofs.Common.{◌≡◌, length, map}
use Rattle.pmb_files.specs.Words.{has_own_word, words_of}
use Rattle.pmb_files.specs.declared.words.Next.TheVariants.{Any}
use Rattle.pmb_files.specs.machine.Words.{after, file_words_of}
use Rattle.pmb_files.proofs.words.take_words.Given as goal

-- the words so far, and what those that are left add, are all of it
abbrev pub invariant-loop-left : goal.invariant-loop-left
invariant-loop-left g l =
    after (file_words_of l.said) (words_of l.file_use l.own l.next (map g.S.AsStr.text l.left))
    ≡ after (file_words_of l.fn.said) (words_of l.file_use (has_own_word l.file_use) Any (map g.S.AsStr.text l.words))

abbrev pub decreases-loop-left : goal.decreases-loop-left
decreases-loop-left g l = length l.left
