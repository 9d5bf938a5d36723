use Rattle.std.proofs.Common.{◌≡◌, drop, map, None}
use Rattle.pmb_files.specs.Words.{words_after}
use Rattle.pmb_files.specs.machine.Words.{after, file_words_of}
use Rattle.pmb_files.proofs.words.leave_words.Given as goal

-- the words so far, and those that are left, are all of them
abbrev pub invariant-loop-word : goal.invariant-loop-word
invariant-loop-word g l =
    after (file_words_of l.said) (words_after None (map g.S.AsStr.text (drop l.word-index l.words)))
    ≡ after (file_words_of l.fn.said) (words_after None (map g.S.AsStr.text l.words))
