use Rattle.std.proofs.Common.{◌≡◌, length, map}
use Rattle.pmb_files.specs.Color.{words_from}
use Rattle.pmb_files.specs.machine.Color.{color_words_of, with_more}
use Rattle.pmb_files.proofs.color.take_words.Given as goal

-- the words so far, and what those that are left add, are all of it
abbrev pub invariant-loop-left : goal.invariant-loop-left
invariant-loop-left g l =
    with_more (color_words_of l.asked) (words_from l.next (map g.S.AsStr.text l.left))
    ≡ with_more (color_words_of l.fn.asked) (words_from l.fn.awaited (map g.S.AsStr.text l.words))

abbrev pub decreases-loop-left : goal.decreases-loop-left
decreases-loop-left g l = length l.left
