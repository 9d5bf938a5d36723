use Rattle.std.proofs.Common.{◌≡◌, ◌≤◌, ◌+◌, length, map}
use Rattle.pmb_files.specs.Contradictions.{count_of}
use Rattle.pmb_files.proofs.words.count.Given as goal

-- the words so far, and those that are left, are all of them
abbrev pub invariant-loop-left : goal.invariant-loop-left
invariant-loop-left l =
    (l.count + count_of l.word (map (λ word. word.now) l.left) ≡ count_of l.word (map (λ word. word.now) l.words))
    × (l.count + length l.left ≤ length l.words)

abbrev pub decreases-loop-left : goal.decreases-loop-left
decreases-loop-left l = length l.left
