use Rattle.std.proofs.Common.{◌≡◌, length, map}
use Rattle.pmb_files.specs.Color.{asked_choice, choice_after}
use Rattle.pmb_files.specs.machine.Color.{color_words_of}
use Rattle.pmb_files.proofs.color.ColorWords.choice.Given as goal

-- what those that are left ask for, after those so far, is what all ask for
abbrev pub invariant-loop-left : goal.invariant-loop-left
invariant-loop-left l =
    choice_after l.choice (map (λ color. color.now) l.left) ≡ asked_choice (color_words_of l.self).colors

abbrev pub decreases-loop-left : goal.decreases-loop-left
decreases-loop-left l = length l.left
