use Rattle.std.proofs.Common.{◌≡◌, ◌++◌, drop, map}
use Rattle.pmb_files.specs.Values.{values_text}
use Rattle.pmb_files.proofs.values.values_text.Given as goal

-- the lines so far, and those of the words that are left, are all of them
abbrev pub invariant-loop-word : goal.invariant-loop-word
invariant-loop-word l =
    l.text.items ++ values_text (map (λ word. word.now) (drop l.word-index l.words))
    ≡ values_text (map (λ word. word.now) l.words)
