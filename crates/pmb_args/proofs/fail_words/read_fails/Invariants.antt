use Rattle.std.proofs.Common.{◌≡◌, List, map}
use Rattle.pmb_stats_counts.specs.declared.fail.Fail.{Fail}
use Rattle.pmb_args.specs.Fails.{fail_word, same_fail}
use Rattle.pmb_args.specs.Once.{each_once}
use Rattle.pmb_args.proofs.fail_words.read_fails.Given as goal

-- Each word so far has named something, and each of that is there once.
abbrev pub invariant-loop-word : goal.invariant-loop-word
invariant-loop-word l = (named : List Fail) × (map (λ word. word.now) l.yielded ≡ map fail_word named)
    × (l.fails ≡ each_once same_fail named)
