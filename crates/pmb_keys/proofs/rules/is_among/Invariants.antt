use Rattle.std.proofs.Common.{◌≡◌, map, drop}
use Rattle.std.specs.List.{list_any}
use Rattle.std.specs.Str.{bytes_eq}
use Rattle.pmb_keys.proofs.rules.is_among.Given as goal

-- the words so far are others
abbrev pub invariant-loop-word : goal.invariant-loop-word
invariant-loop-word l =
    list_any (bytes_eq l.fn.text) (map (λ word. word.now) (drop l.word-index l.words))
    ≡ list_any (bytes_eq l.fn.text) (map (λ word. word.now) l.words)
