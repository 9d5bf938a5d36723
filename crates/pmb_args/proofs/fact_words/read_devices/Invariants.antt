use Rattle.std.proofs.Common.{map, take}
use Rattle.pmb_args.specs.Facts.{SpellDevices}
use Rattle.pmb_args.proofs.fact_words.read_devices.Given as goal

-- The devices are those of the words so far.
abbrev pub invariant-loop-word : goal.invariant-loop-word
invariant-loop-word l = SpellDevices (map (λ word. word.now) (take l.word-index l.words)) l.devices.items
