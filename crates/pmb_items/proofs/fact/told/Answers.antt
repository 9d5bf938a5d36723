-- A word of more than 32 bytes is cut.
use Rattle.std.proofs.Common.{sym, arith}
use Rattle.std.proofs.lemmas.List.{length-take-le, take_all}
use Rattle.pmb_items.proofs.fact.told.Goals as goal

pub slice_bounds-result-end : goal.slice_bounds-result-end
slice_bounds-result-end c = sym (length-take-le 32 c.args.word.now (omega (arith, c.if-word-gt-WORD.true)))

pub returns-then-word-gt-WORD-clause-short : goal.returns-then-word-gt-WORD-clause-short
returns-then-word-gt-WORD-clause-short c =
    omega (arith, length-take-le 32 c.args.word.now (omega (arith, c.if-word-gt-WORD.true)))

pub returns-else-word-gt-WORD-clause-text : goal.returns-else-word-gt-WORD-clause-text
returns-else-word-gt-WORD-clause-text c = sym (take_all 32 c.args.word.now (omega (arith, c.if-word-gt-WORD.false)))
