use Rattle.std.proofs.Common.{codes}
use Rattle.pmb_args.proofs.AskedLemmas.{is_text}
use Rattle.pmb_args.proofs.fail_words.fail_of.Goals as goal

pub returns-then-eq : goal.returns-then-eq
returns-then-eq c = is_text c.args.word.now (codes "refusals") c.eq.result c.eq.ensures c.if-eq.true

pub returns-then-eq-2 : goal.returns-then-eq-2
returns-then-eq-2 c =
    is_text c.args.word.now (codes "bad-tokens") c.eq-else-eq.result c.eq-else-eq.ensures c.if-eq-2.true
