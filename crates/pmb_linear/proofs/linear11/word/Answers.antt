use Rattle.std.proofs.Common.{◌+◌, arith}
use Rattle.std.proofs.lemmas.Nat.{and_mask}
use Rattle.pmb_linear.proofs.Linear11Lemmas.{holds_word}
use Rattle.pmb_linear.proofs.linear11.word.Goals as goal

pub returns-clause-value : goal.returns-clause-value
returns-clause-value c = omega (arith, and_mask (c.args.power + 16) 5, and_mask (c.args.index + 1024) 11)

pub returns-clause-holds : goal.returns-clause-holds
returns-clause-holds c =
    rw (and_mask (c.args.power + 16) 5, and_mask (c.args.index + 1024) 11)
    (holds_word c.args.index c.args.power c.requires.index_fits c.requires.power_fits)
