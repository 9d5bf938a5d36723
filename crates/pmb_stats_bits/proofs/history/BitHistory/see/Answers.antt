use Rattle.std.proofs.Common.{sym, ◌∙◌}
use Rattle.pmb_stats_bits.proofs.ReadSteps.{stands_clear, stands_set}
use Rattle.pmb_stats_bits.proofs.history.BitHistory.see.Goals as goal

pub returns-then-is_set : goal.returns-then-is_set
returns-then-is_set c reads read bit stands is time =
    stands_set c.args.self.now c.see_set.new.self _ reads read bit stands (sym is ∙ c.if-is_set.true) time
    c.see_set.ensures

pub returns-else-is_set : goal.returns-else-is_set
returns-else-is_set c reads read bit stands is time =
    stands_clear c.args.self.now c.see_clear.new.self _ reads read bit stands (sym is ∙ c.if-is_set.false) time
    c.see_clear.ensures
