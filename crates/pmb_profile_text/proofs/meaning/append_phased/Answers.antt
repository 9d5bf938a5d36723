use Rattle.std.proofs.Common.{codes, replicate}
use Rattle.pmb_profile_text.specs.Table.{space}
use Rattle.pmb_profile_text.proofs.Texts.{then}
use Rattle.pmb_profile_text.proofs.meaning.append_phased.Goals as goal

pub returns-then-phased-clause-text : goal.returns-then-phased-clause-text
returns-then-phased-clause-text c =
    rw c.if-phased.true
    (then c.args.lines.now.items _ _ (replicate 62 space) _ c.append_spaces.ensures.text
    (then _ _ _ (codes "phased") (codes "\n") c.append.ensures c.append-then-phased.ensures))
