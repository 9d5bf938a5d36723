use Rattle.std.proofs.Common.{arith}
use Rattle.pmb_run.specs.Kept.{IsKeptDevice}
use Rattle.pmb_run.proofs.KeptParts.{all_at_places, one_place_more}
use Rattle.pmb_run.proofs.kept.profile_is_kept.Goals as goal

pub loop-index-preserved : goal.loop-index-preserved
loop-index-preserved c = one_place_more IsKeptDevice c.args.profile.now c.loop-index.index c.loop-index.invariant
    c.device_at_is_kept.ensures

pub returns : goal.returns
returns c =
    all_at_places IsKeptDevice c.args.profile.now
    (λ k small. c.loop-index.invariant k (omega (arith, small, c.len-index-end.ensures.len, c.loop-index-test.false)))
