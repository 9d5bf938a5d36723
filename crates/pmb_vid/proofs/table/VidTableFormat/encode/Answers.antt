use Rattle.std.proofs.Common.{rules}
use Rattle.std.proofs.lemmas.Result.{IfOk-weaker}
use Rattle.pmb_format.specs.Coding.{IsNearest, IsInRange}
use Rattle.pmb_vid.specs.Vid.{vid}
use Rattle.pmb_vid.specs.machine.AllCodes.{all_codes}
use Rattle.pmb_vid.proofs.NearestVid.{in_range_of_all, nearest_of_all}
use Rattle.pmb_vid.proofs.table.VidTableFormat.encode.Goals as goal

pub returns-in-None-clause-nearest : goal.returns-in-None-clause-nearest
returns-in-None-clause-nearest c =
    let table = c.args.self.now in
    let q = c.args.quantity.now in
    let range : IsInRange (vid table) q = search rules in
    IfOk-weaker c.encode.result (IsNearest (all_codes table) q) (IsNearest (vid table) q)
    (nearest_of_all table q c.den-positive.ensures.holds.positive range) c.encode.ensures.nearest

pub returns-in-None-clause-in_range : goal.returns-in-None-clause-in_range
returns-in-None-clause-in_range c =
    let range : IsInRange (vid c.args.self.now) c.args.quantity.now = search rules in
    let is_ok = c.encode.ensures.in_range.1 (in_range_of_all c.args.self.now c.args.quantity.now range) in
    (λ _. range, λ _. is_ok)
