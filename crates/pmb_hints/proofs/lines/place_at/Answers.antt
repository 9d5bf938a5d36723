use Rattle.std.specs.Prelude.{[], take}
use Rattle.std.proofs.Common.{arith}
use Rattle.pmb_hints.proofs.lines.place_at.Goals as goal

-- the place after the front that was taken
pub returns : goal.returns
returns c = record {
  within = omega arith;
  is = search (c.here.ensures (take c.min.result c.args.text.now) (c.take.ensures [] c.new-places.ensures), c.min.ensures);
}
