use Rattle.std.proofs.Common.{refl}
use Rattle.pmb_reader.proofs.reader.Reader.refuse.Goals as goal

pub returns : goal.returns
returns c = λ profile n events stands no. (
  record {
    under_way = stands.inside.goes;
    refused = no;
    at = stands.counted;
    reason = c.reason.ensures profile events stands.inside;
    expected = c.expected.ensures profile events stands.inside;
  },
  record { mode = refl; counted = stands.counted; inside = c.restart.ensures profile events stands.inside },
)
