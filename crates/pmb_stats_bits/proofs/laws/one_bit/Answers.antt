use Rattle.std.proofs.Common.{◌∙◌, sym}
use Rattle.pmb_stats_bits.proofs.laws.one_bit.Goals as goal

pub returns : goal.returns
returns c history reads others bit stands other = record {
  count = sym stands.count ∙ other.count;
  first = sym stands.first ∙ other.first;
  last = sym stands.last ∙ other.last;
  gone = sym stands.gone ∙ other.gone;
}
