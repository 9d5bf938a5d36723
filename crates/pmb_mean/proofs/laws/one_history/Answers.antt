use Rattle.std.proofs.Common.{◌∙◌, sym}
use Rattle.pmb_mean.proofs.Standing.{mean_held}
use Rattle.pmb_mean.proofs.laws.one_history.Goals as goal

pub returns : goal.returns
returns c history numbers others stands other = record {
  count = sym stands.holds.count ∙ other.holds.count;
  assumed = sym stands.holds.assumed ∙ other.holds.assumed;
  least = sym stands.holds.least ∙ other.holds.least;
  mean = sym (mean_held history numbers stands) ∙ mean_held history others other;
  greatest = sym stands.holds.greatest ∙ other.holds.greatest;
  last = sym stands.holds.last ∙ other.holds.last;
}
