use Rattle.std.proofs.Common.{codes, slice_index, drop}
use Rattle.std.proofs.lemmas.Bool.Decides.{Decides-eqb}
use Rattle.std.proofs.lemmas.Slice.Eq.{strip_suffix_is}
use Rattle.pmb_trace.proofs.Ends.{before_end_is}
use Rattle.pmb_trace.proofs.line.before_comment_end.Goals as goal

pub returns : goal.returns
returns c = before_end_is (slice_index (codes " */") 0) (drop 1 (codes " */")) c.args.line.now c.strip_suffix.result
    (strip_suffix_is Decides-eqb c.args.line.now (codes " */") c.strip_suffix.result c.strip_suffix.ensures.cases)
