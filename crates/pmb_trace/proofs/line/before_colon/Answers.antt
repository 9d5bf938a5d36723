use Rattle.std.proofs.Common.{codes}
use Rattle.std.proofs.lemmas.Bool.Decides.{Decides-eqb}
use Rattle.std.proofs.lemmas.Slice.Eq.{strip_suffix_is}
use Rattle.pmb_trace.proofs.Colons.{before_is}
use Rattle.pmb_trace.proofs.line.before_colon.Goals as goal

pub returns : goal.returns
returns c = before_is c.args.word.now c.strip_suffix.result
    (strip_suffix_is Decides-eqb c.args.word.now (codes ":") c.strip_suffix.result c.strip_suffix.ensures.cases)
