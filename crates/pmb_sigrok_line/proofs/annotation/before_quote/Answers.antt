use Rattle.std.proofs.lemmas.Bool.Decides.{Decides-eqb}
use Rattle.std.proofs.lemmas.Slice.Eq.{strip_suffix_is}
use Rattle.pmb_sigrok_line.specs.Annotation.{quote}
use Rattle.pmb_sigrok_line.proofs.Shapes.{before_is}
use Rattle.pmb_sigrok_line.proofs.annotation.before_quote.Goals as goal

pub returns : goal.returns
returns c = before_is c.args.text.now c.strip_suffix.result
    (strip_suffix_is Decides-eqb c.args.text.now quote c.strip_suffix.result c.strip_suffix.ensures.cases)
