use Rattle.std.proofs.Common.{codes, inr}
use Rattle.std.proofs.lemmas.Bool.Decides.{Decides-eqb}
use Rattle.std.proofs.lemmas.Slice.Eq.{ends_is}
use Rattle.pmb_preamble.proofs.Marks.{line_ends}
use Rattle.pmb_preamble.proofs.front_reader.starts_line.Goals as goal

pub returns-else-is_empty : goal.returns-else-is_empty
returns-else-is_empty c =
    let told = ends_is Decides-eqb c.args.before.now (codes "\n") c.ends_with.result c.ends_with.ensures.value in (
      (λ yes. inr (_, told.0 yes)),
      line_ends c.args.before.now c.is_empty.result c.ends_with.result c.is_empty.ensures
          c.if-is_empty.false told.1,
    )
