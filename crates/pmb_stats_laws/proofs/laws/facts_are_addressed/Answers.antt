use Rattle.pmb_fact_stream.specs.Before.{at_first}
use Rattle.pmb_stats_laws.proofs.Addressed.{Names, each_is_addressed}
use Rattle.pmb_stats_laws.proofs.EachFact.{text_holds}
use Rattle.pmb_stats_laws.proofs.laws.facts_are_addressed.Goals as goal

pub returns : goal.returns
returns c ignored profile after bytes facts bus are =
    text_holds Names ignored profile (each_is_addressed profile bus ignored) after at_first bytes are.bad facts
    are.counts are.from_first
