use Rattle.pmb_fact_stream.specs.Before.{at_first}
use Rattle.pmb_stats_laws.proofs.EachFact.{text_holds}
use Rattle.pmb_stats_laws.proofs.Faults.{found_in, is_found}
use Rattle.pmb_stats_laws.proofs.ReadBytes.{RepliesBytes, each_replies_bytes}
use Rattle.pmb_stats_laws.proofs.laws.faults_are_told.Goals as goal

pub returns : goal.returns
returns c ignored profile after bytes facts are =
    let replies = text_holds RepliesBytes ignored profile (each_replies_bytes ignored profile) after at_first bytes
    are.bad facts are.counts are.from_first in (
      is_found profile facts,
      λ one. found_in profile one.addr one.code one.bit one.register one.within one.fault facts replies one.found,
    )
