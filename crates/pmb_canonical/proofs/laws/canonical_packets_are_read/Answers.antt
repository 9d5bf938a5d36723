use Rattle.pmb_canonical.proofs.Between.{ends_between, used_text}
use Rattle.pmb_canonical.proofs.laws.canonical_packets_are_read.Goals as goal

pub returns-clause-between : goal.returns-clause-between
returns-clause-between c profile text used count t taken =
    ends_between c.texts_may_be_cut_between_words.ensures.lines profile text used count t taken
    (c.packet_ends_with_stop.ensures profile t taken.events taken.packet)

pub returns-clause-text : goal.returns-clause-text
returns-clause-text c profile text used count t taken = used_text profile text used count t taken
