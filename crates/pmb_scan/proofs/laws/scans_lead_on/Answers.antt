use Rattle.std.proofs.Common.{subst}
use Rattle.pmb_reader.specs.Reader.{Standing, ReaderStandsAt}
use Rattle.pmb_scan.proofs.Following.{ends, follows}
use Rattle.pmb_scan.proofs.laws.scans_lead_on.Goals as goal

pub returns-clause-follows : goal.returns-clause-follows
returns-clause-follows c scan reached rest bus read =
    follows c.events_are_passed_over.ensures.some reached rest
    (λ n events. c.each_list_has_spans.ensures reached.profile n events bus) read.reads

pub returns-clause-ends : goal.returns-clause-ends
returns-clause-ends c scan reached bus read =
    ends reached (λ n events. c.each_list_has_spans.ensures reached.profile n events bus) read.reads
    (λ n events at. c.some_packet_is_read.ensures reached.profile scan.reader n events
    (subst (λ (s : Standing). ReaderStandsAt reached.profile scan.reader s) at read.stands))
