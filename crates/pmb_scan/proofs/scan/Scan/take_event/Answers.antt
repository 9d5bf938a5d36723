use Rattle.std.proofs.Common.{refl}
use Rattle.std.proofs.lemmas.Result.{on_ok_weaker}
use Rattle.pmb_reader.specs.Reader.{last_read}
use Rattle.pmb_reader.specs.Refusal.{refusal_data}
use Rattle.pmb_scan.specs.Reached.{behind_event, behind_packet, behind_refusal}
use Rattle.pmb_scan.proofs.scan.Scan.take_event.Goals as goal

pub returns-in-Continues-clause-takes : goal.returns-in-Continues-clause-takes
returns-in-Continues-clause-takes g c start reached text read visited spells =
    let goes = c.in-Continues.ensures reached read in
    on_ok_weaker c.visit_event.result (λ puts. record {
      text = puts.text;
      writes = puts.writes;
      holds = record {
        there = behind_event reached c.args.event;
        profile = refl;
        same_text = refl;
        events = refl;
        reads = goes.reads;
        visited = puts.holds;
      };
    }) (c.visit_event.ensures.visits start reached text visited spells goes.may)

pub returns-in-Packet-clause-takes : goal.returns-in-Packet-clause-takes
returns-in-Packet-clause-takes g c start reached text read visited spells =
    let ended = c.in-Packet.ensures reached read in
    on_ok_weaker c.visit_packet.result (λ puts. record {
      text = puts.text;
      writes = puts.writes;
      holds = record {
        there = behind_packet reached ended.n ended.front c.args.event (last_read c.report.new.reader);
        profile = refl;
        same_text = refl;
        events = refl;
        reads = ended.reads;
        visited = puts.holds;
      };
    }) (c.visit_packet.ensures.visits start reached text ended.n ended.front c.args.event visited spells ended.standing
    ended.packet)

pub returns-in-Refused-clause-takes : goal.returns-in-Refused-clause-takes
returns-in-Refused-clause-takes g c start reached text read visited spells =
    let refused = c.in-Refused.ensures reached read in
    on_ok_weaker c.visit_refusal.result (λ puts. record {
      text = puts.text;
      writes = puts.writes;
      holds = record {
        there = behind_refusal reached refused.n refused.front c.args.event (refusal_data c.in-Refused.refusal);
        profile = refl;
        same_text = refl;
        events = refl;
        reads = refused.reads;
        visited = puts.holds;
      };
    }) (c.visit_refusal.ensures.visits start reached text refused.n refused.front visited spells refused.standing
    refused.refused)
