use Rattle.std.proofs.Common.{[], ◌∷◌, ◌++◌, sym, ◌∙◌}
use Rattle.pmb_bus.specs.declared.event.Event.TheVariants.{Stop}
use Rattle.pmb_io.proofs.Writing.{writes_nothing}
use Rattle.pmb_transaction.specs.Transaction.{transaction_data}
use Rattle.pmb_fact_stream.proofs.Fronts.{is_no_other_front, is_other_front}
use Rattle.pmb_fact_stream.proofs.Lists.{same_last}
use Rattle.pmb_fact_stream.proofs.Standing.{times_packet}
use Rattle.pmb_fact_stream.proofs.Told.{kept_packet}
use Rattle.pmb_fact_stream.proofs.ToldSpans.{told_other_packet, told_packet}
use Rattle.pmb_fact_stream.proofs.visits.KeptStreamVisitor.visit_packet.Goals as goal

pub returns-clause-visits : goal.returns-clause-visits
returns-clause-visits g c start reached text n front event stands spells standing packet =
    let old = c.args.self.now in
    let new = c.take_packet.new.self in
    let t = transaction_data c.args.transaction.now in
    let ends = c.packet_ends_with_stop.ensures reached.profile t (front ++ event ∷ []) packet in
    let taken = c.take_packet.ensures in
    let puts = c.in_ok-put_packet.ensures.puts _ (stands.told stands.begins.0 stands.begins.1).at.knows in record {
      text = puts.text;
      writes = puts.writes;
      holds = record {
        begins = stands.begins;
        told = λ b begins.
            let told = stands.told b begins in
            let none = is_no_other_front _ front (λ is. c.in_default.not-Other
            ((kept_packet g.K.Keeper.Keeps b start old new reached text told n front standing).front ∙ is)) in
            told_packet g.K.Keeper.Keeps b start old new reached text told n front event t standing
            (times_packet old.stream new reached n front event t
            (same_last front ends.front event Stop ends.split) taken.times
            (taken.time reached.text reached.events) told.at.times) ends packet none taken.same taken.passing
            taken.cleared taken.fresh (taken.knows _ told.at.knows) c.put_packet.new.keeper puts.text
            (puts.holds _ told.at.knows);
      };
    }

-- the object of an other is out
pub returns-in-Other-clause-visits : goal.returns-in-Other-clause-visits
returns-in-Other-clause-visits g c start reached text n front event stands spells standing packet =
    let old = c.args.self.now in
    let new = c.end_packet.new.self in
    let t = transaction_data c.args.transaction.now in
    let ends = c.packet_ends_with_stop.ensures reached.profile t (front ++ event ∷ []) packet in
    let stop = same_last front ends.front event Stop ends.split in
    let taken = c.end_packet.ensures in record {
      text = [];
      writes = writes_nothing _ _;
      holds = record {
        begins = stands.begins;
        told = λ b begins.
            let told = stands.told b begins in
            let other = is_other_front _ front
            (sym (kept_packet g.K.Keeper.Keeps b start old new reached text told n front standing).front ∙
            c.in-Other.is) in
            told_other_packet g.K.Keeper.Keeps b start old new reached text told n front event t other.0 standing
            (times_packet old.stream new reached n front event t stop taken.times
            (taken.time reached.text reached.events)
            told.at.times) stop other.1 taken.same taken.passing taken.cleared taken.fresh
            (taken.knows _ told.at.knows);
      };
    }
