use Rattle.std.proofs.Common.{[], ◌∷◌, ◌++◌, ◌∙◌, sym, subst, refl}
use Rattle.pmb_scan.specs.Reached.{behind_event, standing_after}
use Rattle.pmb_fact_stream.specs.declared.stream.Stream.{Stream}
use Rattle.pmb_fact_stream.specs.machine.OpenTime.{KeepsTime}
use Rattle.pmb_fact_stream.proofs.Fronts.{at_other, other_begins}
use Rattle.pmb_fact_stream.proofs.Losing.{loses_as}
use Rattle.pmb_fact_stream.proofs.Standing.{counts_as, keeps_as, times_event}
use Rattle.pmb_fact_stream.proofs.Told.{same_then, told_other}
use Rattle.pmb_fact_stream.proofs.kept_stream.KeptStream.take_other.Goals as goal

pub returns-clause-visits : goal.returns-clause-visits
returns-clause-visits g c start reached text stands spells may is =
    let old = c.args.self.now in
    let before = old.stream in
    let event = c.args.event in
    let addr = c.args.addr in
    let mid = c.count_event.new.self in
    let new : Stream = record mid { counts = c.count_other.new.self } in
    let first = stands.told stands.begins.0 stands.begins.1 in
    let puts = c.in_ok-put_other.ensures.puts _ first.at.knows in
    let there = at_other _ reached.standing event addr is in
    let n = there.0 in
    let front = there.1 in
    let standing = there.2 in
    let other = other_begins _ front event addr there.3 in record {
      text = puts.text;
      writes = puts.writes;
      holds = record {
        begins = stands.begins;
        told = λ b begins.
            let told = stands.told b begins in
            let events = reached.events ++ event ∷ [] in
            let taken = c.take_event.ensures in
            let counted = c.count_event.ensures in
            let both = same_then before c.take_event.new.self mid taken.same counted.same in
            let known = counted.knows _ (taken.knows b reached told.at may) in
            told_other g.K.Keeper.Keeps b start old new reached text told c.the_last_word_stands_there.ensures n front
            event addr
            standing
            spells (record { choice = both.choice; profile = both.profile })
            (times_event before new reached event may (counted.times.times ∙ taken.times)
            (subst (λ t. KeepsTime t reached.text events) (sym counted.times.time)
            (taken.time reached.text reached.events told.at.times.time told.at.times.times spells)) told.at.times)
            other (counts_as _ mid c.count_other.new.self addr (c.count_other.ensures _ known.counts) known)
            (keeps_as b mid new reached.text (standing_after reached.standing event)
            (record { choice = refl; profile = refl })
            (record { said = refl; begun = refl; passing = refl; front = refl; writes = refl })
            (keeps_as b c.take_event.new.self mid reached.text (standing_after reached.standing event) counted.same
            counted.packet (taken.packet b reached told.at spells)))
            (loses_as c.take_event.new.self.writes mid.writes (behind_event reached event)
            (standing_after reached.standing event) counted.packet.writes (taken.loses b reached told.at may))
            c.put_other.new.keeper puts.text c.word-place.result
            (c.word-place.ensures (b.read ++ reached.text) told.at.knows.places)
            (puts.holds _ told.at.knows);
      };
    }
