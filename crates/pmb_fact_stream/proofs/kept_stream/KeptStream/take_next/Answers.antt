use Rattle.std.proofs.Common.{[], ◌∷◌, ◌++◌, ◌∙◌, sym, subst}
use Rattle.pmb_scan.specs.Reached.{behind_event, standing_after}
use Rattle.pmb_fact_stream.specs.machine.OpenTime.{KeepsTime}
use Rattle.pmb_fact_stream.proofs.Losing.{loses_as}
use Rattle.pmb_fact_stream.proofs.Standing.{keeps_as, times_event}
use Rattle.pmb_fact_stream.proofs.Told.{same_then, told_event}
use Rattle.pmb_fact_stream.proofs.kept_stream.KeptStream.take_next.Goals as goal

pub returns : goal.returns
returns g c start reached text stands spells may none = record {
  begins = stands.begins;
  told = λ b begins.
      let told = stands.told b begins in
      let new = c.count_event.new.self in
      let events = reached.events ++ c.args.event ∷ [] in
      let taken = c.take_event.ensures in
      let counted = c.count_event.ensures in
      told_event g.K.Keeper.Keeps b start c.args.self.now new reached text told c.args.event
      (same_then _ _ _ taken.same counted.same)
      (times_event c.args.self.now.stream new reached c.args.event may (counted.times.times ∙ taken.times)
      (subst (λ t. KeepsTime t reached.text events) (sym counted.times.time)
      (taken.time reached.text reached.events told.at.times.time told.at.times.times spells)) told.at.times) none
      (counted.knows _ (taken.knows b reached told.at may))
      (keeps_as b c.take_event.new.self new reached.text (standing_after reached.standing c.args.event) counted.same
      counted.packet (taken.packet b reached told.at spells))
      (loses_as c.take_event.new.self.writes new.writes (behind_event reached c.args.event)
      (standing_after reached.standing c.args.event) counted.packet.writes (taken.loses b reached told.at may));
}
