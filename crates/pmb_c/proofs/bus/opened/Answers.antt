use Rattle.std.proofs.Common.{Some, refl, ap, subst}
use Rattle.pmb_bus_session.specs.Work.{ActsFor}
use Rattle.pmb_bus_session.specs.declared.work.BusTask.{BusTask}
use Rattle.pmb_c.specs.Bus.{bus_in}
use Rattle.pmb_c.specs.declared.held.Held.{Held}
use Rattle.pmb_c.proofs.bus.opened.Goals as goal

-- the session was fresh, and was asked to open
pub returns-in-Ok-new : goal.returns-in-Ok-new
returns-in-Ok-new c = record {
  base = record { bus = c.args.devices; alloc = c.args.alloc };
  fresh = c.in-Ok.bus.is;
  session = c.act.new.self.is;
  answer = c.act.new.work.answer;
  of_profile = refl;
  begins = c.in-Ok.ensures.1;
  opens = (subst (λ (asked : BusTask). ActsFor asked c.in-Ok.bus.is c.act.new.self.is c.new-work.result c.act.new.work)
      c.new-work.ensures.task c.act.ensures.acts.acts).0;
  done = c.in-Done.is;
  is = ap (λ (holds : Held). bus_in (Some holds)) c.in-Ok-new.ensures.ok;
}
