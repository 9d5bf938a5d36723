use Rattle.std.proofs.Common.{◌∙◌, refl, sym, subst, ap, List, ◌++◌, map}
use Rattle.std.specs.Borrow.{Bor}
use Rattle.pmb_command.specs.Parts.{DeviceParts}
use Rattle.pmb_devices.specs.declared.bus.Bus.{Bus}
use Rattle.pmb_bus.specs.declared.event.Event.{Event}
use Rattle.pmb_message.specs.Send.{Sends}
use Rattle.pmb_run.specs.Heard.{HearsMore, ReadsAs}
use Rattle.pmb_bus_session.proofs.Stopped.{after_message, moves, stands_on}
use Rattle.pmb_bus_session.proofs.devices.Devices.send.Goals as goal

-- The bench reads the events of the message, and leaves the bus as the message left it.
pub returns : goal.returns
returns c = let sends = subst (λ (bus : Bus). Sends c.args.message c.args.room.now c.send-result.new.room
    c.args.self.now.runner.bench.bus bus c.send-result.new.tape c.send-result.result) (sym c.overhear.ensures.bus)
    c.send-result.ensures in record {
      sends = sends;
      profile_is = c.overhear.ensures.profile;
      reads = λ events outcomes reads.
          let more = c.overhear.ensures.reads events outcomes (record { read = reads.read; seen = reads.seen }) in (
            more.0,
            subst (λ (es : List Event). ReadsAs c.overhear.new.self (events ++ es) (outcomes ++ more.0))
                c.events.ensures.all more.1,
          );
      reads_on = λ place ts hears.
          subst (λ (es : List Event). HearsMore c.overhear.new.self place ts es) c.events.ensures.all
          (c.overhear.ensures.reads_on place ts
          (record { reader = hears.reader; free = hears.free; context = hears.context }));
      lines = refl;
      waiting = refl;
      under_way = c.under_way_after-self.ensures;
      stopped = λ standing stands clear over.
          after_message c.args.message c.args.room.now c.send-result.new.room c.args.self.now.runner.bench.bus
          c.overhear.new.self.bus c.send-result.new.tape c.send-result.result c.args.self.now.is_under_way standing sends
          stands clear (sym c.under_way_after-self.ensures ∙ over);
      stands = λ stood.
          let old_bus = c.args.self.now.runner.bench.bus in
          let devices = map (λ member. member.device) stood.standing.members in
          let there = stands_on devices c.overhear.new.self.bus c.under_way_after-self.result
          (moves c.args.message c.args.room.now c.send-result.new.room old_bus c.overhear.new.self.bus
          c.send-result.new.tape c.send-result.result c.args.self.now.is_under_way stood.standing sends stood.stands)
          (λ over. after_message c.args.message c.args.room.now c.send-result.new.room old_bus c.overhear.new.self.bus
          c.send-result.new.tape c.send-result.result c.args.self.now.is_under_way stood.standing sends stood.stands
          stood.ended (sym c.under_way_after-self.ensures ∙ over)) in
          record {
            standing = there.0;
            stands = there.1;
            devices_are = there.2
                ∙ (stood.devices_are ∙ ap (λ (p : Bor (List DeviceParts)). p.now) (sym c.overhear.ensures.profile));
            ended = there.3;
          };
    }
