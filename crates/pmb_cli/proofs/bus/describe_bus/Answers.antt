use Rattle.std.proofs.Common.{inl, inr, refl, sym, ap, []}
use Rattle.pmb_io.proofs.Running.{raised_by_none}
use Rattle.pmb_io.proofs.Writing.{consumes_nothing}
use Rattle.pmb_io.specs.declared.tally.Tally.{Tally}
use Rattle.pmb_profile_text.specs.Table.{bus_text}
use Rattle.pmb_cli.proofs.Unread.{ran_unread}
use Rattle.pmb_cli.proofs.bus.describe_bus.Goals as goal

-- Nothing is read, and the text of the bus is written.
pub returns-in-Ok : goal.returns-in-Ok
returns-in-Ok g c =
    ran_unread g.R.Source.told g.W.Sink.told _ _ _ _ _ _
    (inr (record {
      through = record {
        read = [];
        text = bus_text c.args.bus.now.ignored c.args.bus.now.devices;
        consumed = consumes_nothing _;
        given = sym (raised_by_none _);
        appended = c.in-Ok.ensures.written;
        holds = record {
          whole = refl;
          counts = record {
            packets_counted =
                ap (λ (t : Tally). t.packets) c.new.ensures;
            refusals_counted =
                ap (λ (t : Tally). t.refusals) c.new.ensures;
          };
        };
      };
      in_time = inl (refl, refl);
    }))
    (λ is. cc) (λ is. cc) (λ is. cc) (λ _. c.in-Ok.ensures.failed)

-- The writer failed.
pub returns-in-Err : goal.returns-in-Err
returns-in-Err g c = ran_unread g.R.Source.told g.W.Sink.told _ _ _ _ _ _ tt (λ is. cc) (λ is. cc)
    (λ _. c.in-Err.ensures.failed.1) (λ other. absurd (other refl))
