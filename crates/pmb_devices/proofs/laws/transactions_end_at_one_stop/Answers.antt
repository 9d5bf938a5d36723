use Rattle.std.proofs.Common.{[], ◌∷◌, ◌++◌, refl}
use Rattle.pmb_bus.specs.declared.event.Event.TheVariants.{Stop}
use Rattle.pmb_devices.proofs.Stopped.{ends_at_one_stop}
use Rattle.pmb_devices.proofs.laws.transactions_end_at_one_stop.Goals as goal

pub returns : goal.returns
returns c = λ profile before since outcomes t stopped none reads.
    ends_at_one_stop profile (λ u events packet. c.packet_ends_with_stop.ensures profile u events packet)
    (λ events going. (c.packets_under_way.ensures profile events going.viable).0 going)
    outcomes 0 before since (before ++ (since ++ Stop ∷ [])) t stopped none refl reads
