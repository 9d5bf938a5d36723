use Rattle.std.proofs.Common.{◌++◌, ◌∷◌, [], inl, inr, subst, sym}
use Rattle.pmb_bus.specs.declared.event.Event.{Event}
use Rattle.pmb_partial_packet.specs.machine.Keeping.{SaidStandsAt}
use Rattle.pmb_partial_packet.proofs.Stands.{stands_at_ack, stands_at_nack, stands_at_stop}
use Rattle.pmb_partial_packet.proofs.partial_packet.PartialPacket.take.Goals as goal

pub returns-in-Ack : goal.returns-in-Ack
returns-in-Ack c = λ events stands.
    elim c.in-Ack.is [
      | inl ack ↦ subst (λ (e : Event). SaidStandsAt c.args.self.now (events ++ e ∷ [])) (sym ack)
          (stands_at_ack c.args.self.now events stands)
      | inr (inl nack) ↦ subst (λ (e : Event). SaidStandsAt c.args.self.now (events ++ e ∷ [])) (sym nack)
          (stands_at_nack c.args.self.now events stands)
      | inr (inr stop) ↦ subst (λ (e : Event). SaidStandsAt c.args.self.now (events ++ e ∷ [])) (sym stop)
          (stands_at_stop c.args.self.now events stands)
    ]
