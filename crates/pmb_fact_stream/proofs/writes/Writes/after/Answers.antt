use Rattle.std.proofs.Common.{true, [], ◌∷◌, ◌++◌, inl, inr, refl, subst, sym}
use Rattle.pmb_fact_stream.specs.declared.writes.Writes.{Writes}
use Rattle.pmb_fact_stream.specs.machine.Losing.{WritesStandAt}
use Rattle.pmb_fact_stream.proofs.Losing.{writes_ack, writes_byte, writes_nack, writes_start, writes_stop}
use Rattle.pmb_fact_stream.proofs.writes.Writes.after.Goals as goal

pub returns-in-Start : goal.returns-in-Start
returns-in-Start c events stands =
    let new : Writes = record { awaits_address = true; has_write = c.args.self.has_write } in
    subst (λ e. WritesStandAt c.args.profile.now new (events ++ e ∷ [])) (sym c.in-Start.is)
    (writes_start c.args.profile.now c.args.self new events stands refl refl)

pub returns-in-Byte : goal.returns-in-Byte
returns-in-Byte c events stands =
    subst (λ e. WritesStandAt c.args.profile.now c.after_byte.result (events ++ e ∷ [])) (sym c.in-Byte.is)
    (writes_byte c.args.profile.now c.args.self c.after_byte.result events c.in-Byte.byte stands
    c.after_byte.ensures.awaits c.after_byte.ensures.has)

pub returns-in-Ack : goal.returns-in-Ack
returns-in-Ack c events stands =
    let profile = c.args.profile.now in
    let old = c.args.self in
    elim c.in-Ack.is [
      | inl ack ↦ subst (λ e. WritesStandAt profile old (events ++ e ∷ [])) (sym ack)
          (writes_ack profile old events stands)
      | inr more ↦
          elim more [
            | inl nack ↦ subst (λ e. WritesStandAt profile old (events ++ e ∷ [])) (sym nack)
                (writes_nack profile old events stands)
            | inr stop ↦ subst (λ e. WritesStandAt profile old (events ++ e ∷ [])) (sym stop)
                (writes_stop profile old events stands)
          ]
    ]
