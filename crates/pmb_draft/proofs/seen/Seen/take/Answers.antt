use Rattle.std.proofs.Common.{◌++◌, ◌∷◌, [], refl, subst, sym}
use Rattle.pmb_bus.specs.declared.event.Event.{Event}
use Rattle.pmb_draft.specs.machine.Seen.{HasSeen}
use Rattle.pmb_draft.proofs.Seeing.{ack_at, other_event}
use Rattle.pmb_draft.proofs.seen.Seen.take.Goals as goal

pub returns-in-Ack : goal.returns-in-Ack
returns-in-Ack c events seen =
    let old = c.args.self.now in
    let new = c.take_ack.new.self in
    subst (λ (e : Event). HasSeen new (events ++ e ∷ [])) (sym c.in-Ack.is)
    (ack_at old.start events old new seen c.take_ack.ensures.start refl c.take_ack.ensures.met)

pub returns-in_default : goal.returns-in_default
returns-in_default c events seen =
    other_event events c.args.event c.args.self.now c.pass.new.self seen c.in_default.not-Ack c.pass.ensures.start
    c.pass.ensures.adds
