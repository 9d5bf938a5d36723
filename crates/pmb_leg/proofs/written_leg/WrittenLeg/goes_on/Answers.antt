use Rattle.std.proofs.Common.{inl, refl, sym, ap, ◌∙◌}
use Rattle.pmb_leg.specs.Leg.{Written}
use Rattle.pmb_leg.specs.machine.Legs.{kept}
use Rattle.pmb_leg.proofs.Legs.{is_empty, tells_goes_on, tells_room_to_go_on}
use Rattle.pmb_leg.proofs.written_leg.WrittenLeg.goes_on.Goals as goal

pub returns-then-is_empty-clause-inside : goal.returns-then-is_empty-clause-inside
returns-then-is_empty-clause-inside c parts here =
    rw (← c.self.view_is) (
      λ _. inl (is_empty c.self.inside.bytes.items (sym c.is_empty.ensures ∙ c.if-is_empty.true)),
      λ _. refl,
    )

pub returns-else-is_empty-clause-inside : goal.returns-else-is_empty-clause-inside
returns-else-is_empty-clause-inside c parts here =
    rw (← c.self.view_is, c.one_goes_on.ensures)
    (tells_goes_on (kept c.self.inside) c.self.inside.bytes.items c.self.invariant
    (sym c.is_empty.ensures ∙ c.if-is_empty.false) parts
    (here ∙ sym (ap (λ (leg : Written). leg.place) c.self.view_is)))

pub returns-else-is_empty-clause-room : goal.returns-else-is_empty-clause-room
returns-else-is_empty-clause-room c on =
    rw (← c.self.view_is)
    (tells_room_to_go_on (kept c.self.inside) c.self.inside.bytes.items c.self.invariant
    (sym c.is_empty.ensures ∙ c.if-is_empty.false) (sym c.one_goes_on.ensures ∙ on))
