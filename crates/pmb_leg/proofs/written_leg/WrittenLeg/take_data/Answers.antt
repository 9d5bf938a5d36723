use Rattle.std.proofs.Common.{◌≢◌, [], List, ℕ, refl, sym, ap, ◌∙◌, arith}
use Rattle.pmb_leg.specs.Leg.{Written}
use Rattle.pmb_leg.specs.declared.left.DataLeft.{DataLeft}
use Rattle.pmb_leg.specs.machine.Legs.{IsKeptLeg, kept}
use Rattle.pmb_leg.proofs.Legs.{next_kept, not_empty, tells_room, tells_takes}
use Rattle.pmb_leg.proofs.written_leg.WrittenLeg.take_data.Goals as goal

pub push-requires : goal.push-requires
push-requires c = (
  omega arith,
  tells_room (kept c.self.inside) c.self.inside.bytes.items c.self.invariant
      (λ none. c.requires (sym (ap (λ (leg : Written). leg.bytes) c.self.view_is) ∙ none)) c.args.byte
      (sym c.one_takes.ensures ∙ c.if-not-one_takes.false),
)

pub returns-then-not-one_takes-clause-begins : goal.returns-then-not-one_takes-clause-begins
returns-then-not-one_takes-clause-begins c parts here =
    let some : c.self.inside.bytes.items ≢ [] =
    λ none. c.requires (sym (ap (λ (leg : Written). leg.bytes) c.self.view_is) ∙ none) in
    rw (← c.self.view_is, ← c.if-not-one_takes.true, c.one_takes.ensures)
    (tells_takes (kept c.self.inside) c.self.inside.bytes.items c.self.invariant
    (not_empty c.self.inside.bytes.items some) parts
    (here ∙ sym (ap (λ (leg : Written). leg.place) c.self.view_is)) c.args.byte (omega arith))

pub invariant_of-self : goal.invariant_of-self
invariant_of-self c =
    let some : c.self.inside.bytes.items ≢ [] =
    λ none. c.requires (sym (ap (λ (leg : Written). leg.bytes) c.self.view_is) ∙ none) in
    let next = next_kept (kept c.self.inside) c.self.inside.bytes.items c.self.invariant some c.args.byte
    c.pec_next-self-inside.result (omega arith) c.pec_next-self-inside.ensures.goes_on in
    let P : DataLeft → DataLeft → List ℕ → Type 0 = λ (w k : DataLeft) (bs : List ℕ). IsKeptLeg
    (record (kept c.self.inside) { write = w; call = k; crc = c.pec_next-self-inside.result }) bs in
    rw (c.push.ensures.items, c.after-self-inside.ensures, c.after-self-inside-2.ensures, c.pec.ensures) next

pub returns-clause-begins : goal.returns-clause-begins
returns-clause-begins c parts here =
    let some : c.self.inside.bytes.items ≢ [] =
    λ none. c.requires (sym (ap (λ (leg : Written). leg.bytes) c.self.view_is) ∙ none) in
    let told =
    tells_takes (kept c.self.inside) c.self.inside.bytes.items c.self.invariant
    (not_empty c.self.inside.bytes.items some) parts
    (here ∙ sym (ap (λ (leg : Written). leg.place) c.self.view_is)) c.args.byte (omega arith) in
    rw (← c.self.view_is) (λ _. told.0 (sym c.one_takes.ensures ∙ c.if-not-one_takes.false), λ _. refl)
