use Rattle.std.proofs.Common.{◌≡◌, ◌∷◌, ◌++◌, [], List, ℕ, true, refl, sym, ap, subst, ◌∙◌, arith}
use Rattle.pmb_bus.specs.Address.{write_address}
use Rattle.pmb_bus.specs.Pec.{pec}
use Rattle.pmb_command.specs.declared.form.Shape.{Shape}
use Rattle.pmb_command.specs.Fitting.{calls_fit}
use Rattle.pmb_transaction.specs.Body.{forms}
use Rattle.pmb_leg.specs.Leg.{Written, begins_with}
use Rattle.pmb_leg.proofs.Bodies.{in_front}
use Rattle.pmb_leg.proofs.Legs.{first_kept, tells_code}
use Rattle.pmb_leg.proofs.written_leg.WrittenLeg.take_code.Goals as goal

pub invariant_of-self : goal.invariant_of-self
invariant_of-self c =
    let none : c.self.inside.bytes.items ≡ [] = ap (λ (leg : Written). leg.bytes) c.self.view_is ∙ c.requires in
    let one : c.push.new.self.items ≡ c.args.code ∷ [] = c.push.ensures.items
    ∙ ap (λ (bs : List ℕ). bs ++ c.args.code ∷ []) none in
    let address = c.pec_next.ensures.goes_on [] c.worked_pecs.ensures.nothing in
    let address_byte : c.write_address.result ≡ write_address c.self.inside.device.now.address =
    omega (arith, c.address.ensures.address, c.address.ensures.seven_bits, c.write_address.ensures.low_bits) in
    let start_with : pec (c.write_address.result ∷ []) ≡ c.pec_next.result = sym address in
    let crc : c.pec_next-self-inside.result ≡ pec (in_front c.self.inside.device.now c.args.code) =
    c.pec_next-self-inside.ensures.goes_on (c.write_address.result ∷ []) start_with
    ∙ ap (λ (b : ℕ). pec (b ∷ c.args.code ∷ [])) address_byte in
    let called : calls_fit (forms c.self.inside.device.now c.args.code).call ≡ true =
    subst (λ (s : Shape). calls_fit s.call ≡ true) c.forms_of-forms.ensures.forms
    c.forms_of-forms.ensures.called_with_data in
    rw (
      one,
      c.start-self-inside.ensures,
      c.start-self-inside-2.ensures,
      c.call_form.ensures,
      c.forms_of-forms.ensures.forms,
      c.pec.ensures,
    )
    (first_kept c.self.inside.device.now c.self.inside.place c.args.code c.pec_next-self-inside.result called crc)

pub returns-clause-begins : goal.returns-clause-begins
returns-clause-begins c parts here =
    let told = tells_code c.self.inside.device.now c.self.inside.place [] refl parts
    (here ∙ sym (ap (λ (leg : Written). leg.place) c.self.view_is)) c.args.code in
    let begins = ap (λ (s : Shape). begins_with s c.self.inside.place) (sym c.forms_of-forms.ensures.forms)
    ∙ sym c.begins_with.ensures ∙ c.if-not-begins_with.false in
    rw (← c.self.view_is) (λ _. told.0 begins, λ _. refl)
