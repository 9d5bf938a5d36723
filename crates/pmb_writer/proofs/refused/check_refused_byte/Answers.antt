use Rattle.std.proofs.Common.{◌≡◌, ◌∙◌, [], ◌∷◌, ◌++◌, false, map, refl, sym, ap, subst, arith}
use Rattle.pmb_command.specs.Wire.{AreByteValues}
use Rattle.pmb_transaction.specs.Transaction.{part_data}
use Rattle.pmb_writer.specs.declared.invalid.Invalid.TheVariants.{WrongLength}
use Rattle.pmb_writer.specs.Invalid.{AreKept, IsFirstBroken, refused_leg_rules}
use Rattle.pmb_writer.proofs.Bodies.{first_is_first}
use Rattle.pmb_writer.proofs.RefusedLegs.{Found, byte_is_refused, byte_goes_on_not, small_front, small_items}
use Rattle.pmb_writer.proofs.refused.check_refused_byte.Goals as goal
use Rattle.pmb_writer.proofs.refused.check_refused_byte.Goals.{In-Some-forms_of}

found : (c : In-Some-forms_of) → Found c.args.profile.now c.args.address c.in-Some.code.now c.in-Some-device.device.now
    c.in-Some-forms_of.forms
found c = record {
  known = c.in-Some-device.ensures.device;
  command =
      c.in-Some-forms_of.ensures.known.0 refl;
  shape_is = c.in-Some-forms_of.ensures.forms;
}

-- the bytes that were sent, the last of them apart
split : (c : In-Some-forms_of) → c.args.sent.now ≡ c.in-Some.code.now ∷ c.in-Some-split_last.taken.now
    ++ c.in-Some-split_last.field-0-0.now ∷ []
split c = c.in-Some.ensures.cases.0 ∙ ap (λ bytes. c.in-Some.code.now ∷ bytes) c.in-Some-split_last.ensures.cases.0

small : (c : In-Some-forms_of) → AreByteValues c.in-Some-split_last.taken.now
small c =
    let all : AreByteValues c.args.sent.now = small_items c.args.sent.now (λ k. omega (arith, c.type_inv.sent k)) in
    let parts : AreByteValues (c.in-Some.code.now ∷ c.in-Some-split_last.taken.now ++ c.in-Some-split_last.field-0-0.now
    ∷ []) = subst AreByteValues (split c) all in
    small_front c.in-Some-split_last.taken.now c.in-Some-split_last.field-0-0.now parts.1

pub returns-then-not-may_go_on : goal.returns-then-not-may_go_on
returns-then-not-may_go_on c =
    let k = (goal.at.returns-then-not-may_go_on c).In-Some-forms_of in
    subst (λ sent. IsFirstBroken (refused_leg_rules c.args.profile.now (map part_data c.args.parts.now) c.args.address
    sent false) WrongLength) (sym (split k))
    (byte_goes_on_not c.args.profile.now (map part_data c.args.parts.now) c.args.address c.in-Some.code.now
    c.in-Some-device.device.now c.in-Some-forms_of.forms (found k)
    c.is_empty-first.result c.pec.result c.in-Some-split_last.taken.now c.in-Some-split_last.field-0-0.now
    (c.is_empty-first.ensures ∙ first_is_first c.args.parts.now, sym c.may_begin.ensures ∙ c.if-not-may_begin.false) (
      c.is_empty-first.ensures ∙ first_is_first c.args.parts.now,
      c.pec.ensures,
      sym c.may_go_on.ensures
          ∙ c.if-not-may_go_on.true,
    ))

pub returns : goal.returns
returns c =
    let k = (goal.at.returns c).In-Some-forms_of in
    subst (λ sent. AreKept (refused_leg_rules c.args.profile.now (map part_data c.args.parts.now) c.args.address sent
    false)) (sym (split k))
    (byte_is_refused c.args.profile.now (map part_data c.args.parts.now) c.args.address c.in-Some.code.now
    c.in-Some-device.device.now c.in-Some-forms_of.forms (found k)
    c.is_empty-first.result c.pec.result c.in-Some-split_last.taken.now c.in-Some-split_last.field-0-0.now (small k)
    (c.is_empty-first.ensures ∙ first_is_first c.args.parts.now, sym c.may_begin.ensures ∙ c.if-not-may_begin.false) (
      c.is_empty-first.ensures ∙ first_is_first c.args.parts.now,
      c.pec.ensures,
      sym c.may_go_on.ensures
          ∙ c.if-not-may_go_on.false,
    ))
