use Rattle.std.proofs.Common.{◌≡◌, ◌<◌, true, false, Option, length, refl, sym, subst, arith}
use Rattle.std.specs.Prelude.{◌↔◌, IsTrue}
use Rattle.pmb_command.specs.declared.form.Form.{Form}
use Rattle.pmb_command.specs.Wire.{wire_length}
use Rattle.pmb_canonical.specs.Refused.{IsInsideData}
use Rattle.pmb_canonical.proofs.Bodies.{allows_code, begun_data, left_code, no_inside, not_longer}
use Rattle.pmb_canonical.proofs.Wires.{small_items}
use Rattle.pmb_canonical.proofs.refused.go_on.Goals as goal

pub returns-in_default : goal.returns-in_default
returns-in_default c before = no_inside c.args.wanted c.args.mode before c.args.bytes.now c.in_default.not-Some

pub returns-then-bytes-whole : goal.returns-then-bytes-whole
returns-then-bytes-whole c before =
    let bytes = c.args.bytes.now in
    let less : length bytes < wire_length c.in-Some.form bytes =
    omega (arith, c.wire_length-whole.ensures.length, c.if-bytes-whole.true) in
    subst (λ (f : Option Form). IsTrue true ↔ IsInsideData f c.args.mode before bytes) (sym c.in-Some.is) (
      λ is. begun_data c.in-Some.form c.args.mode before bytes
          (small_items bytes (λ k. omega (arith, c.type_inv.bytes k))) less,
      λ inside. refl,
    )

pub returns-then-bytes-whole-2 : goal.returns-then-bytes-whole-2
returns-then-bytes-whole-2 c before =
    let bytes = c.args.bytes.now in
    let more : wire_length c.in-Some.form bytes < length bytes =
    omega (arith, c.wire_length-whole.ensures.length, c.if-bytes-whole-2.true) in
    subst (λ (f : Option Form). IsTrue false ↔ IsInsideData f c.args.mode before bytes) (sym c.in-Some.is)
    (λ is. absurd (cc is), λ inside. absurd (not_longer c.in-Some.form c.args.mode before bytes inside more))

pub returns : goal.returns
returns c before =
    let bytes = c.args.bytes.now in
    let long : wire_length c.in-Some.form bytes ≡ length bytes =
    omega (arith, c.wire_length-whole.ensures.length, c.if-bytes-whole.false, c.if-bytes-whole-2.false) in
    subst (λ (f : Option Form). IsTrue c.may_carry.result ↔ IsInsideData f c.args.mode before bytes) (sym c.in-Some.is) (
      λ is. left_code c.in-Some.form c.args.mode before bytes
          (small_items bytes (λ k. omega (arith, c.type_inv.bytes k))) long (c.may_carry.ensures.0 is),
      λ inside. c.may_carry.ensures.1 (allows_code c.in-Some.form c.args.mode before bytes inside
          (λ less. omega (arith, long, less))),
    )
