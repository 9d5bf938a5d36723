use Rattle.std.proofs.Common.{Option, length, nat_eq, sym, subst, ◌∙◌, arith, eq-eqb}
use Rattle.std.proofs.lemmas.Bool.{eqb-true}
use Rattle.std.specs.Prelude.{◌↔◌, IsTrue}
use Rattle.pmb_command.specs.declared.form.Form.{Form}
use Rattle.pmb_canonical.specs.Refused.{AreData}
use Rattle.pmb_canonical.proofs.Bodies.{are_data, data_long, no_data}
use Rattle.pmb_canonical.proofs.Wires.{small_items}
use Rattle.pmb_canonical.proofs.refused.are_data.Goals as goal

pub returns-in_default : goal.returns-in_default
returns-in_default c = no_data c.args.wanted c.args.bytes.now c.in_default.not-Some

pub returns : goal.returns
returns c =
    let bytes = c.args.bytes.now in
    subst (λ (f : Option Form). IsTrue (nat_eq c.wire_length.result (length bytes)) ↔ AreData f bytes)
    (sym c.in-Some.is) (
      λ is. are_data c.in-Some.form bytes (small_items bytes (λ k. omega (arith, c.type_inv.bytes k)))
          (sym c.wire_length.ensures.length ∙ eqb-true c.wire_length.result (length bytes) is),
      λ are. eq-eqb c.wire_length.result (length bytes)
          (c.wire_length.ensures.length ∙ data_long c.in-Some.form bytes are),
    )
