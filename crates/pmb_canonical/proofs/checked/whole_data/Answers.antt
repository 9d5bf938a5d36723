use Rattle.std.proofs.Common.{◌≡◌, length, sym, ap, subst, ◌∙◌, arith}
use Rattle.pmb_command.specs.Wire.{Fits, wire, wire_length}
use Rattle.pmb_canonical.proofs.Wires.{small_items, whole}
use Rattle.pmb_canonical.proofs.checked.whole_data.Goals as goal

pub data_within-requires : goal.data_within-requires
data_within-requires c =
    let bytes = c.args.bytes.now in
    let long : wire_length c.args.form bytes ≡ length bytes = omega (arith, c.wire_length.ensures.length) in
    let found = whole c.args.form bytes (small_items bytes (λ k. omega (arith, c.type_inv.bytes k))) long in
    (found.0, found.2)

pub returns-clause-says : goal.returns-clause-says
returns-clause-says c =
    let bytes = c.args.bytes.now in
    let long : wire_length c.args.form bytes ≡ length bytes = omega (arith, c.wire_length.ensures.length) in
    let found = whole c.args.form bytes (small_items bytes (λ k. omega (arith, c.type_inv.bytes k))) long in
    let is : c.data_within.result.now ≡ found.0 = c.data_within.ensures found.0 found.2 in
    (subst (Fits c.args.form) (sym is) found.1, found.2 ∙ ap (wire c.args.form) (sym is))
