use Rattle.std.proofs.Common.{rules}
use Rattle.pmb_format.proofs.Nearest.{not_both, not_above}
use Rattle.pmb_format.proofs.codes.fault_of.Goals as goal

pub returns-then-is_below-clause-above : goal.returns-then-is_below-clause-above
returns-then-is_below-clause-above g c =
    let coding = g.C.Codes.coding c.args.codes.now in
    let found = c.if-is_below.ensures in (
      λ wrong. absurd (search rules),
      λ above. absurd
          (not_both coding c.args.quantity.now found.some_code found.value above),
    )

pub returns-then-is_above-clause-in_range : goal.returns-then-is_above-clause-in_range
returns-then-is_above-clause-in_range g c =
    let coding = g.C.Codes.coding c.args.codes.now in
    let found = c.if-is_above.ensures in (
      λ wrong. absurd (search rules),
      λ in_range. absurd
          (not_above coding c.args.quantity.now in_range.to_greatest found.value),
    )

pub returns-else-is_above-clause-above : goal.returns-else-is_above-clause-above
returns-else-is_above-clause-above g c =
    let coding = g.C.Codes.coding c.args.codes.now in
    let found = c.if-is_above.ensures in
    (λ wrong. absurd (search rules), λ above. absurd (not_above coding c.args.quantity.now found.value above))
