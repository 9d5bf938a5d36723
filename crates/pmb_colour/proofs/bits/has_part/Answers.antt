use Rattle.std.proofs.Common.{◌∙◌, ℕ, List, ap, nat_eq, sym}
use Rattle.std.specs.List.{starts_with}
use Rattle.std.proofs.lemmas.List.{take_rest}
use Rattle.pmb_colour.proofs.Parts.{part_later}
use Rattle.pmb_colour.proofs.bits.has_part.Goals as goal

pub loop-index-preserved : goal.loop-index-preserved
loop-index-preserved c =
    let part = c.args.part.now in
    let text = c.args.text.now in
    let i = c.loop-index.index in
    part_later part text i c.loop-index-test.true
    (sym (ap (λ (t : List ℕ). starts_with nat_eq t part) (take_rest text i))
    ∙ (sym c.starts_with.ensures.value ∙ c.if-starts_with.false))
    ∙ c.loop-index.invariant
