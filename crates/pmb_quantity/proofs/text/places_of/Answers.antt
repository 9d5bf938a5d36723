use Rattle.std.proofs.Common.{◌-◌, Some, sym, ap, ◌∙◌, arith}
use Rattle.std.specs.Int.{w64, trailing_zeros}
use Rattle.pmb_quantity.proofs.Places.{places_none, places_same, places_of_parts, places_of_many}
use Rattle.pmb_quantity.proofs.text.places_of.Goals as goal

pub returns-then-rest-ne1-clause-value : goal.returns-then-rest-ne1-clause-value
returns-then-rest-ne1-clause-value c =
    sym (places_none c.args.denominator c.without_fives-rest.result.0 c.without_fives-rest.result.1 c.requires
    (omega arith) c.without_fives-rest.ensures.value c.without_fives-rest.ensures.lowest c.if-rest-ne1.true)

pub returns-then-places-le-PLACES-clause-value : goal.returns-then-places-le-PLACES-clause-value
returns-then-places-le-PLACES-clause-value c =
    let d = c.args.denominator in
    ap Some c.max-places.ensures ∙ sym (places_same d c.without_fives-rest.result.0 c.without_fives-rest.result.1
    c.requires (omega arith) c.without_fives-rest.ensures.value c.without_fives-rest.ensures.lowest
    c.if-rest-ne1.false ∙ places_of_parts (trailing_zeros w64 d) (28 - c.without_fives-rest.result.1) (omega arith))

pub returns-else-places-le-PLACES-clause-value : goal.returns-else-places-le-PLACES-clause-value
returns-else-places-le-PLACES-clause-value c =
    let d = c.args.denominator in
    sym (places_same d c.without_fives-rest.result.0 c.without_fives-rest.result.1 c.requires
    (omega arith) c.without_fives-rest.ensures.value c.without_fives-rest.ensures.lowest c.if-rest-ne1.false
    ∙ places_of_many (trailing_zeros w64 d) (28 - c.without_fives-rest.result.1) (omega arith))
