use Rattle.std.proofs.Common.{◌≡◌, ◌-◌, ◌*◌, ◌/◌, ◌%◌, ◌^◌, pos, sym, ap, ◌∙◌, arith}
use Rattle.std.specs.Int.{w64, trailing_zeros}
use Rattle.std.proofs.lemmas.Nat.{one_shl}
use Rattle.pmb_quantity.specs.Fraction.{gcd, lowest_terms}
use Rattle.pmb_quantity.specs.Quantity.{fitted}
use Rattle.pmb_quantity.proofs.FractionLemmas.{IsGcd-gcd, gcd_positive, gcd-quotients, quotient_positive}
use Rattle.pmb_quantity.proofs.Twos.{few_twos, halved_coprime, halved_lowest}
use Rattle.pmb_quantity.proofs.quantity.Quantity.from_words.Goals as goal

pub from_lowest-requires-clause-lowest : goal.from_lowest-requires-clause-lowest
from_lowest-requires-clause-lowest c =
    let n = c.args.numerator in
    let h = trailing_zeros w64 c.args.denominator in
    let t = c.common_halvings-common.result in
    rw (one_shl (h - t) 64 (omega (arith, few_twos c.args.denominator c.requires (omega arith))))
    (halved_coprime n h t c.common_halvings-common.ensures.few c.common_halvings-common.ensures.value)

pub returns-then-denominator-halvings : goal.returns-then-denominator-halvings
returns-then-denominator-halvings c =
    let n = c.args.numerator in
    let h = trailing_zeros w64 c.args.denominator in
    let t = c.common_halvings-common.result in
    let few = few_twos c.args.denominator c.requires (omega arith) in
    let power : c.args.denominator ≡ 2 ^ h = c.if-denominator-halvings.true ∙ one_shl h 64 few in
    let rest : 1 * 2 ^ (h - t) % 2 ^ 64 ≡ 2 ^ (h - t) = one_shl (h - t) 64 (omega (arith, few)) in
    let halved = halved_lowest n h t c.common_halvings-common.ensures.few c.common_halvings-common.ensures.value in
    c.from_lowest.ensures ∙ ap (λ x. fitted (record { numerator = pos (n / 2 ^ t); denominator = x })) rest
    ∙ ap fitted (sym halved) ∙ ap (λ x. fitted (lowest_terms (pos n) x)) (sym power)

pub nonzero_div-numerator : goal.nonzero_div-numerator
nonzero_div-numerator c = rw c.gcd_of_words-divisor.ensures
    (gcd_positive c.args.numerator c.args.denominator c.requires)

pub nonzero_div-denominator : goal.nonzero_div-denominator
nonzero_div-denominator c = rw c.gcd_of_words-divisor.ensures
    (gcd_positive c.args.numerator c.args.denominator c.requires)

pub from_lowest-requires-2-clause-positive : goal.from_lowest-requires-2-clause-positive
from_lowest-requires-2-clause-positive c =
    let n = c.args.numerator in
    let d = c.args.denominator in
    rw c.gcd_of_words-divisor.ensures (quotient_positive d (gcd n d) c.requires (IsGcd-gcd n d).1)

pub from_lowest-requires-2-clause-lowest : goal.from_lowest-requires-2-clause-lowest
from_lowest-requires-2-clause-lowest c =
    rw c.gcd_of_words-divisor.ensures (gcd-quotients c.args.numerator c.args.denominator c.requires)
