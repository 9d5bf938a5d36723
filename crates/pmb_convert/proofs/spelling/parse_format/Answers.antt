use Rattle.std.proofs.Common.{true, false, codes, refl, sym, ◌∙◌}
use Rattle.std.proofs.lemmas.Slice.Eq.{bytes_eq-Decides}
use Rattle.pmb_convert.specs.Spelling.{spelled, linear11, half}
use Rattle.pmb_convert.proofs.Sayings.{names_fixed, names_unsigned, names_signed, names_vout, names_vid}
use Rattle.pmb_convert.proofs.Sayings.{names_direct}
use Rattle.pmb_convert.proofs.spelling.parse_format.Goals as goal

pub returns-then-eq : goal.returns-then-eq
returns-then-eq c = spelled linear11 ((bytes_eq-Decides c.args.text.now (codes "linear11")).0
    (sym c.eq.ensures ∙ c.if-eq.true)) refl

pub returns-in-Some : goal.returns-in-Some
returns-in-Some c = names_fixed c.args.text.now c.in-Some.exponent.now _ c.in-Some.ensures c.linear11_fixed.ensures

pub returns-in-Some-without_prefix : goal.returns-in-Some-without_prefix
returns-in-Some-without_prefix c = names_unsigned c.args.text.now c.in-Some-without_prefix.exponent.now _
    c.in-Some-without_prefix.ensures c.ulinear16.ensures

pub returns-in-Some-without_prefix-2 : goal.returns-in-Some-without_prefix-2
returns-in-Some-without_prefix-2 c = names_signed c.args.text.now c.in-Some-without_prefix-2.exponent.now _
    c.in-Some-without_prefix-2.ensures c.slinear16.ensures

pub returns-in-Some-without_prefix-3 : goal.returns-in-Some-without_prefix-3
returns-in-Some-without_prefix-3 c = names_vout c.args.text.now c.in-Some-without_prefix-3.mode.now _
    c.in-Some-without_prefix-3.ensures c.vout.ensures

pub returns-then-eq-2 : goal.returns-then-eq-2
returns-then-eq-2 c = spelled half ((bytes_eq-Decides c.args.text.now (codes "half")).0
    (sym c.eq-2.ensures ∙ c.if-eq-2.true)) refl

pub returns-in-Some-without_prefix-4 : goal.returns-in-Some-without_prefix-4
returns-in-Some-without_prefix-4 c = names_vid c.args.text.now c.in-Some-without_prefix-4.name.now _
    c.in-Some-without_prefix-4.ensures c.vid.ensures

pub returns-in-Some-without_prefix-5 : goal.returns-in-Some-without_prefix-5
returns-in-Some-without_prefix-5 c = names_direct false c.args.text.now c.in-Some-without_prefix-5.numbers.now _
    c.in-Some-without_prefix-5.ensures c.direct.ensures

pub returns-in-Some-without_prefix-6 : goal.returns-in-Some-without_prefix-6
returns-in-Some-without_prefix-6 c = names_direct true c.args.text.now c.in-Some-without_prefix-6.numbers.now _
    c.in-Some-without_prefix-6.ensures c.direct-in-Some-without_prefix-6.ensures
