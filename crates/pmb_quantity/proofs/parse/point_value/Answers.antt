use Rattle.std.proofs.Common.{Ok, sym, ap, ◌∙◌, arith}
use Rattle.pmb_quantity.proofs.ReadingLemmas.{few_in_both, point-short, point-long, point-is}
use Rattle.pmb_quantity.proofs.parse.point_value.Goals as goal

pub returns-then-len-le-SHORT_LEN : goal.returns-then-len-le-SHORT_LEN
returns-then-len-le-SHORT_LEN c =
    let front = c.args.front.now in
    let kept = c.without_last_zeros-back.result.now in
    let small = few_in_both front kept c.requires.front c.without_last_zeros-back.ensures.digits (omega arith) in
    ap Ok c.short_value.ensures ∙ sym (point-short front c.args.back.now kept c.without_last_zeros-back.ensures.value
    (omega arith) (omega (arith, small)))

pub returns-then-back : goal.returns-then-back
returns-then-back c =
    sym (point-long c.args.front.now c.args.back.now c.without_last_zeros-back.result.now
    c.without_last_zeros-back.ensures.value c.if-back.true)

pub returns : goal.returns
returns c =
    c.long_value.ensures ∙ sym (point-is c.args.front.now c.args.back.now c.without_last_zeros-back.result.now
    c.without_last_zeros-back.ensures.value (omega arith))
