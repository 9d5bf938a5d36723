use Rattle.std.proofs.Common.{ℕ, ◌/◌, ◌%◌, ◌^◌, ◌<◌, subst, sym}
use Rattle.pmb_meaning.proofs.BitLemmas.{one_shifted, remainder_small}
use Rattle.pmb_meaning.proofs.bits.picked.Goals as goal

pub returns-clause-small : goal.returns-clause-small
returns-clause-small c =
    let n = c.args.number / 2 ^ c.args.low in
    subst (λ (m : ℕ). n % m < 2 ^ 24) (sym (one_shifted c.args.width c.requires.width))
    (remainder_small n c.args.width c.requires.width)
