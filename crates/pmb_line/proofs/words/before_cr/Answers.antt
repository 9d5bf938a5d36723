use Rattle.std.proofs.Common.{◌≡◌, ◌-◌, suc, length, get_or, arith}
use Rattle.std.proofs.lemmas.Bool.Decides.{nat_tests}
use Rattle.pmb_line.proofs.WordLemmas.{cr_left_out, no_cr, no_line}
use Rattle.pmb_line.proofs.words.before_cr.Goals as goal

pub returns-then-len-eq0 : goal.returns-then-len-eq0
returns-then-len-eq0 c = no_line c.args.line.now (omega arith)

pub returns-then-line-len-eq13 : goal.returns-then-line-len-eq13
returns-then-line-len-eq13 c =
    let long : length c.args.line.now ≡ suc (length c.args.line.now - 1) = omega arith in
    let last : get_or c.args.line.now (length c.args.line.now - 1) 0 ≡ 13 = grind (arith, nat_tests) in
    cr_left_out (length c.args.line.now - 1) c.args.line.now long last

pub returns-else-line-len-eq13 : goal.returns-else-line-len-eq13
returns-else-line-len-eq13 c =
    let long : length c.args.line.now ≡ suc (length c.args.line.now - 1) = omega arith in
    no_cr (length c.args.line.now - 1) c.args.line.now long (λ last. absurd (omega (arith, last)))
