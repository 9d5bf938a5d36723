use Rattle.std.proofs.Common.{take_all, sym, arith, rules}
use Rattle.std.proofs.lemmas.List.{length-take-le}
use Rattle.pmb_import.proofs.follow.kept_name.Goals as goal

pub slice_bounds-result-end : goal.slice_bounds-result-end
slice_bounds-result-end c = sym (length-take-le 65540 c.args.name.now (omega arith))

pub returns-clause-name : goal.returns-clause-name
returns-clause-name c = sym (take_all 65540 c.args.name.now c.if-name-gt-MOST_NAME.false)

pub returns-then-name-gt-MOST_NAME-clause-short : goal.returns-then-name-gt-MOST_NAME-clause-short
returns-then-name-gt-MOST_NAME-clause-short c =
    rw (length-take-le 65540 c.args.name.now (omega arith)) (search rules)
