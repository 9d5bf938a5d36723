use Rattle.std.proofs.Common.{◌+◌, ◌/◌, ◌%◌, [], ◌∷◌, ◌++◌, sym, ◌∙◌, ap, length, length-append, append_assoc, arith}
use Rattle.std.proofs.Common.{rules}
use Rattle.std.specs.Fmt.{decimal}
use Rattle.std.proofs.lemmas.Fmt.{decimal_digit}
use Rattle.pmb_quantity.proofs.TextLemmas.{decimal_pair, decimal_pairs, length-decimal_pairs}
use Rattle.pmb_quantity.proofs.text.+push_number.Goals as goal

pub push_ascii-requires-clause-room : goal.push_ascii-requires-clause-room
push_ascii-requires-clause-room t c =
    let one = ap length (decimal_digit c.args.number (omega arith)) in
    omega arith

pub returns-then-number-lt10 : goal.returns-then-number-lt10
returns-then-number-lt10 t c = rw (decimal_digit c.args.number (omega arith)) c.push_ascii.ensures

pub push_pair-requires-clause-room : goal.push_pair-requires-clause-room
push_pair-requires-clause-room t c =
    let two = ap length (decimal_pair c.args.number (omega arith) (omega arith)) in
    omega arith

pub returns-then-number-lt100 : goal.returns-then-number-lt100
returns-then-number-lt100 t c = rw (decimal_pair c.args.number (omega arith) (omega arith)) c.push_pair.ensures

pub push_number-requires : goal.push_number-requires
push_number-requires t c =
    let step = length-decimal_pairs c.args.number (omega arith) (omega arith) in
    (search rules, omega arith)

pub push_pair-requires-2-clause-room : goal.push_pair-requires-2-clause-room
push_pair-requires-2-clause-room t c =
    let step = length-decimal_pairs c.args.number (omega arith) (omega arith) in
    let written = simp length-append at (ap length c.push_number.ensures) in
    omega arith

pub returns : goal.returns
returns t c =
    let n = c.args.number in
    let pair = (48 + n % 100 / 10) ∷ (48 + n % 100 % 10) ∷ [] in
    c.push_pair-2.ensures ∙ ap (λ bytes. bytes ++ pair) c.push_number.ensures ∙ append_assoc c.args.text.now.bytes
    (decimal (n / 100)) pair ∙ ap (λ ds. c.args.text.now.bytes ++ ds)
    (sym (decimal_pairs n (omega arith) (omega arith)))
