use Rattle.std.proofs.Common.{◌≡◌, ℕ, not, map, length, ap, ◌∙◌, arith}
use Rattle.std.proofs.lemmas.Bool.Decides.{nat_tests}
use Rattle.std.proofs.lemmas.List.{length-map, length-take, length-drop}
use Rattle.pmb_transaction.specs.Transaction.{part_data}
use Rattle.pmb_line.proofs.Legs.{no_room_for}
use Rattle.pmb_line.proofs.refused.push_part.Goals as goal

pub returns-then-is_full : goal.returns-then-is_full
returns-then-is_full c =
    let long : length c.args.parts.now.items ≡ 15 = grind (arith, nat_tests) in
    no_room_for (map part_data c.args.parts.now.items) c.args.sent.now c.args.at c.in-len1-up.len_at_least
    (λ code bs split few. absurd (omega (arith, length-map c.args.parts.now.items part_data, long, few)))

pub returns-then-is_err : goal.returns-then-is_err
returns-then-is_err c =
    no_room_for (map part_data c.args.parts.now.items) c.args.sent.now c.args.at c.in-len1-up.len_at_least
    (λ code bs split few few_bytes.
    let long = ap length split in
    let fitted = c.try_extend_from_slice.ensures.variant.1
    (omega (arith, ap length c.new-bytes.ensures, length-take {A = ℕ}, length-drop {A = ℕ}, long, few_bytes)) in
    let failed = c.is_err.ensures.negation ∙ ap not c.if-is_err.true in
    cc (fitted, failed))
