use Rattle.std.proofs.Common.{◌∙◌, ℕ, ap, sym, arith, get_or}
use Rattle.pmb_transaction.proofs.ByAddress.{placed, told_at, untold}
use Rattle.pmb_unknown_start.specs.machine.Keeping.{KeptData, kept_bytes}
use Rattle.pmb_unknown_start.proofs.late.take_read.Goals as goal

pub returns-in_default : goal.returns-in_default
returns-in_default c = λ now keeps.
    untold c.args.kept.now c.args.profile.now now keeps c.args.addr
    (λ device. kept_bytes device c.args.code c.args.bytes.now) c.in_default.ensures.device

pub returns-then-place-kept : goal.returns-then-place-kept
returns-then-place-kept c = λ now keeps.
    let before : KeptData = c.index-kept-place.result in
    told_at c.args.kept.now c.args.profile.now now keeps c.args.addr
    (λ device. kept_bytes device c.args.code c.args.bytes.now) c.in-Some.device.now
    before c.take.new.self c.in-Some.ensures.device
    (c.index-kept-place.is ∙ ap (λ (n : ℕ). get_or c.args.kept.now n before) c.from-place.ensures)
    (c.take.ensures ∙ ap (kept_bytes c.in-Some.device.now c.args.code c.args.bytes.now) (sym c.index-kept-place.is))
    c.from-place.result c.from-place.ensures

pub returns-else-place-kept : goal.returns-else-place-kept
returns-else-place-kept c = λ now keeps.
    let within = placed c.args.kept.now c.args.profile.now now keeps c.args.addr c.in-Some.device.now
    c.in-Some.ensures.device in
    absurd (omega (arith, within, c.from-place.ensures, c.if-place-kept.false))
