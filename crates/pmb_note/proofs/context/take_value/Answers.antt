use Rattle.std.proofs.Common.{◌∙◌, ℕ, [], ◌∷◌, ap, sym, arith, get_or}
use Rattle.pmb_transaction.proofs.ByAddress.{placed, told_at, untold}
use Rattle.pmb_note.specs.Paging.{after_bytes, after_value}
use Rattle.pmb_note.proofs.context.take_value.Goals as goal

pub returns-in_default : goal.returns-in_default
returns-in_default c = λ now keeps.
    untold c.args.pagings.now c.args.profile.now now keeps c.args.addr
    (λ device. after_bytes device c.args.code (c.args.value ∷ [])) c.in_default.ensures.device

pub returns-then-place-pagings : goal.returns-then-place-pagings
returns-then-place-pagings c = λ now keeps.
    told_at c.args.pagings.now c.args.profile.now now keeps c.args.addr
    (λ device. after_bytes device c.args.code (c.args.value ∷ [])) c.in-Some.device.now
    c.index-pagings-place.result c.take.new.self c.in-Some.ensures.device
    (c.index-pagings-place.is ∙ ap (λ (n : ℕ). get_or c.args.pagings.now n c.index-pagings-place.result)
    c.from-place.ensures)
    (c.take.ensures ∙ ap (after_value c.in-Some.device.now c.args.code c.args.value) (sym c.index-pagings-place.is))
    c.from-place.result c.from-place.ensures

pub returns-else-place-pagings : goal.returns-else-place-pagings
returns-else-place-pagings c = λ now keeps.
    let within = placed c.args.pagings.now c.args.profile.now now keeps c.args.addr c.in-Some.device.now
    c.in-Some.ensures.device in
    absurd (omega (arith, within, c.from-place.ensures, c.if-place-pagings.false))
