use Rattle.std.proofs.Common.{◌≡◌, ◌∙◌, ℕ, ap, get_or, map, sym}
use Rattle.pmb_command.specs.Parts.{DeviceParts}
use Rattle.pmb_transaction.specs.Transaction.{part_data}
use Rattle.pmb_unknown_start.specs.machine.Keeping.{KeptData, kept_parts}
use Rattle.pmb_unknown_start.proofs.OfEach.{one_written}
use Rattle.pmb_unknown_start.proofs.late.take_parts_at.Goals as goal

pub returns-then-place-kept : goal.returns-then-place-kept
returns-then-place-kept c = λ now keeps.
    let d : DeviceParts = c.in-Some.device.now in
    let before : KeptData = c.index-kept-place.result in
    let at : c.from-place.result ≡ d.address = c.from-place.ensures ∙ c.address.ensures.address in
    one_written c.args.profile.now
    (λ device. kept_parts c.args.start device (map part_data c.args.parts.now) (now device)) now keeps.bus c.args.i d
    (sym c.in-Some.ensures.device) c.args.kept.now keeps before c.take_parts.new.self
    (c.index-kept-place.is ∙ ap (λ (n : ℕ). get_or c.args.kept.now n before) at)
    (λ is. c.take_parts.ensures
    ∙ ap (kept_parts c.args.start d (map part_data c.args.parts.now)) (sym c.index-kept-place.is ∙ is))
    c.from-place.result at
