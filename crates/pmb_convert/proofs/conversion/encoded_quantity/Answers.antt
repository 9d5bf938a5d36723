use Rattle.std.proofs.Common.{refl}
use Rattle.pmb_convert.specs.Answer.{nearest}
use Rattle.pmb_convert.proofs.conversion.encoded_quantity.Goals as goal

pub returns-in-Ok : goal.returns-in-Ok
returns-in-Ok c =
    let told = c.in-Ok.ensures in
    nearest c.in-Ok.code told.nearest (told.in_range.0 refl) refl
