use Rattle.std.proofs.Common.{refl}
use Rattle.pmb_transaction.proofs.Onwards.{captures_go_on}
use Rattle.pmb_transaction.proofs.reading.captures_go_on.Goals as goal

pub returns : goal.returns
returns c = λ profile ts done whole front event more capture read going.
    captures_go_on profile done ts whole front event more _ capture refl read going
