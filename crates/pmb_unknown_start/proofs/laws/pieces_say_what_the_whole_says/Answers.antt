use Rattle.pmb_transaction.proofs.Known.{device_is}
use Rattle.pmb_unknown_start.proofs.Cutting.{mode_at, page_at}
use Rattle.pmb_unknown_start.proofs.LastPhase.{phase_at}
use Rattle.pmb_unknown_start.proofs.laws.pieces_say_what_the_whole_says.Goals as goal

pub returns-clause-mode : goal.returns-clause-mode
returns-clause-mode c profile start before piece addr bus so = mode_at profile start before piece addr
    (λ device found. (device_is profile addr device bus found).0) so

pub returns-clause-page : goal.returns-clause-page
returns-clause-page c profile start before piece addr number late is =
    page_at profile start before piece addr number late is

pub returns-clause-phase : goal.returns-clause-phase
returns-clause-phase c = phase_at
