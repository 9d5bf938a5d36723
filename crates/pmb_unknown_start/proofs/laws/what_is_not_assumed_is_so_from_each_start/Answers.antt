use Rattle.pmb_command.specs.Parts.{device_with}
use Rattle.pmb_transaction.proofs.Known.{device_is}
use Rattle.pmb_unknown_start.proofs.Assumed.{mode_stays, page_known}
use Rattle.pmb_unknown_start.proofs.laws.what_is_not_assumed_is_so_from_each_start.Goals as goal

pub returns-clause-mode : goal.returns-clause-mode
returns-clause-mode c profile start past addr bus = mode_stays start past (device_with addr profile)
    (λ device found. (device_is profile addr device bus found).0)

pub returns-clause-page : goal.returns-clause-page
returns-clause-page c profile start past addr number told =
    page_known start past number (device_with addr profile) told
