use Rattle.std.proofs.Common.{None, Some}
use Rattle.pmb_unknown_start.specs.declared.mode.KnownMode.TheVariants.{Known, NoPage}
use Rattle.pmb_unknown_start.specs.Taken.{as_taken}
use Rattle.pmb_unknown_start.proofs.Telling.{certain_mode, certain_page}
use Rattle.pmb_unknown_start.proofs.laws.what_is_known_is_certain.Goals as goal

pub returns-clause-mode : goal.returns-clause-mode
returns-clause-mode c start device past mode is p q begin reach =
    certain_mode start device (as_taken device past) p q begin reach (Some mode) (Known mode) is (λ so. so)

pub returns-clause-no_mode : goal.returns-clause-no_mode
returns-clause-no_mode c start device past is p q begin reach =
    certain_mode start device (as_taken device past) p q begin reach None NoPage is (λ so. so)

pub returns-clause-page : goal.returns-clause-page
returns-clause-page c start device past page is p q begin reach = certain_page start device (as_taken device past) p q begin reach page is
