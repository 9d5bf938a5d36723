use Rattle.pmb_unknown_start.proofs.Reached.{mode_reached, page_reached}
use Rattle.pmb_unknown_start.proofs.laws.what_may_be_reached_stays_known.Goals as goal

pub returns-clause-mode : goal.returns-clause-mode
returns-clause-mode c start device p past rest ts begin reach none =
    mode_reached start device p past rest ts begin reach none

pub returns-clause-page : goal.returns-clause-page
returns-clause-page c start device p past rest ts page begin reach none told =
    page_reached start device p past rest ts begin reach none page told
