use Rattle.pmb_host.proofs.Making.{asked_suits}
use Rattle.pmb_host.proofs.laws.signals_are_few.Goals as goal

pub returns : goal.returns
returns c = λ profile request word number bytes bus allowed all.
    (asked_suits profile bus request word number allowed).few bytes all
