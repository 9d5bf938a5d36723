use Rattle.std.proofs.Common.{subst, sym}
use Rattle.pmb_command.specs.Bus.{IsBus}
use Rattle.pmb_telling.specs.Tell.{WritesToldFront}
use Rattle.pmb_telling.proofs.Telling.{named}
use Rattle.pmb_telling.proofs.capture_teller.tellers_have_told.Goals as goal

pub returns : goal.returns
returns c choice profile after teller given told stands =
    named (λ k p a. WritesToldFront k p a given told) stands.start choice profile after stands.same_choice
    stands.same_profile stands.same_after
    (c.fronts_are_written.ensures stands.start teller.teller.value given told
    (subst IsBus (sym stands.same_profile) stands.accepted) stands.put_out)
