use Rattle.std.proofs.Common.{List, [], ℕ, subst, sym}
use Rattle.pmb_fact_stream.specs.Choice.{choice_data}
use Rattle.pmb_telling.specs.Tell.{WritesToldFront}
use Rattle.pmb_telling.specs.Teller.{TellerStands}
use Rattle.pmb_capture_reader.proofs.reader.CaptureReader.new.Goals as goal

pub returns-clause-stands : goal.returns-clause-stands
returns-clause-stands c =
    let choice = choice_data c.args.choice in
    let profile = c.args.profile.now in
    let after = c.args.bad_words in
    let teller = c.in_ok-teller.teller in
    let stands = c.in_ok-teller.ensures in record {
      tells = subst (λ (l : List ℕ). WritesToldFront choice profile after [] l) (sym c.new-queue.ensures.left)
          (c.tellers_have_told.ensures choice profile after teller [] [] stands);
      teller = λ more. subst (λ (l : List ℕ). TellerStands choice profile after teller [] l)
          (sym c.new-queue.ensures.left) stands;
    }
