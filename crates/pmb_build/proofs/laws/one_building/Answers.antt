use Rattle.std.proofs.Common.{ℕ, List}
use Rattle.pmb_io.specs.Lines.{lines_of}
use Rattle.pmb_line.specs.declared.line_fault.LineFault.{LineFault}
use Rattle.pmb_transaction.specs.Transaction.{TransactionData}
use Rattle.pmb_build.specs.Answer.{most_build_line}
use Rattle.pmb_build.proofs.OneBuilding.{one_tally, one_text}
use Rattle.pmb_build.proofs.laws.one_building.Goals as goal

pub returns : goal.returns
returns c profile bytes a b s t bus x y =
    let packets = c.one_packet.ensures profile in
    let faults = c.one_line_fault.ensures profile in
    let parses = λ (line : List ℕ) (why : LineFault) (u : TransactionData). c.no_parse_with_a_fault.ensures profile line
    why u bus in
    let given = lines_of most_build_line bytes in (
      one_text profile c.one_transaction.ensures packets faults parses given a b x.given y.given,
      one_tally profile c.one_transaction.ensures packets faults parses given a b s t x y,
    )
