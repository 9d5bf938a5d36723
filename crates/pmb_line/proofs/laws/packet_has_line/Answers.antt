use Rattle.pmb_line.specs.Words.{texts, line_words}
use Rattle.pmb_line.specs.Spelling.{line}
use Rattle.pmb_line.proofs.Lines.{line_spells}
use Rattle.pmb_line.proofs.Packets.{has_bytes, has_line}
use Rattle.pmb_line.proofs.Uniqueness.{one_transaction}
use Rattle.pmb_line.proofs.laws.packet_has_line.Goals as goal

pub returns-clause-spells : goal.returns-clause-spells
returns-clause-spells c profile t events bus packet = line_spells t (has_line profile bus t events packet)
    (has_bytes profile bus t events packet)

pub returns-clause-alone : goal.returns-clause-alone
returns-clause-alone c profile t u events bus packet other =
    one_transaction (texts (line_words (line t))) t u
    (line_spells t (has_line profile bus t events packet) (has_bytes profile bus t events packet)) other
