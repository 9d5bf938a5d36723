use Rattle.pmb_line.proofs.Lines.{noted_line_spells}
use Rattle.pmb_line.proofs.Packets.{has_bytes, has_line}
use Rattle.pmb_line.proofs.laws.comments_say_nothing.Goals as goal

pub returns : goal.returns
returns c profile t events comment bus packet = noted_line_spells t comment (has_line profile bus t events packet)
    (has_bytes profile bus t events packet)
