use Rattle.std.proofs.Common.{ap, sym, ◌∙◌}
use Rattle.pmb_partial_packet.specs.PartialPacket.{reply, sent, written_to}
use Rattle.pmb_log_lines.specs.Refusals.{is_leg_byte}
use Rattle.pmb_log_lines.proofs.hints.is_leg_byte.Goals as goal

pub returns-in-Some : goal.returns-in-Some
returns-in-Some c = λ profile front viable stands.
    c.is_leg_event.ensures profile front viable stands
    ∙ ap (is_leg_byte (written_to front) (sent front) (reply front)) (sym c.in-Some.is)
