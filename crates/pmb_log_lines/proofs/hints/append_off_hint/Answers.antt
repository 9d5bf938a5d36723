use Rattle.std.proofs.Common.{◌&&◌, ap, ◌∙◌, arith}
use Rattle.pmb_partial_packet.specs.PartialPacket.{written_to}
use Rattle.pmb_log_lines.specs.Refusals.{device_of, has_off, if_so, off_hint}
use Rattle.pmb_log_data.proofs.Texts.{at_most, called}
use Rattle.pmb_log_lines.proofs.hints.append_off_hint.Goals as goal

pub returns-clause-says : goal.returns-clause-says
returns-clause-says g c = λ known profile front sees viable stands.
    let off = c.has_off.ensures
    ∙ ap has_off (c.device_of.ensures known sees ∙ ap (device_of known) (c.written_to.ensures front stands)) in
    called (ap (λ first. if_so (first && c.is_leg_byte.result) off_hint) off
    ∙ ap (λ second. if_so (has_off (device_of known (written_to front)) && second) off_hint)
    (c.is_leg_byte.ensures profile front viable stands))
    (at_most 60 (omega arith) c.append_if_both.ensures)
