use Rattle.std.proofs.Common.{ap, sym, ◌∙◌, option_map}
use Rattle.pmb_partial_packet.specs.PartialPacket.{reply, sent, written_to}
use Rattle.pmb_log_lines.specs.Refusals.{is_leg_event, is_unread_code}
use Rattle.pmb_log_lines.proofs.hints.is_leg_event.Goals as goal

pub returns-in-Byte : goal.returns-in-Byte
returns-in-Byte c = λ profile front viable stands.
    let byte = c.in-Byte.byte in
    c.is_unread_code.ensures
    ∙ ap (λ r. is_unread_code r c.written_to.result (option_map (λ bytes. bytes.now) c.sent.result) byte)
    (c.reply.ensures.bytes profile front viable stands)
    ∙ ap (λ a. is_unread_code (reply front) a (option_map (λ bytes. bytes.now) c.sent.result) byte)
    (c.written_to.ensures front stands)
    ∙ ap (λ s. is_unread_code (reply front) (written_to front) s byte)
    (c.sent.ensures.bytes profile front viable stands)
    ∙ ap (is_leg_event (written_to front) (sent front) (reply front)) (sym c.in-Byte.is)
