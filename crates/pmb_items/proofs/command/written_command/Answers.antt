-- By the address and the bytes that the packet under way tells.
use Rattle.std.proofs.Common.{Some, ap, ◌∙◌}
use Rattle.pmb_partial_packet.specs.PartialPacket.{sent}
use Rattle.pmb_items.specs.Command.{written_command}
use Rattle.pmb_items.proofs.command.written_command.Goals as goal

pub returns-in_default-sent : goal.returns-in_default-sent
returns-in_default-sent c = λ known profile front sees viable stands.
    c.no_command-in_default-sent.ensures
    ∙ ap (written_command known (Some c.in-Some.addr)) (c.in_default-sent.ensures.bytes profile front viable stands)
    ∙ ap (λ addr. written_command known addr (sent front)) (c.in-Some.ensures front stands)

pub returns : goal.returns
returns c = λ known profile front sees viable stands.
    c.sent_command.ensures known sees
    ∙ ap (written_command known (Some c.in-Some.addr)) (c.in-Some-sent.ensures.bytes profile front viable stands)
    ∙ ap (λ addr. written_command known addr (sent front)) (c.in-Some.ensures front stands)
