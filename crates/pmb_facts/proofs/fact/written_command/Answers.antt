use Rattle.std.proofs.Common.{Some, ap, ◌∙◌}
use Rattle.pmb_partial_packet.specs.PartialPacket.{sent}
use Rattle.pmb_facts.specs.Fact.{written_command}
use Rattle.pmb_facts.proofs.fact.written_command.Goals as goal

pub returns-in_default-sent : goal.returns-in_default-sent
returns-in_default-sent c = λ profile front viable stands.
    ap (written_command (Some c.in-Some.addr)) (c.in_default-sent.ensures.bytes profile front viable stands)
    ∙ ap (λ addr. written_command addr (sent front)) (c.in-Some.ensures front stands)

pub returns : goal.returns
returns c = λ profile front viable stands.
    c.sent_command.ensures
    ∙ ap (written_command (Some c.in-Some.addr)) (c.in-Some-sent.ensures.bytes profile front viable stands)
    ∙ ap (λ addr. written_command addr (sent front)) (c.in-Some.ensures front stands)
