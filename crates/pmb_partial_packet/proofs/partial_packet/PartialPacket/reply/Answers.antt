use Rattle.std.proofs.Common.{ap, reverse, sym, ◌∙◌, List, ℕ, Some}
use Rattle.pmb_partial_packet.specs.PartialPacket.{legs}
use Rattle.pmb_partial_packet.proofs.Answers.{reply_is, short_backwards}
use Rattle.pmb_partial_packet.proofs.partial_packet.PartialPacket.reply.Goals as goal

pub returns-in-Read-clause-bytes : goal.returns-in-Read-clause-bytes
returns-in-Read-clause-bytes c = λ profile events viable stands.
    ap (λ (bs : List ℕ). Some bs) c.reply.ensures.bytes
    ∙ reply_is c.args.self.now.legs (reverse (legs events)) stands.legs
    (short_backwards (legs events) (c.legs_are_short.ensures profile events viable))
    (sym c.last.ensures ∙ c.in-Read.is)
