use Rattle.std.proofs.Common.{[], ◌∷◌, ◌++◌, ◌∙◌, ap, subst, sym}
use Rattle.pmb_partial_packet.specs.Standing.{SaidStandsAt}
use Rattle.pmb_fact_stream.specs.Stream.{stream_profile}
use Rattle.pmb_fact_stream.proofs.stream.Stream.pass.Goals as goal

pub returns-clause-writes : goal.returns-clause-writes
returns-clause-writes c taken stands =
    c.behind-self.ensures (stream_profile c.args.self.now) (taken ++ c.args.event ∷ [])
    (c.after-writes.ensures taken stands)

pub returns-clause-cleared : goal.returns-clause-cleared
returns-clause-cleared c cleared = record {
  said = subst (λ s. SaidStandsAt s []) (sym c.lose.ensures.packet.said) cleared.said;
  begun = ap (λ l. l.items) c.lose.ensures.packet.begun ∙ cleared.begun;
  front = c.lose.ensures.packet.front ∙ cleared.front;
}
