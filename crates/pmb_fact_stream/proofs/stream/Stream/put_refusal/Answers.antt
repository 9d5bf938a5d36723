use Rattle.std.proofs.Common.{[], ◌∷◌, ap, refl, ◌∙◌}
use Rattle.std.proofs.lemmas.Result.{on_ok_weaker}
use Rattle.pmb_facts.specs.Fact as fact
use Rattle.pmb_io.specs.Count.{capped}
use Rattle.pmb_json_objects.specs.Head.{Head, head_of}
use Rattle.pmb_fact_stream.specs.Before.{Before}
use Rattle.pmb_fact_stream.specs.Spans.{refusal_fact}
use Rattle.pmb_fact_stream.specs.Stream.{stream_profile, stream_time}
use Rattle.pmb_fact_stream.proofs.Adding.{head_as}
use Rattle.pmb_fact_stream.proofs.Putting.{puts_as}
use Rattle.pmb_fact_stream.proofs.stream.Stream.put_refusal.Goals as goal

pub returns-clause-puts : goal.returns-clause-puts
returns-clause-puts g c some front known viable said =
    let stream = c.args.self.now in
    let refusal = c.args.refusal in
    let one = λ (b : Before) (head : Head). refusal_fact b.past head front c.args.event refusal.reason refusal.expected
    ∷ [] in
    on_ok_weaker c.put_fact.result (λ puts.
    puts_as g.K.Keeper.Keeps stream _ _ (λ b. one b (head_of c.head_at-head.result))
    (λ b. one b (head_as (capped b.n) c.args.place (stream_time stream))) _ _ _ _
    (λ b knows. ap (one b) (c.head_at-head.ensures
    ∙ ap (λ at. head_as at c.args.place (stream_time stream)) knows.count)) puts)
    (c.put_fact.ensures.puts some (fact.Refusal front c.args.event refusal.reason refusal.expected) known (record {
      profile = stream_profile stream;
      front = front;
      viable = viable;
      given = said;
      is =
          refl;
    }))
