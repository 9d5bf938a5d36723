use Rattle.std.proofs.Common.{[], ◌∷◌, ap, refl, ◌∙◌}
use Rattle.std.proofs.lemmas.Result.{on_ok_weaker}
use Rattle.pmb_facts.specs.Fact as fact
use Rattle.pmb_io.specs.Count.{capped}
use Rattle.pmb_json_objects.specs.Head.{Head, head_of}
use Rattle.pmb_fact_stream.specs.Spans.{other_fact}
use Rattle.pmb_fact_stream.specs.Stream.{stream_time}
use Rattle.pmb_fact_stream.proofs.Adding.{head_as}
use Rattle.pmb_fact_stream.proofs.Putting.{puts_as}
use Rattle.pmb_fact_stream.proofs.stream.Stream.put_other.Goals as goal

pub returns-clause-puts : goal.returns-clause-puts
returns-clause-puts g c some known =
    let stream = c.args.self.now in
    on_ok_weaker c.put_fact.result (λ puts.
    puts_as g.K.Keeper.Keeps stream _ _ (λ b. other_fact (head_of c.head_at-head.result) c.args.addr ∷ [])
    (λ b. other_fact (head_as (capped b.n) c.args.place (stream_time stream)) c.args.addr ∷ []) _ _ _ _
    (λ b knows. ap (λ (head : Head). other_fact head c.args.addr ∷ []) (c.head_at-head.ensures
    ∙ ap (λ at. head_as at c.args.place (stream_time stream)) knows.count)) puts)
    (c.put_fact.ensures.puts some (fact.Other c.args.addr) known refl)
