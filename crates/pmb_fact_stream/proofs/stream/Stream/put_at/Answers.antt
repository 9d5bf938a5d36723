use Rattle.std.proofs.Common.{[], ◌∷◌, ap, map, sym, ◌∙◌}
use Rattle.std.proofs.lemmas.Result.{on_ok_weaker}
use Rattle.pmb_json_objects.specs.Head.{Head, head_of}
use Rattle.pmb_keeper.specs.Setting.{before_fact, fact_seen}
use Rattle.pmb_fact_stream.specs.Stream.{stream_time}
use Rattle.pmb_fact_stream.specs.machine.Begun.{kept_at, kept_fact}
use Rattle.pmb_fact_stream.specs.machine.Knowing.{stream_seen}
use Rattle.pmb_fact_stream.proofs.Putting.{puts_as, puts_none}
use Rattle.pmb_fact_stream.proofs.stream.Stream.put_at.Goals as goal

-- a START that isn't kept has no fact
pub returns-in_default-clause-puts : goal.returns-in_default-clause-puts
returns-in_default-clause-puts g c some what known stands =
    let stream = c.args.self.now in
    puts_as g.K.Keeper.Keeps stream _ _ (λ b. [])
    (λ b. kept_at (before_fact b.past what) (stream_time stream) c.args.index stream.begun.items what) _ _ _ _
    (λ b knows. ap (map (kept_fact (before_fact b.past what) (stream_time stream) what)) (sym c.in_default.ensures))
    (puts_none g.K.Keeper.Keeps stream _ _ _)

pub returns-clause-puts : goal.returns-clause-puts
returns-clause-puts g c some what known stands =
    let stream = c.args.self.now in
    on_ok_weaker c.put_fact.result (λ puts.
    puts_as g.K.Keeper.Keeps stream _ _
    (λ b. fact_seen (stream_seen stream b) (head_of c.head-head.result) what ∷ [])
    (λ b. kept_at (before_fact b.past what) (stream_time stream) c.args.index stream.begun.items what) _ _ _ _
    (λ b knows. ap (λ (head : Head). fact_seen (stream_seen stream b) head what ∷ []) c.head-head.ensures
    ∙ ap (map (kept_fact (before_fact b.past what) (stream_time stream) what)) (sym c.in-Some.ensures)) puts)
    (c.put_fact.ensures.puts some what known stands)
