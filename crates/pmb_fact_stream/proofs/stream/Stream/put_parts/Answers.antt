use Rattle.std.proofs.Common.{◌≡◌, [], ◌∷◌, ◌++◌, ◌+◌, ap, sym, ◌∙◌, refl, map, take, drop, add-one, arith}
use Rattle.std.proofs.lemmas.List.{length-map}
use Rattle.pmb_facts.specs.Fact as fact
use Rattle.pmb_transaction.specs.Transaction.{part_data}
use Rattle.pmb_fact_stream.specs.Stream.{stream_time}
use Rattle.pmb_fact_stream.specs.machine.Begun.{kept_writes}
use Rattle.pmb_fact_stream.proofs.Lists.{got}
use Rattle.pmb_fact_stream.proofs.Putting.{puts_as, puts_both, puts_none}
use Rattle.pmb_fact_stream.proofs.Starts.{all_writes, one_more_write, one_write}
use Rattle.pmb_fact_stream.proofs.stream.Stream.put_parts.Goals as goal

pub loop-index-init : goal.loop-index-init
loop-index-init g c = record { failures = refl; puts = λ some known. puts_none g.K.Keeper.Keeps c.args.self.now _ _ _ }

pub loop-index-preserved : goal.loop-index-preserved
loop-index-preserved g c = record {
  failures = c.in_ok-put_at.ensures.failed ∙ c.loop-index.invariant.failures;
  puts = λ some known.
      let stream = c.args.self.now in
      let i = c.loop-index.index in
      let parts = map part_data c.args.parts.now in
      let part = c.index-parts-index.result in
      let number : 1 + i ≡ i + 1 = omega arith in
      puts_as g.K.Keeper.Keeps stream _ _
      (λ b. kept_writes b.past (stream_time stream) 1 c.args.count (take i stream.begun.items)
      (take i parts)
      ++ kept_writes b.past (stream_time stream) (i + 1) c.args.count
      (take 1 (drop i stream.begun.items))
      (part_data part ∷ []))
      (λ b. kept_writes b.past (stream_time stream) 1 c.args.count (take (i + 1) stream.begun.items)
      (take (i + 1) parts)) _
      _ _ _
      (λ b knows. sym (ap (λ k. kept_writes b.past (stream_time stream) 1 c.args.count
      (take k stream.begun.items) (take k parts))
      (add-one i)
      ∙ one_more_write b.past (stream_time stream) 1 c.args.count i stream.begun.items parts
      (part_data part)
      (omega (arith, c.loop-index-test.true, length-map c.args.parts.now part_data))
      (got part_data c.args.parts.now i part c.index-parts-index.is)
      ∙ ap (λ k. kept_writes b.past (stream_time stream) 1 c.args.count (take i stream.begun.items)
      (take i parts)
      ++ kept_writes b.past (stream_time stream) k c.args.count (take 1 (drop i stream.begun.items))
      (part_data part ∷ []))
      number))
      (puts_both g.K.Keeper.Keeps stream _ _ _ _ _ _ _ _ _ _ _ (c.loop-index.invariant.puts some known)
      (puts_as g.K.Keeper.Keeps stream _ _ _ (λ b. kept_writes b.past (stream_time stream) (i + 1) c.args.count
      (take 1 (drop i stream.begun.items)) (part_data part ∷ [])) _ _ _ _
      (λ b knows. one_write b.past (stream_time stream) (i + 1) c.args.count i stream.begun.items (part_data part))
      (c.in_ok-put_at.ensures.puts some (fact.Write (i + 1) c.args.count (part_data part)) known refl)));
}

pub returns-clause-puts : goal.returns-clause-puts
returns-clause-puts g c some known =
    let stream = c.args.self.now in
    let parts = map part_data c.args.parts.now in
    puts_as g.K.Keeper.Keeps stream _ _ (λ b. kept_writes b.past (stream_time stream) 1 c.args.count
    (take c.loop-index.index stream.begun.items)
    (take c.loop-index.index parts))
    (λ b. kept_writes b.past (stream_time stream) 1 c.args.count stream.begun.items parts) _ _ _ _
    (λ b knows. all_writes b.past (stream_time stream) 1 c.args.count c.loop-index.index stream.begun.items
    parts
    (omega (arith, c.loop-index-test.false, length-map c.args.parts.now part_data)))
    (c.loop-index.invariant.puts some known)
