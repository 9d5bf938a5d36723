use Rattle.std.proofs.Common.{◌++◌, ap, sym, ◌∙◌}
use Rattle.pmb_json_objects.specs.Head.{head_of}
use Rattle.pmb_keeper.specs.Setting.{fact_seen}
use Rattle.pmb_fact_stream.specs.machine.Knowing.{stream_seen}
use Rattle.pmb_fact_stream.proofs.Alone.{line_alone}
use Rattle.pmb_fact_stream.proofs.Putting.{puts_unwanted, puts_wanted}
use Rattle.pmb_fact_stream.proofs.stream.Stream.put_fact.Goals as goal

pub returns-then-not-is_wanted-clause-puts : goal.returns-then-not-is_wanted-clause-puts
returns-then-not-is_wanted-clause-puts g c some what known stands =
    let stream = c.args.self.now in
    puts_unwanted g.K.Keeper.Keeps stream _ _
    (λ b. fact_seen (stream_seen stream b) (head_of c.args.fact.head) what)
    c.device.result (λ b. sym (c.device.ensures what stands))
    (λ b knows before kept. c.keep.ensures.keeps (stream_seen stream b) what before (c.seen.ensures b knows) stands
    kept) _ _
    (sym c.is_wanted.ensures ∙ c.if-not-is_wanted.true)

pub returns-clause-puts : goal.returns-clause-puts
returns-clause-puts g c some what known stands =
    let stream = c.args.self.now in
    let head = head_of c.args.fact.head in
    puts_wanted g.K.Keeper.Keeps stream _ _ (λ b. fact_seen (stream_seen stream b) head what)
    c.device.result (λ b. sym (c.device.ensures what stands))
    (λ b knows before kept. c.keep.ensures.keeps (stream_seen stream b) what before (c.seen.ensures b knows) stands
    kept)
    some _ _ _ _ _ known (sym c.is_wanted.ensures ∙ c.if-not-is_wanted.false) c.in_ok-make_room.ensures.ok
    (λ b knows. c.append_line.ensures.line (stream_seen stream b) what (c.seen-2.ensures b knows) stands
    ∙ ap (λ line. c.make_room.new.waiting.items ++ line)
    (line_alone (stream_seen stream b) head stream.choice.telling what))
