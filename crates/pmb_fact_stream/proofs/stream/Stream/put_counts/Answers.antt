-- Told as objects, the counts have theirs.
use Rattle.std.proofs.Common.{OnOk, subst, sym}
use Rattle.pmb_io.specs.Outgoing.{PutsText}
use Rattle.pmb_fact_stream.specs.Lines.{last_lines_of}
use Rattle.pmb_fact_stream.specs.Stream.{stream_choice, stream_profile}
use Rattle.pmb_fact_stream.proofs.stream.Stream.put_counts.Goals as goal

pub returns-in-Objects-clause-puts : goal.returns-in-Objects-clause-puts
returns-in-Objects-clause-puts g c b knows =
    let stream = c.args.self.now in
    subst (λ telling. OnOk c.put_count_objects.result
    (PutsText (g.W.Sink.told c.args.writer.now).held c.args.waiting.now.items
    (g.W.Sink.told c.put_count_objects.new.writer).held c.put_count_objects.new.waiting.items
    (last_lines_of (stream_choice stream) (stream_profile stream) telling b.counts)))
    (sym c.in-Objects.is) (c.put_count_objects.ensures.puts b knows)
