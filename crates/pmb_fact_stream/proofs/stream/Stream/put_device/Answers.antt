use Rattle.std.proofs.Common.{◌++◌, ap, sym, ◌∙◌, subst}
use Rattle.pmb_io.specs.Outgoing.{PutsText}
use Rattle.pmb_json_text.specs.Member.{object_line}
use Rattle.pmb_json_objects.specs.Counts.{counts_object}
use Rattle.pmb_json_objects.specs.Object.{object_lines}
use Rattle.pmb_fact_stream.specs.Choice.{gives_others}
use Rattle.pmb_fact_stream.specs.Stream.{stream_choice, stream_profile}
use Rattle.pmb_fact_stream.proofs.Counts.{come, same_counts}
use Rattle.pmb_fact_stream.proofs.Lines.{puts_wanted_line}
use Rattle.pmb_fact_stream.proofs.stream.Stream.put_device.Goals as goal

pub returns-clause-puts : goal.returns-clause-puts
returns-clause-puts g c b knows =
    let devices = c.args.self.now.choice.devices.now in
    let gives = gives_others (stream_choice c.args.self.now) in
    let known = b.counts.of_device c.args.addr in
    let is = same_counts _ _ (c.in-Some.ensures b.counts knows.counts) in
    let came = sym (c.has_come.ensures known is) ∙ c.if-not-has_come.false in
    subst (λ os. PutsText (g.W.Sink.told c.args.writer.now).held c.args.waiting.now.items
    (g.W.Sink.told c.make_room.new.writer).held c.device_line.new.out.items (object_lines devices os))
    (sym (come (stream_profile c.args.self.now) gives b.counts.of_device c.args.addr came))
    (puts_wanted_line devices (counts_object (stream_profile c.args.self.now) gives c.args.addr known) _ _ _ _ _
    (sym c.is_wanted.ensures ∙ c.if-not-is_wanted.false) c.in_ok-make_room.ensures.ok
    (c.device_line.ensures.line known is
    ∙ ap (λ others. c.make_room.new.waiting.items
    ++ object_line (counts_object (stream_profile c.args.self.now) others c.args.addr known).members)
    c.gives_others.ensures))
