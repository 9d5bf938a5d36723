use Rattle.std.proofs.Common.{◌≡◌, [], ◌∷◌, ◌++◌, ap, sym, ◌∙◌, refl, add-one, arith}
use Rattle.std.specs.List.{range_with_len}
use Rattle.pmb_io.proofs.Writing.{writes_nothing}
use Rattle.pmb_json_text.specs.Member.{object_line}
use Rattle.pmb_json_objects.specs.Counts.{end_object}
use Rattle.pmb_fact_stream.specs.Choice.{gives_others}
use Rattle.pmb_fact_stream.specs.Stream.{stream_choice, stream_profile}
use Rattle.pmb_fact_stream.specs.machine.Counts.{counts_of}
use Rattle.pmb_fact_stream.proofs.Counts.{counts_append}
use Rattle.pmb_fact_stream.proofs.Lines.{of_none, puts_lines, puts_wanted_line}
use Rattle.pmb_fact_stream.proofs.Lists.{range_more}
use Rattle.pmb_fact_stream.proofs.stream.Stream.put_count_objects.Goals as goal

pub loop-addr-init : goal.loop-addr-init
loop-addr-init g c = record { failures = refl; puts = λ b knows. writes_nothing _ _ }

pub loop-addr-preserved : goal.loop-addr-preserved
loop-addr-preserved g c = record {
  failures = c.in_ok-put_device.ensures.failed ∙ c.loop-addr.invariant.failures;
  puts = λ b knows.
      let addr = c.loop-addr.addr in
      let counts = b.counts.of_device in
      let profile = stream_profile c.args.self.now in
      let gives = gives_others (stream_choice c.args.self.now) in
      puts_lines c.args.self.now.choice.devices.now (counts_of profile gives counts (range_with_len 0 addr))
      (counts_of profile gives counts (addr ∷ [])) _ _ _ _ _ _ _
      (ap (counts_of profile gives counts) (ap (range_with_len 0) (add-one addr) ∙ range_more 0 addr
      ∙ ap (λ k. range_with_len 0 addr ++ k ∷ []) (omega arith)) ∙ counts_append profile gives counts
      (range_with_len 0 addr)
      (addr ∷ []))
      (c.loop-addr.invariant.puts b knows) (c.in_ok-put_device.ensures.puts b knows);
}

pub returns-clause-puts : goal.returns-clause-puts
returns-clause-puts g c b knows =
    let devices = c.args.self.now.choice.devices.now in
    let last : c.loop-addr.addr ≡ 128 = omega arith in
    let profile = stream_profile c.args.self.now in
    let gives = gives_others (stream_choice c.args.self.now) in
    let end = end_object gives b.counts in
    puts_lines devices (counts_of profile gives b.counts.of_device (range_with_len 0 c.loop-addr.addr)) (end ∷ []) _ _
    _ _ _ _ _
    (ap (λ n. counts_of profile gives b.counts.of_device (range_with_len 0 n) ++ end ∷ []) (sym last))
    (c.loop-addr.invariant.puts b knows)
    (puts_wanted_line devices end _ _ _ _ _ (of_none devices) c.in_ok-make_room.ensures.ok
    (c.end_line.ensures.line b.counts knows.counts
    ∙ ap (λ others. c.make_room.new.waiting.items ++ object_line (end_object others b.counts).members)
    c.gives_others.ensures))
