use Rattle.std.proofs.Common.{◌∙◌, ℕ, List, [], Option, refl, ap, subst, arith}
use Rattle.std.proofs.lemmas.Result.{on_ok_weaker}
use Rattle.pmb_io.specs.Outgoing.{PutsText}
use Rattle.pmb_host.specs.declared.step.HostStep.{HostStep}
use Rattle.pmb_run.specs.machine.Bench.{RunsOn, bench_profile}
use Rattle.pmb_run.specs.machine.Running.{end_counted}
use Rattle.pmb_run.proofs.Hosts.{begins_on, beginning_on, runs_first, sent_more}
use Rattle.pmb_run.proofs.OneRequest.{host_taken, never_taken}
use Rattle.pmb_run.proofs.runner.Runner.take_host.Goals as goal

-- Nothing was sent yet.
pub loop-init : goal.loop-init
loop-init g c = record {
  same = refl;
  lines = refl;
  tally = refl;
  failures = refl;
  runs = λ members ts request stands new.
      let bench = c.args.self.now.bench in record {
        few = omega arith;
        events = [];
        writes = c.texts_add_up.ensures.nothing (g.W.Sink.told c.args.writer.now).held c.args.waiting.now.items;
        runs = runs_first members ts bench request c.args.host c.new-exchange.result stands new c.packet_is_not_empty.ensures
            (c.new-exchange.ensures (bench_profile bench) request bench.bus
            (begins_on members ts bench request c.args.host stands new));
      };
}

-- The host sends one signal more.
pub loop-preserved : goal.loop-preserved
loop-preserved g c = record {
  same = c.in_ok-end.ensures.profile ∙ c.loop.invariant.same;
  lines = c.loop.invariant.lines;
  tally = c.loop.invariant.tally;
  failures = c.in_ok-end.ensures.failed ∙ c.loop.invariant.failures;
  runs = λ members ts request stands new.
      let first = beginning_on members ts c.args.self.now.bench request c.args.host stands new in
      let was = c.loop.invariant.runs members ts request stands new in
      let standing = record first { events = was.events; sent = c.loop.counter } in
      sent_more c.texts_add_up.ensures.both members ts first c.loop.counter c.loop.self.bench c.next.new.self c.loop.exchange
      c.next.new.exchange
      (g.W.Sink.told c.args.writer.now).held (g.W.Sink.told c.loop.writer).held (g.W.Sink.told c.next.new.writer).held
      c.args.waiting.now.items c.loop.waiting.items c.next.new.waiting.items was
      (subst
      (
      λ (end : Option HostStep).
      RunsOn members ts standing end c.next.new.self c.next.new.exchange (g.W.Sink.told c.loop.writer).held c.loop.waiting.items
      (g.W.Sink.told c.next.new.writer).held c.next.new.waiting.items
      ) c.in_default.is (c.in_ok-end.ensures.runs members ts standing was.runs));
}

-- It has ended.
pub returns-in-Some-clause-takes : goal.returns-in-Some-clause-takes
returns-in-Some-clause-takes g c members ts request line stands spells new =
    let before = c.args.self.now in
    let first = beginning_on members ts before.bench request c.args.host stands new in
    let was = c.loop.invariant.runs members ts request stands new in
    let standing = record first { events = was.events; sent = c.loop.counter } in
    let ended =
    subst
    (
    λ (end : Option HostStep).
    RunsOn members ts standing end c.next.new.self c.next.new.exchange (g.W.Sink.told c.loop.writer).held c.loop.waiting.items
    (g.W.Sink.told c.next.new.writer).held c.next.new.waiting.items
    ) c.in-Some.is (c.in_ok-end.ensures.runs members ts standing was.runs) in
    on_ok_weaker c.put.result
    (
    λ puts.
    host_taken c.texts_add_up.ensures.both members ts before c.count.new.self c.next.new.self c.loop.self.bench request
    c.args.host line c.loop.counter c.in-Some.end c.loop.exchange c.next.new.exchange
    (g.W.Sink.told c.args.writer.now).held (g.W.Sink.told c.loop.writer).held (g.W.Sink.told c.next.new.writer).held
    (g.W.Sink.told c.put.new.writer).held
    c.args.waiting.now.items c.loop.waiting.items c.next.new.waiting.items c.put.new.waiting.items stands new spells was
    ended
    (subst (λ (text : List ℕ). PutsText (g.W.Sink.told c.next.new.writer).held c.next.new.waiting.items
    (g.W.Sink.told c.put.new.writer).held c.put.new.waiting.items text)
    (c.as_slice.ensures.value ∙ c.end_line.ensures) puts)
    (c.in_ok-end.ensures.profile ∙ c.loop.invariant.same) c.count.ensures.bench
    (c.count.ensures.lines ∙ c.loop.invariant.lines)
    (c.count.ensures.counted ∙ ap (end_counted c.in-Some.end) c.loop.invariant.tally)
    )
    c.put.ensures.ok

-- There are never so many signals.
pub returns-clause-takes : goal.returns-clause-takes
returns-clause-takes g c members ts request line stands spells new =
    never_taken members ts (beginning_on members ts c.args.self.now.bench request c.args.host stands new) c.args.self.now c.loop.self
    c.loop.self.bench c.loop.exchange line c.loop.counter
    (g.W.Sink.told c.args.writer.now).held (g.W.Sink.told c.loop.writer).held c.args.waiting.now.items
    c.loop.waiting.items
    (c.loop.invariant.runs members ts request stands new) (omega arith)
