use Rattle.std.proofs.Common.{inl, inr, map, refl, subst}
use Rattle.pmb_table.specs.declared.sample.TheConstants.{SAMPLE}
use Rattle.pmb_args.specs.Asked.{Asking, AskFor, Json, Stats, UnderProfile, asking_of}
use Rattle.pmb_cli.specs.Statuses.{StatusTells}
use Rattle.pmb_cli.specs.Tasks.{DidTask}
use Rattle.pmb_cli.proofs.Codes.{code_within}
use Rattle.pmb_cli.proofs.JsonText.{WritesJson, json_lines, sums_lines}
use Rattle.pmb_cli.proofs.Memory.{unread}
use Rattle.pmb_cli.proofs.Often.{none_in_all}
use Rattle.pmb_cli.proofs.Statuses.{does_none, no_memory_is_not_bad}
use Rattle.pmb_cli.proofs.program.tool.Goals as goal

-- The words ask for something: nothing was written yet, it is done, and they ask for nothing else.
pub returns-in-Ok-clause-ran : goal.returns-in-Ok-clause-ran
returns-in-Ok-clause-ran g c =
    let words = map g.S.AsStr.text c.args.words.now in
    let asking : Asking = asking_of c.in-Ok.task in
    let ask = c.in-Ok.ensures.ok in
    let one = c.one_asking.ensures in
    let did : DidTask g.R.Source.told g.W.Sink.told g.E.Sink.told SAMPLE.now asking
    (c.args.reader.now, c.args.out.now, c.args.err.now)
    (c.run_task.new.reader, c.run_task.new.out, c.run_task.new.err) c.run_task.result =
    subst (λ (out : g.row.W.Denot). DidTask g.R.Source.told g.W.Sink.told g.E.Sink.told SAMPLE.now asking
    (c.args.reader.now, out, c.args.err.now) (c.run_task.new.reader, c.run_task.new.out, c.run_task.new.err)
    c.run_task.result) c.in-Ok.ensures.ok_quiet.0
    (subst (λ (err : g.row.E.Denot). DidTask g.R.Source.told g.W.Sink.told g.E.Sink.told SAMPLE.now asking
    (c.args.reader.now, c.parse_command.new.out, err) (c.run_task.new.reader, c.run_task.new.out, c.run_task.new.err)
    c.run_task.result) c.in-Ok.ensures.ok_quiet.1 c.run_task.ensures) in
    let asked : (other : Asking) → AskFor words other
    → DidTask g.R.Source.told g.W.Sink.told g.E.Sink.told SAMPLE.now other
    (c.args.reader.now, c.args.out.now, c.args.err.now) (c.run_task.new.reader, c.run_task.new.out, c.run_task.new.err)
    c.run_task.result =
    λ other also. subst (λ (a : Asking). DidTask g.R.Source.told g.W.Sink.told g.E.Sink.told SAMPLE.now a
    (c.args.reader.now, c.args.out.now, c.args.err.now) (c.run_task.new.reader, c.run_task.new.out, c.run_task.new.err)
    c.run_task.result) (one.one words asking other ask also) did in
    let writes : WritesJson =
    record { whole = c.json_is_lines.ensures.whole; so_far = c.json_is_lines.ensures.so_far } in (
      c.run_task.result,
      c.code.ensures,
      record {
        did = asked;
        json = λ place wanted also tells. json_lines g.R.Source.told g.W.Sink.told g.E.Sink.told SAMPLE.now writes place
            wanted (c.args.reader.now, c.args.out.now, c.args.err.now)
            (c.run_task.new.reader, c.run_task.new.out, c.run_task.new.err) tells c.run_task.result
            (asked (UnderProfile place (Json wanted)) also);
        sums = λ place wanted also objects. sums_lines g.R.Source.told g.W.Sink.told g.E.Sink.told SAMPLE.now
            c.sums_are_lines.ensures place wanted objects (c.args.reader.now, c.args.out.now, c.args.err.now)
            (c.run_task.new.reader, c.run_task.new.out, c.run_task.new.err) c.run_task.result
            (asked (UnderProfile place (Stats wanted)) also);
        unread = λ some. absurd (some ask.no_fault);
        out_text = λ some done. absurd (some ask.no_fault);
        not_refusals = λ some. absurd (some ask.no_fault);
        helped = λ telling. absurd (one.not_told words asking ask telling);
        refused = λ refused. absurd (one.not_refused words asking ask refused);
        unwritten = λ refused. absurd (one.not_refused words asking ask refused);
        nothing = λ none. absurd (one.something words asking ask none);
        nothing_unread = λ none. absurd (one.something words asking ask none);
        bad = λ bad. elim (did.bad bad) [
          | inl none ↦ inr (inl (one.names_none words asking ask none))
          | inr fault ↦ inr (inr (asking, ask, fault))
        ];
        tells = did.tells;
        err_text = did.err_text;
        quiet = did.quiet;
      },
    )

-- They ask for nothing, or there was no memory for them.
pub returns-in-Err-clause-ran : goal.returns-in-Err-clause-ran
returns-in-Err-clause-ran g c =
    let tells : StatusTells g.R.Source.told g.W.Sink.told (c.args.reader.now, c.args.out.now)
    (c.args.reader.now, c.parse_command.new.out) c.in-Err.status = record {
      unwritten = c.in-Err.ensures.wrote.unwritten;
      none_failed = λ other. (refl, c.in-Err.ensures.wrote.none_failed other);
      io_failed = λ failed. inr (inl (c.in-Err.ensures.wrote.io_failed failed));
      reads = none_in_all _;
    } in
    let asked : (asking : Asking) → AskFor (map g.S.AsStr.text c.args.words.now) asking
    → DidTask g.R.Source.told g.W.Sink.told g.E.Sink.told SAMPLE.now asking
    (c.args.reader.now, c.args.out.now, c.args.err.now)
    (c.args.reader.now, c.parse_command.new.out, c.parse_command.new.err) c.in-Err.status =
    λ asking ask. let no_memory = c.in-Err.ensures.memory asking ask in record {
      did = does_none _ _ _ _ _ (inr no_memory);
      tells = tells;
      bad = λ bad. absurd (no_memory_is_not_bad _ no_memory bad);
      bad_format = λ none. (inr no_memory, refl);
      memory = λ _. unread g.R.Source.told asking _ _ refl;
      err_text = c.in-Err.ensures.wrote.err_text;
      quiet = c.in-Err.ensures.wrote.quiet;
    } in
    let writes : WritesJson =
    record { whole = c.json_is_lines.ensures.whole; so_far = c.json_is_lines.ensures.so_far } in (
      c.in-Err.status,
      c.code-in-Err.ensures,
      record {
        did = asked;
        json = λ place wanted also reads. json_lines g.R.Source.told g.W.Sink.told g.E.Sink.told SAMPLE.now writes place
            wanted (c.args.reader.now, c.args.out.now, c.args.err.now)
            (c.args.reader.now, c.parse_command.new.out, c.parse_command.new.err) reads c.in-Err.status
            (asked (UnderProfile place (Json wanted)) also);
        sums = λ place wanted also objects. sums_lines g.R.Source.told g.W.Sink.told g.E.Sink.told SAMPLE.now
            c.sums_are_lines.ensures place wanted objects (c.args.reader.now, c.args.out.now, c.args.err.now)
            (c.args.reader.now, c.parse_command.new.out, c.parse_command.new.err) c.in-Err.status
            (asked (UnderProfile place (Stats wanted)) also);
        unread = λ some. refl;
        out_text = λ some. c.in-Err.ensures.wrote.out_text;
        not_refusals = λ some. c.in-Err.ensures.wrote.not_refusals;
        helped = c.in-Err.ensures.helped;
        refused = c.in-Err.ensures.refused;
        unwritten = c.in-Err.ensures.unwritten;
        nothing = c.in-Err.ensures.nothing;
        nothing_unread = λ none. refl;
        bad = λ bad. inl (c.in-Err.ensures.told bad);
        tells = tells;
        err_text = c.in-Err.ensures.wrote.err_text;
        quiet = c.in-Err.ensures.wrote.quiet;
      },
    )

pub returns-in-Ok-clause-within : goal.returns-in-Ok-clause-within
returns-in-Ok-clause-within g c = code_within _ c.code.ensures

pub returns-in-Err-clause-within : goal.returns-in-Err-clause-within
returns-in-Err-clause-within g c = code_within _ c.code-in-Err.ensures
