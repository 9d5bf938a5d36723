use Rattle.std.proofs.Common.{◌∙◌, ◌+◌, ℕ, Bor, List, [], ap, ap₂, map, max, refl, subst, sym, take, drop}
use Rattle.std.proofs.lemmas.List.{map_more, take_all}
use Rattle.pmb_args.specs.ExitStatus.{IsTold, code_of, status_of}
use Rattle.pmb_args.specs.declared.exit_status.ExitStatus.TheVariants.{Done}
use Rattle.pmb_explained.specs.Kept.{kept_told}
use Rattle.pmb_table.specs.declared.sample.TheConstants.{SAMPLE}
use Rattle.pmb_files.specs.Each.{RanAll, all, greatest, next, none}
use Rattle.pmb_files.proofs.Lists.{cut_at}
use Rattle.pmb_files.proofs.Statuses.{ends_unannounced, greatest_code}
use Rattle.pmb_files.proofs.each.run_each.Goals as goal

pub loop-name-init : goal.loop-name-init
loop-name-init g c = (Done, refl, none)

-- One more was announced, and the tool ran over it.
pub loop-name-preserved : goal.loop-name-preserved
loop-name-preserved g c =
    let ran = c.loop-name.invariant in
    let last = c.in-Ok.ensures.ran in
    let names = c.args.names.now in
    let i = c.loop-name.name-index in (
      greatest ran.0 last.0,
      c.greatest-status.ensures ∙ ap₂ max ran.1 last.1 ∙ greatest_code ran.0 last.0,
      subst (λ before. RanAll g.F.Opener.known g.F.Opened.Read.remaining (kept_told g.W.Sink.told) g.E.Sink.told SAMPLE.now
          c.args.files.now (map (λ word. word.now) c.args.words.now) c.args.heading c.args.head.now
          (c.args.out.now, c.args.err.now) before (c.run_file.new.out, c.run_file.new.err) (greatest ran.0 last.0))
          (sym (map_more (λ name. name.now) names i _ c.loop-name-test.true))
          (next (map (λ name. name.now) (take i names)) _ (c.loop-name.out, c.loop-name.err)
          (c.run_file.new.out, c.run_file.new.err) ran.0 last.0 ran.2 last.2),
    )

-- One was not announced.
pub returns-in-Err : goal.returns-in-Err
returns-in-Err g c =
    let ran = c.loop-name.invariant in
    let names = c.args.names.now in
    let i = c.loop-name.name-index in
    let why = c.in-Err.fault in
    let no_name : Bor (List ℕ) = record { ref_ptr = (0, 0); now = [] } in (
      greatest ran.0 (status_of why),
      c.greatest.ensures ∙ ap₂ max ran.1 (c.code.ensures ∙ ap code_of c.report.ensures.status)
          ∙ greatest_code ran.0 (status_of why),
      ends_unannounced g.F.Opener.known g.F.Opened.Read.remaining (kept_told g.W.Sink.told) g.E.Sink.told SAMPLE.now
          c.args.files.now (map (λ word. word.now) c.args.words.now) c.args.heading c.args.head.now _
          (map (λ name. name.now) (take i names)) _ (map (λ name. name.now) (drop (i + 1) names))
          (c.args.out.now, c.args.err.now) (c.loop-name.out, c.loop-name.err) (c.run_file.new.out, c.report.new.err)
          ran.0 why (cut_at (λ name. name.now) names i no_name c.loop-name-test.true) ran.2 c.in-Err.ensures.fault
          (subst (λ err. IsTold (g.E.Sink.told err) (g.E.Sink.told c.report.new.err)) c.in-Err.ensures.quiet
          c.report.ensures.err_told),
    )

-- All were.
pub returns : goal.returns
returns g c =
    let ran = c.loop-name.invariant in (
      ran.0,
      ran.1,
      all (subst (λ names. RanAll g.F.Opener.known g.F.Opened.Read.remaining (kept_told g.W.Sink.told) g.E.Sink.told SAMPLE.now
          c.args.files.now (map (λ word. word.now) c.args.words.now) c.args.heading c.args.head.now
          (c.args.out.now, c.args.err.now) (map (λ name. name.now) names) (c.loop-name.out, c.loop-name.err) ran.0)
          (take_all c.loop-name.name-index c.args.names.now c.loop-name-test.false) ran.2),
    )
