use Rattle.std.proofs.Common.{subst, sym}
use Rattle.pmb_table.specs.declared.sample.TheConstants.{SAMPLE}
use Rattle.pmb_args.specs.Asked.{UnderProfile, asking_of, wanted_of}
use Rattle.pmb_args.specs.declared.profile_place.ProfilePlace.{ProfilePlace}
use Rattle.pmb_args.specs.declared.tasks.Task.{Task}
use Rattle.pmb_cli.specs.Tasks.{DidTask}
use Rattle.pmb_cli.proofs.tasks.run_task.Goals as goal

pub returns-in-Sample : goal.returns-in-Sample
returns-in-Sample g c =
    subst (λ (t : Task). DidTask g.R.Source.told g.W.Sink.told g.E.Sink.told SAMPLE.now (asking_of t)
    (c.args.reader.now, c.args.out.now, c.args.err.now) (
      c.run_under_sample.new.reader,
      c.run_under_sample.new.out,
      c.run_under_sample.new.err,
    ) c.run_under_sample.result) (sym c.in-UnderProfile.is)
    (subst (λ (place : ProfilePlace). DidTask g.R.Source.told g.W.Sink.told g.E.Sink.told SAMPLE.now
    (UnderProfile place (wanted_of c.in-UnderProfile.work)) (c.args.reader.now, c.args.out.now, c.args.err.now)
    (c.run_under_sample.new.reader, c.run_under_sample.new.out, c.run_under_sample.new.err) c.run_under_sample.result)
    (sym c.in-Sample.is) c.run_under_sample.ensures)

pub returns-in-Front : goal.returns-in-Front
returns-in-Front g c =
    subst (λ (t : Task). DidTask g.R.Source.told g.W.Sink.told g.E.Sink.told SAMPLE.now (asking_of t)
    (c.args.reader.now, c.args.out.now, c.args.err.now) (
      c.run_under_front.new.reader,
      c.run_under_front.new.out,
      c.run_under_front.new.err,
    ) c.run_under_front.result) (sym c.in-UnderProfile.is)
    (subst (λ (place : ProfilePlace). DidTask g.R.Source.told g.W.Sink.told g.E.Sink.told SAMPLE.now
    (UnderProfile place (wanted_of c.in-UnderProfile.work)) (c.args.reader.now, c.args.out.now, c.args.err.now)
    (c.run_under_front.new.reader, c.run_under_front.new.out, c.run_under_front.new.err) c.run_under_front.result)
    (sym c.in-Front.is) c.run_under_front.ensures)

pub returns-in-Convert : goal.returns-in-Convert
returns-in-Convert g c =
    subst (λ (t : Task). DidTask g.R.Source.told g.W.Sink.told g.E.Sink.told SAMPLE.now (asking_of t)
    (c.args.reader.now, c.args.out.now, c.args.err.now)
    (c.run_lines.new.reader, c.run_lines.new.out, c.run_lines.new.err) c.run_lines.result)
    (sym c.in-Convert.is) c.run_lines.ensures.did

pub returns-in-Scan : goal.returns-in-Scan
returns-in-Scan g c =
    subst (λ (t : Task). DidTask g.R.Source.told g.W.Sink.told g.E.Sink.told SAMPLE.now (asking_of t)
    (c.args.reader.now, c.args.out.now, c.args.err.now)
    (c.run_scan.new.reader, c.run_scan.new.out, c.run_scan.new.err) c.run_scan.result)
    (sym c.in-Scan.is) c.run_scan.ensures

pub returns-in-Import : goal.returns-in-Import
returns-in-Import g c =
    subst (λ (t : Task). DidTask g.R.Source.told g.W.Sink.told g.E.Sink.told SAMPLE.now (asking_of t)
    (c.args.reader.now, c.args.out.now, c.args.err.now)
    (c.run_import.new.reader, c.run_import.new.out, c.run_import.new.err) c.run_import.result)
    (sym c.in-Import.is) c.run_import.ensures.did
