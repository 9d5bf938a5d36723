use Rattle.std.proofs.Common.{ap, refl}
use Rattle.pmb_build.specs.Lines.{building}
use Rattle.pmb_capture.specs.Check.{checking}
use Rattle.pmb_capture.specs.Show.{showing}
use Rattle.pmb_run.specs.Lines.{running}
use Rattle.pmb_args.specs.Asked.{wanted_of}
use Rattle.pmb_cli.proofs.Working.{did_with_memory, did_work}
use Rattle.pmb_cli.proofs.works.do_work.Goals as goal

pub returns-in-Show : goal.returns-in-Show
returns-in-Show g c = did_work g.R.Source.told g.W.Sink.told _ _ (ap wanted_of c.in-Show.is) _ _ _ _ _ _ _
    (ap showing c.profile-profile.ensures.profile) c.show_apart.result c.show_apart.ensures

pub returns-in-Check : goal.returns-in-Check
returns-in-Check g c = did_work g.R.Source.told g.W.Sink.told _ _ (ap wanted_of c.in-Check.is) _ _ _ _ _ _ _
    (ap checking c.profile-profile.ensures.profile) c.check_apart.result c.check_apart.ensures

pub returns-in-Json : goal.returns-in-Json
returns-in-Json g c = did_work g.R.Source.told g.W.Sink.told _ _ (ap wanted_of c.in-Json.is) _ _ _ _ _ _ _ refl
    c.write_json.result c.write_json.ensures

pub returns-in-Log : goal.returns-in-Log
returns-in-Log g c = did_work g.R.Source.told g.W.Sink.told _ _ (ap wanted_of c.in-Log.is) _ _ _ _ _ _ _ refl
    c.write_log.result c.write_log.ensures

pub returns-in-Build : goal.returns-in-Build
returns-in-Build g c = did_work g.R.Source.told g.W.Sink.told _ _ (ap wanted_of c.in-Build.is) _ _ _ _ _ _ _
    (ap building c.profile-profile.ensures.profile) c.build_apart.result c.build_apart.ensures

pub returns-in-Profile : goal.returns-in-Profile
returns-in-Profile g c = did_work g.R.Source.told g.W.Sink.told _ _ (ap wanted_of c.in-Profile.is) _ _ _ _ _ _ _ refl
    c.describe_bus.result c.describe_bus.ensures

-- `run` and `stats` may lack memory.
pub returns-in-Run : goal.returns-in-Run
returns-in-Run g c = did_with_memory g.R.Source.told g.W.Sink.told _ _ (ap wanted_of c.in-Run.is) _ _ _ _ _ _ _
    (ap running c.profile-profile.ensures.profile) refl c.run_apart.result c.run_apart.ensures

pub returns-in-Stats : goal.returns-in-Stats
returns-in-Stats g c = did_with_memory g.R.Source.told g.W.Sink.told _ _ (ap wanted_of c.in-Stats.is) _ _ _ _ _ _ _
    refl refl c.write_stats.result c.write_stats.ensures
