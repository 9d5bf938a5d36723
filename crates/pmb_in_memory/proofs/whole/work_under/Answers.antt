use Rattle.std.proofs.Common.{◌∙◌, ap, sym}
use Rattle.pmb_build.specs.Lines.{building}
use Rattle.pmb_capture.specs.Check.{checking}
use Rattle.pmb_capture.specs.Show.{showing}
use Rattle.pmb_run.specs.Lines.{running}
use Rattle.pmb_in_memory.specs.declared.memory_task.MemoryTask.{MemoryTask}
use Rattle.pmb_in_memory.specs.MemoryTask.{working}
use Rattle.pmb_in_memory.proofs.Works.{works_as}
use Rattle.pmb_in_memory.proofs.whole.work_under.Goals as goal

pub returns-in-Show : goal.returns-in-Show
returns-in-Show g c = works_as g.W.Sink.told (showing c.profile-profile.result.now) c.args.input.now c.args.out.now
    c.show_whole.new.writer (working c.args.work c.args.bus.now)
    (ap showing c.profile-profile.ensures.profile ∙ ap (λ (w : MemoryTask). working w c.args.bus.now) (sym c.in-Show.is))
    c.show_whole.result c.show_whole.ensures

pub returns-in-Check : goal.returns-in-Check
returns-in-Check g c = works_as g.W.Sink.told (checking c.profile-profile.result.now) c.args.input.now c.args.out.now
    c.check_whole.new.writer (working c.args.work c.args.bus.now)
    (ap checking c.profile-profile.ensures.profile ∙ ap (λ (w : MemoryTask). working w c.args.bus.now) (sym c.in-Check.is))
    c.check_whole.result c.check_whole.ensures

pub returns-in-Build : goal.returns-in-Build
returns-in-Build g c = works_as g.W.Sink.told (building c.profile-profile.result.now) c.args.input.now c.args.out.now
    c.build_whole.new.writer (working c.args.work c.args.bus.now)
    (ap building c.profile-profile.ensures.profile ∙ ap (λ (w : MemoryTask). working w c.args.bus.now) (sym c.in-Build.is))
    c.build_whole.result c.build_whole.ensures

pub returns-in-Run : goal.returns-in-Run
returns-in-Run g c = works_as g.W.Sink.told (running c.profile-profile.result.now) c.args.input.now c.args.out.now
    c.run_whole.new.writer (working c.args.work c.args.bus.now)
    (ap running c.profile-profile.ensures.profile ∙ ap (λ (w : MemoryTask). working w c.args.bus.now) (sym c.in-Run.is))
    c.run_whole.result c.run_whole.ensures
