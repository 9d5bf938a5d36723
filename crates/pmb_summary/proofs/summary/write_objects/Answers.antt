-- What was kept is summed up, where the capture was read and the sums were written.
use Rattle.std.proofs.Common.{Result, subst}
use Rattle.pmb_io.specs.Runs.{AsTool, Ran}
use Rattle.pmb_io.specs.declared.fault.ToolFault.{ToolFault}
use Rattle.pmb_io.specs.declared.tally.Tally.{Tally}
use Rattle.pmb_stats.specs.Standing.{StatsStand}
use Rattle.pmb_telling.specs.Kept.{keeping_job}
use Rattle.pmb_summary.specs.Choice.{choice_of, setting_of, sums_data}
use Rattle.pmb_summary.specs.Summing.{objects_of}
use Rattle.pmb_summary.proofs.Kept.{summed, tool_unread}
use Rattle.pmb_summary.proofs.summary.write_objects.Goals as goal

pub returns-in-Ok-write_all_objects : goal.returns-in-Ok-write_all_objects
returns-in-Ok-write_all_objects g c =
    let stats = c.keep_all-statistics.result.0 in
    let sums = sums_data c.args.choice in
    let profile = c.args.profile.now in
    let setting = setting_of sums profile in
    summed g.R.Source.told g.W.Sink.told stats sums profile (objects_of sums profile)
    (λ f others stands stand. c.one_objects.ensures stats setting setting f others sums.digits sums.devices stands stand)
    c.args.first.now c.args.reader.now c.keep_all-statistics.new.reader c.args.writer.now
    c.keep_all-statistics.new.writer c.write_all_objects.new.writer c.in-Ok.field-0 c.judged.result
    (λ facts stands. c.judged.ensures setting facts stands)
    (λ facts stands. c.in-Ok-write_all_objects.ensures.written setting facts stands) c.in-Ok-write_all_objects.ensures.failed
    (subst (λ (r : Result Tally ToolFault). AsTool (Ran g.R.Source.told g.W.Sink.told (keeping_job
    (StatsStand stats setting) (choice_of sums) profile sums.after_bad_token) c.args.first.now
    (c.args.reader.now, c.args.writer.now) (c.keep_all-statistics.new.reader, c.keep_all-statistics.new.writer)) r)
    c.in-Ok.is c.keep_all-statistics.ensures)

pub returns : goal.returns
returns g c =
    let stats = c.keep_all-statistics.result.0 in
    let sums = sums_data c.args.choice in
    let profile = c.args.profile.now in
    let setting = setting_of sums profile in
    tool_unread g.R.Source.told g.W.Sink.told stats sums profile (objects_of sums profile)
    (λ f others stands stand. c.one_objects.ensures stats setting setting f others sums.digits sums.devices stands stand)
    c.args.first.now c.args.reader.now c.keep_all-statistics.new.reader c.args.writer.now
    c.keep_all-statistics.new.writer c.keep_all-statistics.new.writer c.in-Err.fault
    (subst (λ (r : Result Tally ToolFault). AsTool (Ran g.R.Source.told g.W.Sink.told (keeping_job
    (StatsStand stats setting) (choice_of sums) profile sums.after_bad_token) c.args.first.now
    (c.args.reader.now, c.args.writer.now) (c.keep_all-statistics.new.reader, c.keep_all-statistics.new.writer)) r)
    c.in-Err.is c.keep_all-statistics.ensures)
