-- The columns are narrow, and those of the profile.
use Rattle.std.proofs.Common.{ap, subst, ◌∙◌}
use Rattle.pmb_args.specs.Facts.{facts_wanted_of}
use Rattle.pmb_cli.specs.Facts.{told_as}
use Rattle.pmb_fact_stream.specs.declared.telling.Telling.TheVariants.{Lines}
use Rattle.pmb_io.specs.Runs.{AsTool, Job, Ran}
use Rattle.pmb_io.specs.declared.tally.Tally.{Tally}
use Rattle.pmb_log_lines.specs.Layout.{layout_of}
use Rattle.pmb_log_lines.specs.declared.layout.Layout.{Layout}
use Rattle.pmb_cli.proofs.facts.write_log.Goals as goal

pub write_facts-requires : goal.write_facts-requires
write_facts-requires g c = (c.of.ensures.narrow.name, (c.of.ensures.narrow.page, c.of.ensures.narrow.command))

pub returns : goal.returns
returns g c =
    subst (λ (job : Job Tally). AsTool (Ran g.R.Source.told g.W.Sink.told job c.args.first.now
    (c.args.reader.now, c.args.out.now) (c.write_facts.new.reader, c.write_facts.new.out)) c.write_facts.result)
    (ap (λ (layout : Layout). told_as (Lines layout) (facts_wanted_of c.args.chosen.now) c.args.bus.now)
    (c.of.ensures.layout ∙ ap layout_of c.profile.ensures.profile))
    c.write_facts.ensures
