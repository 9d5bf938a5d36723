-- The sums are those of what the words choose, under the profile and what it ignores.
use Rattle.std.proofs.Common.{◌∙◌, ap, sym}
use Rattle.pmb_args.specs.Stats.{stats_wanted_of}
use Rattle.pmb_args.specs.declared.stats_arguments.StatsForm.{StatsForm}
use Rattle.pmb_args.specs.declared.stats_arguments.StatsForm.TheVariants.{Table, Objects}
use Rattle.pmb_cli.specs.Stats.{stats_of, summed, sums_of}
use Rattle.pmb_cli.proofs.Sums.{ran_as_wanted, summed_as}
use Rattle.pmb_cli.proofs.stats.write_stats.Goals as goal

pub returns-in-Table : goal.returns-in-Table
returns-in-Table g c =
    let bus = c.args.bus.now in
    let wanted = stats_wanted_of c.args.chosen.now in
    let sums = sums_of wanted bus.ignored in
    ran_as_wanted g.R.Source.told g.W.Sink.told _ c.args.first.now (c.args.reader.now, c.args.out.now)
    (c.write_table.new.reader, c.write_table.new.writer) _ (stats_of wanted bus)
    (summed_as Table _ sums.devices sums.ignored sums.fail_on c.profile-profile.result.now bus.devices
    c.as_slice.ensures.value c.ignored.ensures c.words.ensures c.profile-profile.ensures.profile
    ∙ ap (λ (form : StatsForm). summed form sums bus.devices) (sym c.in-Table.is)) c.write_table.result c.write_table.ensures

pub returns-in-Objects : goal.returns-in-Objects
returns-in-Objects g c =
    let bus = c.args.bus.now in
    let wanted = stats_wanted_of c.args.chosen.now in
    let sums = sums_of wanted bus.ignored in
    ran_as_wanted g.R.Source.told g.W.Sink.told _ c.args.first.now (c.args.reader.now, c.args.out.now)
    (c.write_objects.new.reader, c.write_objects.new.writer) _ (stats_of wanted bus)
    (summed_as Objects _ sums.devices sums.ignored sums.fail_on c.profile-profile.result.now bus.devices
    c.as_slice.ensures.value c.ignored.ensures c.words.ensures c.profile-profile.ensures.profile
    ∙ ap (λ (form : StatsForm). summed form sums bus.devices) (sym c.in-Objects.is)) c.write_objects.result c.write_objects.ensures
