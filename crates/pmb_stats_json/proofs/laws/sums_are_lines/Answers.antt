use Rattle.pmb_json.proofs.JsonLines.{SpellsJson}
use Rattle.pmb_stats_objects.specs.Objects.{stats_objects}
use Rattle.pmb_summary.specs.Choice.{setting_of}
use Rattle.pmb_stats_json.proofs.Lines.{lines_are_json}
use Rattle.pmb_stats_json.proofs.laws.sums_are_lines.Goals as goal

pub returns : goal.returns
returns c = λ profile bus sums tally bytes text says writes.
    let spells : SpellsJson = record { json = c.spelling_is_json.ensures; line = c.spelling_fits_in_line.ensures } in
    let accepted = c.said_profiles_are_accepted.ensures.text profile bus says in
    let setting = setting_of sums bus.devices in
    lines_are_json spells sums.devices (stats_objects sums.digits setting writes.facts) text writes.sums_are
    (c.objects_are_json.ensures sums.digits setting writes.facts accepted.devices
    (c.observations_fit.ensures.observed sums bus.devices bytes writes.bad writes.facts writes.counts accepted.formats
    writes.from_first)
    (c.observations_fit.ensures.times sums bus.devices bytes writes.bad writes.facts writes.counts writes.from_first))
