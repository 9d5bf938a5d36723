use Rattle.std.proofs.Common.{◌∙◌}
use Rattle.pmb_json.proofs.Objects.{lines_are, lines_with_last}
use Rattle.pmb_json.proofs.laws.json_is_the_objects.Goals as goal

pub returns-clause-lines : goal.returns-clause-lines
returns-clause-lines c choice profile facts is =
    lines_are c.objects_name_the_device.ensures choice profile is facts

pub returns-clause-whole : goal.returns-clause-whole
returns-clause-whole c choice profile after bytes text tally is told =
    told.lines ∙ lines_with_last c.objects_name_the_device.ensures choice profile is told.facts told.counts

pub returns-clause-so_far : goal.returns-clause-so_far
returns-clause-so_far c choice profile after bytes text is told =
    told.lines ∙ lines_are c.objects_name_the_device.ensures choice profile is told.facts
