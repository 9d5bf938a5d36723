use Rattle.pmb_stats_laws.proofs.laws.the_whole_is_its_devices.Goals as goal

pub returns : goal.returns
returns c ignored profile after bytes facts sort bus are =
    c.devices_make_the_whole.ensures sort facts
    (c.facts_are_addressed.ensures ignored profile after bytes facts bus are)
