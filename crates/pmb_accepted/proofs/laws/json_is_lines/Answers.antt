-- By the law of each line, whose premises on the profile hold of one that is said.
use Rattle.pmb_accepted.proofs.laws.json_is_lines.Goals as goal

pub returns-clause-whole : goal.returns-clause-whole
returns-clause-whole c = λ profile bus choice after bytes text tally says objects small told.
    let accepted = c.said_profiles_are_accepted.ensures.text profile bus says in
    c.each_line_is_json.ensures.whole choice bus.devices after bytes text tally objects accepted.devices
    accepted.formats small told

pub returns-clause-so_far : goal.returns-clause-so_far
returns-clause-so_far c = λ profile bus choice after bytes text says objects small told.
    let accepted = c.said_profiles_are_accepted.ensures.text profile bus says in
    c.each_line_is_json.ensures.so_far choice bus.devices after bytes text objects accepted.devices accepted.formats
    small told
