use Rattle.std.proofs.Common.{◌∷◌, ◌++◌}
use Rattle.pmb_count.proofs.Refused.{none_refused}
use Rattle.pmb_count.proofs.laws.captures_are_not_refused.Goals as goal

pub returns : goal.returns
returns c = λ profile ts reader events more event outcomes refusal bus capture read.
    none_refused profile (λ n es. c.each_list_has_a_reading.ensures profile n es bus)
    c.events_are_passed_over.ensures.some ts events more event outcomes refusal
    (λ others. (c.captures_read_as_written.ensures profile ts (events ++ event ∷ more) others bus capture).0)
    reader read
