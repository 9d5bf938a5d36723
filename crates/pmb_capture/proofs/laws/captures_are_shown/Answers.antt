use Rattle.std.proofs.Common.{map, refl}
use Rattle.pmb_transaction.specs.Reading.{Accepted}
use Rattle.pmb_capture.proofs.Shown.{shown_as_written}
use Rattle.pmb_capture.proofs.laws.captures_are_shown.Goals as goal

pub returns : goal.returns
returns c profile ts events bytes bus capture spells =
    shown_as_written profile ts events bytes spells
    ((c.captures_read_as_written.ensures profile ts events (map Accepted ts) bus capture).1 refl)
