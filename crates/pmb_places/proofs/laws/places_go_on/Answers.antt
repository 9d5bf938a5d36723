use Rattle.std.proofs.Common.{[]}
use Rattle.pmb_places.proofs.Bytes.{places_from-append}
use Rattle.pmb_places.proofs.laws.places_go_on.Goals as goal

pub returns : goal.returns
returns c = record { whole = places_from-append []; behind = places_from-append }
