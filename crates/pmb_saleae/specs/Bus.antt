-- Of which analyzer a name is.
use Rattle.std.specs.Prelude.{List, ℕ, if◌then◌else◌}
use Rattle.pmb_recording.specs.Recording.{is_followed}
use Rattle.pmb_recording.specs.declared.recording.Recording.{Recording}
use Rattle.pmb_saleae.specs.Row.{lost_front}
use Rattle.pmb_saleae.specs.declared.bus.Bus.{Bus}
use Rattle.pmb_saleae.specs.declared.bus.Bus.TheVariants.{Followed, Cut, Other}

abbrev pub bus_of : Recording → List ℕ → Bus
bus_of r name =
    if is_followed r name then Followed else if lost_front r.bus.items name then Cut else Other
