-- What contracts see of the keys at the top of a profile.
use Rattle.toml.specs.View.{items_view}
use Rattle.pmb_table.specs.declared.bus_profile.Top.{Top}
use Rattle.pmb_table.specs.Profile.{TopKeys}

abbrev pub top_parts : Top → TopKeys
top_parts t = record { devices = items_view t.devices.now; ignored = t.ignored }
