-- What contracts see of the keys of a device.
use Rattle.std.specs.Prelude.{option_map}
use Rattle.toml.specs.View.{items_view}
use Rattle.pmb_keys.specs.declared.device_keys.DeviceKeys.{DeviceKeys as CodeKeys}
use Rattle.pmb_keys.specs.DeviceKeys.{DeviceKeys}
use Rattle.pmb_keys.specs.VidView.{vid_parts}

abbrev pub keys_parts : CodeKeys → DeviceKeys
keys_parts k = record {
  address = k.address;
  pec = k.pec;
  pages = k.pages;
  modes = k.modes.items;
  standard = k.standard;
  vout_direct = k.vout_direct;
  commands = items_view k.commands.now;
  name = option_map (λ name. name.bytes) k.name;
  vid = option_map vid_parts k.vid;
  phases = k.phases;
  protect = k.protect;
  also = k.also;
}
