-- What a reader borrows.
use Rattle.std.specs.Prelude.{List}
use Rattle.std.specs.Arc.{arc_value}
use Rattle.pmb_capture_reader.specs.declared.reader_ground.ReaderGround.{ReaderGround}
use Rattle.pmb_command.specs.Parts.{DeviceParts}
use Rattle.pmb_fact_stream.specs.Choice.{ChoiceData}

-- the devices of its bus
abbrev pub ground_profile : ReaderGround → List DeviceParts
ground_profile borrowed = (arc_value borrowed.bus).devices

-- what is wanted, with the addresses that its bus ignores
abbrev pub ground_choice : ReaderGround → ChoiceData
ground_choice borrowed = record {
  digits = borrowed.digits;
  start = borrowed.start;
  devices = borrowed.devices.items;
  ignored = (arc_value borrowed.bus).ignored;
  telling = borrowed.telling;
}
