use Rattle.std.proofs.Common.{◌++◌}
use Rattle.pmb_items.specs.Record.{command_bytes, device_bytes, kind_bytes, part_bytes, text_part, value_bytes}
use Rattle.pmb_items.specs.Record.{where_bytes}
use Rattle.pmb_items.proofs.Records.{joined}
use Rattle.pmb_items.proofs.item.Item.append.Goals as goal

pub returns-clause-record : goal.returns-clause-record
returns-clause-record g c =
    let item = c.args.self.now in
    let new = c.put_text_part.new.out.items in
    let kinds = kind_bytes item ++ text_part item in
    let devices = device_bytes item ++ kinds in
    let commands = command_bytes item ++ devices in
    let values = value_bytes item ++ commands in
    joined c.args.out.now.items (where_bytes item) (part_bytes item ++ values) c.put_where.new.out.items new
    c.put_where.ensures.record
    (joined c.put_where.new.out.items (part_bytes item) values c.put_part.new.out.items new c.put_part.ensures.record
    (joined c.put_part.new.out.items (value_bytes item) commands c.put_value.new.out.items new c.put_value.ensures.record
    (joined c.put_value.new.out.items (command_bytes item) devices c.put_command.new.out.items new
    c.put_command.ensures.record
    (joined c.put_command.new.out.items (device_bytes item) kinds c.put_device.new.out.items new
    c.put_device.ensures.record
    (joined c.put_device.new.out.items (kind_bytes item) (text_part item) c.put_kind.new.out.items new
    c.put_kind.ensures.record c.put_text_part.ensures.record)))))
