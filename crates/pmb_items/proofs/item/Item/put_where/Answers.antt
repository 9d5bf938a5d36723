use Rattle.std.proofs.Common.{◌++◌}
use Rattle.std.specs.Int.{to_le_bytes, w64}
use Rattle.pmb_items.proofs.Records.{joined}
use Rattle.pmb_items.proofs.item.Item.put_where.Goals as goal

pub returns-clause-record : goal.returns-clause-record
returns-clause-record g c =
    let head = c.args.self.now.head in
    let column = to_le_bytes w64 head.column in
    let line = to_le_bytes w64 head.line in
    let new = c.put_u64-3.new.out.items in
    joined c.args.out.now.items (to_le_bytes w64 head.at) (line ++ column) c.put_u64.new.out.items new
    c.put_u64.ensures.record
    (joined c.put_u64.new.out.items line column c.put_u64-2.new.out.items new c.put_u64-2.ensures.record
    c.put_u64-3.ensures.record)
