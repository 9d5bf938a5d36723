use Rattle.std.specs.Int.{to_le_bytes, w64}
use Rattle.pmb_items.proofs.Records.{joined}
use Rattle.pmb_items.proofs.item.Item.put_part.Goals as goal

pub returns-clause-record : goal.returns-clause-record
returns-clause-record g c =
    let part = c.args.self.now.part in
    joined c.args.out.now.items (to_le_bytes w64 part.number) (to_le_bytes w64 part.count)
    c.put_u64.new.out.items c.put_u64-2.new.out.items c.put_u64.ensures.record c.put_u64-2.ensures.record
