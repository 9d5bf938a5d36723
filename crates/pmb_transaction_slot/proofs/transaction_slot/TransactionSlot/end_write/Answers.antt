use Rattle.std.proofs.Common.{◌≡◌, List, map, take, ap, sym, ◌∙◌}
use Rattle.std.proofs.lemmas.List.{take-map}
use Rattle.pmb_transaction.specs.declared.part.Part.{Part}
use Rattle.pmb_transaction.specs.declared.transaction.Transaction.{Transaction}
use Rattle.pmb_transaction.specs.Transaction.{PartData, Write, part_data}
use Rattle.pmb_transaction_slot.specs.TransactionSlot.{KeptData}
use Rattle.pmb_transaction_slot.specs.TransactionKind.{parts_of}
use Rattle.pmb_transaction_slot.proofs.transaction_slot.TransactionSlot.end_write.Goals as goal

pub returns : goal.returns
returns c =
    let count = c.self.inside.count in
    let before : take count (parts_of c.self.inside.write) ≡ c.args.self.now.parts =
    ap (λ (k : KeptData). k.parts) c.self.view_is in
    let said = ap (λ (t : Transaction). take count (parts_of t)) c.in-Write.is in
    ap (λ (ps : List PartData). Write ps)
    (
    ap (λ (ps : List Part). map part_data ps) c.truncate.ensures.items
    ∙ sym (take-map part_data count c.in-Write.parts.items)
    ∙ sym said
    ∙ ap (take count) c.make_write.ensures.parts
    ∙ before
    )
