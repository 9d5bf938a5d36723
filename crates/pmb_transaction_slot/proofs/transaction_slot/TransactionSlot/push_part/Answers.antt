use Rattle.std.proofs.Common.{◌≡◌, ◌+◌, List, ◌++◌, ◌∷◌, [], take, ap, sym, ◌∙◌}
use Rattle.std.proofs.lemmas.List.{take-map}
use Rattle.pmb_transaction.specs.declared.transaction.Transaction.{Transaction}
use Rattle.pmb_transaction.specs.Transaction.{PartData, part_data}
use Rattle.pmb_transaction_slot.specs.TransactionSlot.{KeptData}
use Rattle.pmb_transaction_slot.specs.TransactionKind.{parts_of}
use Rattle.pmb_transaction_slot.proofs.transaction_slot.TransactionSlot.push_part.Goals as goal

pub returns : goal.returns
returns c =
    let count = c.self.inside.count in
    let before : take count (parts_of c.self.inside.write) ≡ c.args.self.now.parts =
    ap (λ (k : KeptData). k.parts) c.self.view_is in
    let said = ap (λ (t : Transaction). take count (parts_of t)) c.in-Write.is in
    take-map part_data (count + 1) c.put_part.new.parts.items
    ∙ c.put_part.ensures.put
    ∙ ap (λ (ps : List PartData). ps ++ record {
      addr = c.args.addr;
      code = c.args.code;
      bytes =
          c.args.data_bytes.now;
      pec = c.args.pec;
    } ∷ [])
    (sym (take-map part_data count c.in-Write.parts.items) ∙ sym said ∙ ap (take count) c.make_write.ensures.parts
    ∙ before)
