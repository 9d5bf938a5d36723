use Rattle.std.proofs.Common.{List, ℕ, fold, map, subst, sym}
use Rattle.pmb_transaction.specs.declared.part.Part.{Part}
use Rattle.pmb_transaction.specs.declared.transaction.Transaction.{Transaction}
use Rattle.pmb_transaction.specs.Transaction.{part_data, transaction_data}
use Rattle.pmb_note.specs.Paging.{after_told, after_transaction, told_by_part}
use Rattle.pmb_note.specs.machine.Standing.{Keeps}
use Rattle.pmb_note.proofs.context.take_transaction.Goals as goal

pub returns-in-Write : goal.returns-in-Write
returns-in-Write c = λ now keeps.
    subst (λ (t : Transaction). Keeps c.take_parts.new.pagings c.args.profile.now
    (λ device. after_transaction device (now device) (transaction_data t))) (sym c.in-Write.is)
    (subst (λ (ps : List Part). Keeps c.take_parts.new.pagings c.args.profile.now
    (λ device. fold (after_told device) (now device) (map told_by_part (map part_data ps)))) c.as_slice.ensures.value
    (c.take_parts.ensures now keeps))

pub returns-in-Refused : goal.returns-in-Refused
returns-in-Refused c = λ now keeps.
    subst (λ (t : Transaction). Keeps c.take_parts-in-Refused.new.pagings c.args.profile.now
    (λ device. after_transaction device (now device) (transaction_data t))) (sym c.in-Refused.is)
    (subst (λ (ps : List Part). Keeps c.take_parts-in-Refused.new.pagings c.args.profile.now
    (λ device. fold (after_told device) (now device) (map told_by_part (map part_data ps))))
    c.as_slice-in-Refused.ensures.value
    (c.take_parts-in-Refused.ensures now keeps))

pub returns-in-Read : goal.returns-in-Read
returns-in-Read c = λ now keeps.
    subst (λ (t : Transaction). Keeps c.take_bytes.new.pagings c.args.profile.now
    (λ device. after_transaction device (now device) (transaction_data t))) (sym c.in-Read.is)
    (subst (λ (bytes : List ℕ). Keeps c.take_bytes.new.pagings c.args.profile.now
    (λ device. after_told device (now device)
    (record { addr = c.in-Read.addr; code = c.in-Read.code; bytes = bytes })))
    c.as_slice-in-Read.ensures.value (c.take_bytes.ensures now keeps))
