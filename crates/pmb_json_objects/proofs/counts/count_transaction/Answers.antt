-- What each sort of transaction is to a device.
use Rattle.std.proofs.Common.{List, map, sym, subst}
use Rattle.pmb_transaction.specs.declared.part.Part.{Part}
use Rattle.pmb_transaction.specs.declared.transaction.Transaction.{Transaction}
use Rattle.pmb_transaction.specs.Transaction.{part_data, transaction_data}
use Rattle.pmb_json_objects.specs.Counts.{counted, parts_to, sum_of}
use Rattle.pmb_json_objects.specs.machine.Counting.{AreCounts}
use Rattle.pmb_json_objects.proofs.Counting.{alike, one_call, one_read, parts_and_refused, writes_of}
use Rattle.pmb_json_objects.proofs.counts.count_transaction.Goals as goal

pub returns-in-Write : goal.returns-in-Write
returns-in-Write c = λ each counts.
    subst (λ (t : Transaction). AreCounts c.count_parts.new.devices
    (λ addr. sum_of (each addr) (counted addr (transaction_data t)))) (sym c.in-Write.is)
    (subst (λ (ps : List Part). AreCounts c.count_parts.new.devices (λ addr. sum_of (each addr) (writes_of ps addr)))
    c.as_slice.ensures.value
    (c.count_parts.ensures each counts))

pub returns-in-Read : goal.returns-in-Read
returns-in-Read c = λ each counts.
    subst (λ (t : Transaction). AreCounts c.count_at.new.devices
    (λ addr. sum_of (each addr) (counted addr (transaction_data t)))) (sym c.in-Read.is)
    (alike c.count_at.new.devices _ _ (λ addr. one_read (each addr) c.in-Read.addr addr)
    (c.count_at.ensures each counts))

pub returns-in-Call : goal.returns-in-Call
returns-in-Call c = λ each counts.
    subst (λ (t : Transaction). AreCounts c.count_at-in-Call.new.devices
    (λ addr. sum_of (each addr) (counted addr (transaction_data t)))) (sym c.in-Call.is)
    (alike c.count_at-in-Call.new.devices _ _ (λ addr. one_call (each addr) c.in-Call.addr addr)
    (c.count_at-in-Call.ensures each counts))

pub returns-in-Refused : goal.returns-in-Refused
returns-in-Refused c = λ each counts.
    let written = subst (λ (ps : List Part). AreCounts c.count_parts-in-Refused.new.devices
    (λ addr. sum_of (each addr) (writes_of ps addr))) c.as_slice-in-Refused.ensures.value
    (c.count_parts-in-Refused.ensures each counts) in
    subst (λ (t : Transaction). AreCounts c.count_at-in-Refused.new.devices
    (λ addr. sum_of (each addr) (counted addr (transaction_data t)))) (sym c.in-Refused.is)
    (alike c.count_at-in-Refused.new.devices _ _
    (λ addr. parts_and_refused (each addr) (parts_to addr (map part_data c.in-Refused.parts.items)) c.in-Refused.addr
    addr)
    (c.count_at-in-Refused.ensures (λ addr. sum_of (each addr) (writes_of c.in-Refused.parts.items addr)) written))
