use Rattle.std.proofs.Common.{List, ℕ, map, subst, sym}
use Rattle.pmb_transaction.specs.declared.part.Part.{Part}
use Rattle.pmb_transaction.specs.declared.transaction.Transaction.{Transaction}
use Rattle.pmb_transaction.specs.Transaction.{part_data, transaction_data}
use Rattle.pmb_unknown_start.specs.machine.Keeping.{Keeps, kept_after, kept_parts, kept_read}
use Rattle.pmb_unknown_start.proofs.late.take_transaction.Goals as goal

pub returns-in-Write : goal.returns-in-Write
returns-in-Write c = λ now keeps.
    subst (λ (t : Transaction). Keeps c.take_parts.new.kept c.args.profile.now
    (λ device. kept_after c.args.start device (now device) (transaction_data t))) (sym c.in-Write.is)
    (subst (λ (ps : List Part). Keeps c.take_parts.new.kept c.args.profile.now
    (λ device. kept_parts c.args.start device (map part_data ps) (now device)))
    c.as_slice.ensures.value (c.take_parts.ensures now keeps))

pub returns-in-Refused : goal.returns-in-Refused
returns-in-Refused c = λ now keeps.
    subst (λ (t : Transaction). Keeps c.take_parts-in-Refused.new.kept c.args.profile.now
    (λ device. kept_after c.args.start device (now device) (transaction_data t))) (sym c.in-Refused.is)
    (subst (λ (ps : List Part). Keeps c.take_parts-in-Refused.new.kept c.args.profile.now
    (λ device. kept_parts c.args.start device (map part_data ps) (now device)))
    c.as_slice-in-Refused.ensures.value
    (c.take_parts-in-Refused.ensures now keeps))

pub returns-in-Read : goal.returns-in-Read
returns-in-Read c = λ now keeps.
    subst (λ (t : Transaction). Keeps c.take_read.new.kept c.args.profile.now
    (λ device. kept_after c.args.start device (now device) (transaction_data t))) (sym c.in-Read.is)
    (subst (λ (bytes : List ℕ). Keeps c.take_read.new.kept c.args.profile.now
    (λ device. kept_read device (now device)
    (record { addr = c.in-Read.addr; code = c.in-Read.code; bytes = bytes })))
    c.as_slice-in-Read.ensures.value (c.take_read.ensures now keeps))
