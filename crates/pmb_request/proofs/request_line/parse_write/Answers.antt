use Rattle.std.proofs.Common.{map, subst}
use Rattle.std.proofs.lemmas.Result.{err_from_is_err_and}
use Rattle.pmb_transaction.specs.Transaction.{part_data, transaction_data}
use Rattle.pmb_line.specs.Fault.{IsWithin}
use Rattle.pmb_line.specs.Spelling.{SpellsTransaction}
use Rattle.pmb_line.specs.Words.{texts, line_words}
use Rattle.pmb_request.proofs.WholeLines.{of_line}
use Rattle.pmb_request.proofs.Writes.{fault_of_write, write_spelled}
use Rattle.pmb_request.proofs.request_line.parse_write.Goals as goal

pub returns-in_err-read_words-clause-err : goal.returns-in_err-read_words-clause-err
returns-in_err-read_words-clause-err c =
    let fault = c.in_err-read_words.field-0.0 in
    let p = err_from_is_err_and c.from_residual.result c.from_residual.ensures.1 in
    rw (p.1, p.2) (of_line c.args.line.now fault
    (fault_of_write c.args.line.now fault c.requires c.in_err-read_words.ensures.err))

pub returns-clause-ok : goal.returns-clause-ok
returns-clause-ok c mode =
    let words = texts (line_words c.args.line.now) in
    write_spelled mode c.args.line.now (map part_data c.in-Write.parts.items)
    (subst (λ t. SpellsTransaction words (transaction_data t)) c.in-Write.is c.in_ok-read_words.ensures.ok)
    (subst (λ t. IsWithin (transaction_data t)) c.in-Write.is c.in_ok-read_words.ensures.within)
