use Rattle.std.proofs.Common.{ℕ, List, [], ◌∷◌, ◌++◌, map, sym, ap, ◌∙◌, append_assoc}
use Rattle.std.specs.Prelude.{codes}
use Rattle.std.specs.List.{flat_map}
use Rattle.pmb_transaction.specs.Transaction.{PartData, part_data}
use Rattle.pmb_transaction.specs.Transaction as says
use Rattle.pmb_line.specs.declared.token.Token.{Token}
use Rattle.pmb_line.specs.declared.token.Token.TheVariants.{Byte, Pec, Read, Colon}
use Rattle.pmb_line.specs.Spelling.{bytes, line, mark, part_before}
use Rattle.pmb_line.specs.machine.LineText.{behind}
use Rattle.pmb_line.proofs.Writings.{first, marks, more}
use Rattle.pmb_line.proofs.line_text.append_line.Goals as goal

pub returns-in-Read-clause-line : goal.returns-in-Read-clause-line
returns-in-Read-clause-line g c =
    let old = c.args.out.now.items in
    let kw : List ℕ = codes "read" in
    let head : List Token = Byte c.in-Read.addr ∷ Byte c.in-Read.code ∷ [] in
    let reply = c.in-Read.reply.items in
    let step1 = more old kw [] head _ _ (first old kw _ c.append-in-Read.ensures) c.append_bytes.ensures.text in
    let step2 = more old kw head (Colon ∷ []) _ _ step1 c.append-in-Read-2.ensures in
    let step3 = more old kw (head ++ Colon ∷ []) (bytes reply) _ _ step2
    (c.append_bytes-in-Read.ensures.text ∙ ap (λ xs. c.append-in-Read-2.new.out.items ++ behind (bytes xs))
    c.as_slice-in-Read.ensures.value) in
    let marked = marks Pec c.append_bytes-in-Read.new.out.items c.append_mark.new.out.items c.in-Read.pec
    c.append_mark.ensures.marked c.append_mark.ensures.unmarked in
    more old kw ((head ++ Colon ∷ []) ++ bytes reply) (mark Pec c.in-Read.pec) _ _ step3 marked
    ∙ ap (λ t. old ++ line (says.transaction_data t)) (sym c.in-Read.is)

pub returns-in-Call-clause-line : goal.returns-in-Call-clause-line
returns-in-Call-clause-line g c =
    let old = c.args.out.now.items in
    let kw : List ℕ = codes "call" in
    let head : List Token = Byte c.in-Call.addr ∷ Byte c.in-Call.code ∷ [] in
    let sent = c.in-Call.bytes.items in
    let reply = c.in-Call.reply.items in
    let step1 = more old kw [] head _ _ (first old kw _ c.append-in-Call.ensures) c.append_bytes-in-Call.ensures.text in
    let step2 = more old kw head (bytes sent) _ _ step1
    (c.append_bytes-in-Call-2.ensures.text ∙ ap (λ xs. c.append_bytes-in-Call.new.out.items ++ behind (bytes xs))
    c.as_slice-in-Call.ensures.value) in
    let step3 = more old kw (head ++ bytes sent) (Colon ∷ []) _ _ step2 c.append-in-Call-2.ensures in
    let step4 = more old kw ((head ++ bytes sent) ++ Colon ∷ []) (bytes reply) _ _ step3
    (c.append_bytes-in-Call-3.ensures.text ∙ ap (λ xs. c.append-in-Call-2.new.out.items ++ behind (bytes xs))
    c.as_slice-in-Call-2.ensures.value) in
    let marked = marks Pec c.append_bytes-in-Call-3.new.out.items c.append_mark-in-Call.new.out.items c.in-Call.pec
    c.append_mark-in-Call.ensures.marked c.append_mark-in-Call.ensures.unmarked in
    more old kw (((head ++ bytes sent) ++ Colon ∷ []) ++ bytes reply) (mark Pec c.in-Call.pec) _ _ step4 marked
    ∙ ap (λ xs. old ++ (kw ++ behind (xs ++ mark Pec c.in-Call.pec)))
    (append_assoc (head ++ bytes sent) (Colon ∷ []) (bytes reply))
    ∙ ap (λ t. old ++ line (says.transaction_data t)) (sym c.in-Call.is)

pub returns-in-Refused-clause-line : goal.returns-in-Refused-clause-line
returns-in-Refused-clause-line g c =
    let old = c.args.out.now.items in
    let kw : List ℕ = codes "refused" in
    let front : List Token = flat_map part_before (map part_data c.in-Refused.parts.items) in
    let addr : List Token = Byte c.in-Refused.addr ∷ [] in
    let sent = c.in-Refused.sent.items in
    let step1 = more old kw [] front _ _ (first old kw _ c.append-in-Refused.ensures)
    (c.append_parts_before.ensures.text ∙ ap
    (λ xs. c.append-in-Refused.new.out.items ++ behind (flat_map part_before (map part_data xs)))
    c.as_slice-in-Refused.ensures.value) in
    let step2 = more old kw front addr _ _ step1 c.append_bytes-in-Refused.ensures.text in
    let step3 = more old kw (front ++ addr) (bytes sent) _ _ step2
    (c.append_bytes-in-Refused-2.ensures.text
    ∙ ap (λ xs. c.append_bytes-in-Refused.new.out.items ++ behind (bytes xs))
    c.as_slice-in-Refused-2.ensures.value) in
    let marked = marks Read c.append_bytes-in-Refused-2.new.out.items c.append_mark-in-Refused.new.out.items
    c.in-Refused.at_read c.append_mark-in-Refused.ensures.marked c.append_mark-in-Refused.ensures.unmarked in
    more old kw ((front ++ addr) ++ bytes sent) (mark Read c.in-Refused.at_read) _ _ step3 marked
    ∙ ap (λ xs. old ++ (kw ++ behind (xs ++ mark Read c.in-Refused.at_read))) (append_assoc front addr (bytes sent))
    ∙ ap (λ t. old ++ line (says.transaction_data t)) (sym c.in-Refused.is)
