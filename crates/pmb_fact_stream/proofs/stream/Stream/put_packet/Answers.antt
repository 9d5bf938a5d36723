use Rattle.std.proofs.Common.{ℕ, List, ap, refl, sym, ◌∙◌, ◌+◌}
use Rattle.std.proofs.lemmas.Result.{on_ok_weaker}
use Rattle.pmb_facts.specs.Fact as fact
use Rattle.pmb_transaction.specs.declared.transaction.Transaction.{Transaction}
use Rattle.pmb_transaction.specs.Transaction.{Call, Read, transaction_data}
use Rattle.pmb_fact_stream.specs.Stream.{stream_time}
use Rattle.pmb_fact_stream.specs.machine.Begun.{kept_facts}
use Rattle.pmb_fact_stream.proofs.Putting.{puts_as, puts_both}
use Rattle.pmb_fact_stream.proofs.Starts.{refused_kept}
use Rattle.pmb_fact_stream.proofs.stream.Stream.put_packet.Goals as goal

-- parts, and the leg after them
pub returns-in_ok-put_parts-in-Refused-clause-puts : goal.returns-in_ok-put_parts-in-Refused-clause-puts
returns-in_ok-put_parts-in-Refused-clause-puts g c some known =
    let stream = c.args.self.now in
    let refused = c.in-Refused in
    on_ok_weaker c.put_at-in-Refused.result (λ puts.
    puts_as g.K.Keeper.Keeps stream _ _ _ (λ b. kept_facts b.past (stream_time stream) stream.begun.items
    (transaction_data c.args.transaction.now)) _ _ _ _
    (λ b knows.
    refused_kept b.past (stream_time stream) stream.begun.items refused.parts.items
    c.as_slice-in-Refused.result.now
    refused.sent.items c.as_slice-in-Refused-2.result.now c.len-in-Refused.result c.len-in-Refused-2.result
    refused.addr refused.at_read
    c.as_slice-in-Refused.ensures.value c.len-in-Refused.ensures.value c.len-in-Refused-2.ensures.value
    c.as_slice-in-Refused-2.ensures.value
    ∙ ap (λ (t : Transaction). kept_facts b.past (stream_time stream) stream.begun.items (transaction_data t))
    (sym refused.is))
    (puts_both g.K.Keeper.Keeps stream _ _ _ _ _ _ _ _ _ _ _ (c.in_ok-put_parts-in-Refused.ensures.puts some known)
    puts))
    (c.put_at-in-Refused.ensures.puts some (fact.Refused (c.len-in-Refused.result + 1) refused.addr
    c.as_slice-in-Refused-2.result.now refused.at_read) known refl)

pub returns-in-Alert-clause-puts : goal.returns-in-Alert-clause-puts
returns-in-Alert-clause-puts g c some known =
    let stream = c.args.self.now in
    let alert = c.in-Alert in
    on_ok_weaker c.put_at-in-Alert.result (λ puts.
    puts_as g.K.Keeper.Keeps stream _ _ _ (λ b. kept_facts b.past (stream_time stream) stream.begun.items
    (transaction_data c.args.transaction.now)) _ _ _ _
    (λ b knows. ap (λ (t : Transaction). kept_facts b.past (stream_time stream) stream.begun.items (transaction_data t))
    (sym alert.is)) puts)
    (c.put_at-in-Alert.ensures.puts some (fact.Alert (record { byte = alert.byte; pec = alert.pec })) known refl)

pub returns-in-NoAlert-clause-puts : goal.returns-in-NoAlert-clause-puts
returns-in-NoAlert-clause-puts g c some known =
    let stream = c.args.self.now in
    on_ok_weaker c.put_at-in-NoAlert.result (λ puts.
    puts_as g.K.Keeper.Keeps stream _ _ _ (λ b. kept_facts b.past (stream_time stream) stream.begun.items
    (transaction_data c.args.transaction.now)) _ _ _ _
    (λ b knows. ap (λ (t : Transaction). kept_facts b.past (stream_time stream) stream.begun.items (transaction_data t))
    (sym c.in-NoAlert.is)) puts)
    (c.put_at-in-NoAlert.ensures.puts some fact.NoAlert known refl)

pub returns-in-Read-clause-puts : goal.returns-in-Read-clause-puts
returns-in-Read-clause-puts g c some known =
    let stream = c.args.self.now in
    let read = c.in-Read in
    on_ok_weaker c.put_at.result (λ puts.
    puts_as g.K.Keeper.Keeps stream _ _ _ (λ b. kept_facts b.past (stream_time stream) stream.begun.items
    (transaction_data c.args.transaction.now)) _ _ _ _
    (λ b knows. ap (λ (bytes : List ℕ). kept_facts b.past (stream_time stream) stream.begun.items
    (Read (record { addr = read.addr; code = read.code; reply = bytes; pec = read.pec })))
    c.as_slice-in-Read.ensures.value
    ∙ ap (λ (t : Transaction). kept_facts b.past (stream_time stream) stream.begun.items
    (transaction_data t)) (sym read.is)) puts)
    (c.put_at.ensures.puts some (fact.Read (record {
      addr = read.addr;
      code = read.code;
      reply = c.as_slice-in-Read.result.now;
      pec =
          read.pec;
    })) known refl)

pub returns-in-Call-clause-puts : goal.returns-in-Call-clause-puts
returns-in-Call-clause-puts g c some known =
    let stream = c.args.self.now in
    let call = c.in-Call in
    on_ok_weaker c.put_at-in-Call.result (λ puts.
    puts_as g.K.Keeper.Keeps stream _ _ _ (λ b. kept_facts b.past (stream_time stream) stream.begun.items
    (transaction_data c.args.transaction.now)) _ _ _ _
    (λ b knows. ap (λ (sent : List ℕ). kept_facts b.past (stream_time stream) stream.begun.items
    (Call (record {
      addr = call.addr;
      code = call.code;
      bytes = sent;
      reply = c.as_slice-in-Call-2.result.now;
      pec =
          call.pec;
    }))) c.as_slice-in-Call.ensures.value
    ∙ ap (λ (reply : List ℕ). kept_facts b.past (stream_time stream) stream.begun.items
    (Call (record { addr = call.addr; code = call.code; bytes = call.bytes.items; reply = reply; pec = call.pec })))
    c.as_slice-in-Call-2.ensures.value
    ∙ ap (λ (t : Transaction). kept_facts b.past (stream_time stream) stream.begun.items
    (transaction_data t)) (sym call.is)) puts)
    (c.put_at-in-Call.ensures.puts some (fact.Call (record {
      addr = call.addr;
      code = call.code;
      bytes = c.as_slice-in-Call.result.now;
      reply = c.as_slice-in-Call-2.result.now;
      pec =
          call.pec;
    })) known refl)
