use Rattle.std.proofs.Common.{List, ℕ, ap, refl, subst}
use Rattle.pmb_request.specs.Request.{Command, CallBytes}
use Rattle.pmb_transaction.specs.Transaction.{Call}
use Rattle.pmb_writer.specs.Invalid.{AreKept, forms_at}
use Rattle.pmb_host.specs.Rules.{call_rules}
use Rattle.pmb_host.proofs.Making.{empty_reply}
use Rattle.pmb_host.proofs.host.Host.caller.Goals as goal

pub returns-in-Ok : goal.returns-in-Ok
returns-in-Ok c =
    let command : Command = record { addr = c.args.addr; code = c.args.code; pec = c.args.pec } in
    let kept = subst (λ (bytes : List ℕ). AreKept (call_rules c.args.profile.now command bytes))
    c.as_slice.ensures.value c.in-Ok.ensures.kept in
    let no_reply = ap (λ (reply : List ℕ). Call
    (record {
      addr = c.args.addr;
      code = c.args.code;
      bytes = c.args.bytes.items;
      reply = reply;
      pec =
          c.args.pec;
    })) c.new.ensures in
    let empty = c.new-reply.ensures in
    c.of.ensures (CallBytes command c.args.bytes.items) 0 (kept, refl) no_reply
    (empty_reply c.new-reply.result (forms_at c.args.profile.now c.args.addr c.args.code).call c.in-Ok.form c.args.pec
    c.in-Ok.ensures.form_is empty.form empty.pec empty.empty)
