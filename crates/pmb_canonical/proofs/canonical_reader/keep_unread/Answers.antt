use Rattle.std.proofs.Common.{◌≡◌, true, [], ◌∙◌}
use Rattle.pmb_transaction.specs.Transaction.{Refused}
use Rattle.pmb_canonical.proofs.PacketLegs.{refused_alone, takes_unread}
use Rattle.pmb_canonical.proofs.canonical_reader.keep_unread.Goals as goal

pub returns-in_err-sent-clause-answers : goal.returns-in_err-sent-clause-answers
returns-in_err-sent-clause-answers c say = absurd (cc (c.in_err-sent.ensures.found say.0 say.1 say.2))

pub returns-clause-takes : goal.returns-clause-takes
returns-clause-takes c text rest split =
    let sent = c.in_ok-sent.sent in
    let last : c.end_refused.new.self.last ≡ Refused
    (record { parts = []; addr = sent.address; sent = sent.bytes.now; at_read = true }) =
    c.end_refused.ensures ∙ refused_alone c.begin.new.self.parts sent.address sent.bytes.now true c.begin.ensures in
    rw last
    (
    takes_unread c.args.profile.now text rest sent.address sent.bytes.now c.args.bytes.now c.args.written _ _
    c.in_ok-sent.ensures.says split c.both_legs.ensures.used c.both_legs.ensures.events
    )
