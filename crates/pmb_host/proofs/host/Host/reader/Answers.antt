use Rattle.std.proofs.Common.{refl}
use Rattle.pmb_request.specs.Request.{Command, ReadBytes}
use Rattle.pmb_writer.specs.Invalid.{forms_at}
use Rattle.pmb_host.proofs.Making.{empty_reply}
use Rattle.pmb_host.proofs.host.Host.reader.Goals as goal

pub returns-in-Ok : goal.returns-in-Ok
returns-in-Ok c =
    let command : Command = record { addr = c.args.addr; code = c.args.code; pec = c.args.pec } in
    let empty = c.new-reply.ensures in
    c.of.ensures (ReadBytes command) 0 (c.in-Ok.ensures.kept, refl) c.read_of.ensures
    (empty_reply c.new-reply.result (forms_at c.args.profile.now c.args.addr c.args.code).read c.in-Ok.form c.args.pec
    c.in-Ok.ensures.form_is empty.form empty.pec empty.empty)
