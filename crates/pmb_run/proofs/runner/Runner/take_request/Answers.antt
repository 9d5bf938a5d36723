use Rattle.std.proofs.Common.{◌∙◌, ℕ, List, subst}
use Rattle.std.proofs.lemmas.Result.{on_ok_weaker}
use Rattle.std.specs.Borrow.{Bor}
use Rattle.pmb_build.specs.Answer.{numbered_text}
use Rattle.pmb_command.specs.Parts.{DeviceParts}
use Rattle.pmb_io.specs.Outgoing.{PutsText}
use Rattle.pmb_request.specs.Request.{request_data}
use Rattle.pmb_host.specs.Host.{IsNewHost}
use Rattle.pmb_run.specs.Answer.{host_fault_text}
use Rattle.pmb_run.proofs.OneRequest.{fault_taken, host_refused}
use Rattle.pmb_run.proofs.runner.Runner.take_request.Goals as goal

-- There is a host, which is run.
pub returns-in-Ok-clause-takes : goal.returns-in-Ok-clause-takes
returns-in-Ok-clause-takes g c members ts line stands spells =
    c.take_host.ensures.takes members ts (request_data c.args.request) line stands spells
    (subst (λ (p : Bor (List DeviceParts)). IsNewHost p.now (request_data c.args.request) c.in-Ok.host)
    c.profile.ensures c.in-Ok.ensures.made)

-- There is none, and the request's fault was put out.
pub returns-in-Err-clause-takes : goal.returns-in-Err-clause-takes
returns-in-Err-clause-takes g c members ts line stands spells =
    let before = c.args.self.now in
    on_ok_weaker c.take_fault.result
    (
    λ writes.
    fault_taken members ts before c.take_fault.new.self line (host_fault_text c.in-Err.fault)
    (g.W.Sink.told c.args.writer.now).held (g.W.Sink.told c.take_fault.new.writer).held
    c.args.waiting.now.items c.take_fault.new.waiting.items
    (host_refused ts before.bench line (request_data c.args.request) c.profile.result c.in-Err.fault spells
    c.profile.ensures c.in-Err.ensures.first) stands
    c.take_fault.ensures.bench c.take_fault.ensures.lines c.take_fault.ensures.counted
    (subst (λ (why : List ℕ). PutsText (g.W.Sink.told c.args.writer.now).held c.args.waiting.now.items
    (g.W.Sink.told c.take_fault.new.writer).held c.take_fault.new.waiting.items (numbered_text before.lines why))
    (c.as_slice.ensures.value ∙ c.fault_text.ensures) writes)
    )
    c.take_fault.ensures.writes
