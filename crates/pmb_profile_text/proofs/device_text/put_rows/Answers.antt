use Rattle.std.proofs.Common.{◌≡◌, ◌∙◌, List, OnOk, ℕ, false, true, subst, sym}
use Rattle.pmb_command.specs.Fitting.{register_form}
use Rattle.pmb_io.specs.Outgoing.{PutsText}
use Rattle.pmb_profile_text.specs.Table.{begins_by_page}
use Rattle.pmb_profile_text.proofs.device_text.put_rows.Goals as goal

-- a row for each page
pub returns-then-begins_by_page-clause-puts : goal.returns-then-begins_by_page-clause-puts
returns-then-begins_by_page-clause-puts g c = λ command is same.
    let by_page : begins_by_page c.args.device.now command (register_form command.entry.shape) ≡ true =
    sym (c.begins_by_page.ensures command is same) ∙ c.if-begins_by_page.true in
    rw by_page (c.put_page_rows.ensures.puts command is same)

-- one row
pub returns-clause-puts : goal.returns-clause-puts
returns-clause-puts g c = λ command is same.
    let alike : begins_by_page c.args.device.now command (register_form command.entry.shape) ≡ false =
    sym (c.begins_by_page.ensures command is same) ∙ c.if-begins_by_page.false in
    rw alike
    (subst (λ (row : List ℕ). OnOk c.put.result
    (PutsText (g.W.Sink.told c.args.writer.now).held c.args.waiting.now.items (g.W.Sink.told c.put.new.writer).held
    c.put.new.waiting.items row))
    (c.as_slice.ensures.value ∙ c.command_row.ensures command is same) c.put.ensures.ok)
