use Rattle.std.proofs.Common.{◌∙◌, ap, sym, Some, ℕ, List}
use Rattle.pmb_registers.proofs.Held.{held_at, held_more, is_there, has_another_code, has_another_page}
use Rattle.pmb_registers.proofs.register.bytes_on.Goals as goal
use Rattle.pmb_registers.proofs.register.bytes_on.Goals.{else-register-code-via-then-register-code+else-is_of_page}
use Rattle.pmb_registers.proofs.register.bytes_on.Goals.{else-register-code-via-else-register-code}

pub returns-then-is_of_page-clause-held : goal.returns-then-is_of_page-clause-held
returns-then-is_of_page-clause-held c =
    let r = c.register-item.result in
    ap (λ (bytes : List ℕ). Some bytes) c.as_slice.ensures.value
    ∙ sym (held_at c.args.page c.args.code c.args.registers.now c.loop-register.register-index r
    c.loop-register-test.true c.loop-register.invariant c.register-item.is
    (is_there c.args.page c.args.code r c.if-register-code.true (sym c.if-is_of_page.ensures)))

pub loop-register-preserved : goal.loop-register-preserved
loop-register-preserved c =
    let r = c.register-item.result in
    held_more c.args.page c.args.code c.args.registers.now c.loop-register.register-index r c.loop-register-test.true
    c.loop-register.invariant c.register-item.is
    (elim c.else-register-code.branch [
      | else-register-code-via-then-register-code+else-is_of_page w ↦ has_another_page c.args.page c.args.code r
          w.if-register-code.true (sym w.if-is_of_page.ensures)
      | else-register-code-via-else-register-code w ↦ has_another_code c.args.page c.args.code r
          w.if-register-code.false
    ])
