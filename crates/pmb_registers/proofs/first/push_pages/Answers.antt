use Rattle.std.proofs.Common.{◌≡◌, ◌∙◌, ◌++◌, ℕ, Some, map, ap, arith}
use Rattle.std.specs.List.{range_with_len}
use Rattle.pmb_registers.specs.machine.Registers.{register_data}
use Rattle.pmb_registers.proofs.Beginning.{beginning, one_register, pushed_page}
use Rattle.pmb_registers.proofs.first.push_pages.Goals as goal

pub loop-page-preserved : goal.loop-page-preserved
loop-page-preserved c = record {
  added = λ command is.
      pushed_page (one_register c.args.code (beginning c.args.device.now command c.args.form))
      (map register_data c.args.registers.now.items) (map register_data c.loop-page.registers.items)
      (map register_data c.push_register.new.registers.items) c.loop-page.page
      (c.loop-page.invariant.added command is) (c.push_register.ensures.added command is);
  count = omega (arith, c.push_register.ensures.one, c.loop-page.invariant.count);
  room = c.push_register.ensures.room ∙ c.loop-page.invariant.room;
}

pub returns-clause-added : goal.returns-clause-added
returns-clause-added c = λ command is.
    let all : c.loop-page.page ≡ c.args.device.now.pages =
    omega (arith, c.loop-page-test.false, c.loop-page.auto.page-end, c.pages-page-end.ensures) in
    let register = one_register c.args.code (beginning c.args.device.now command c.args.form) in
    c.loop-page.invariant.added command is
    ∙ ap (λ (pages : ℕ). map register_data c.args.registers.now.items
    ++ map register (map Some (range_with_len 0 pages))) all
