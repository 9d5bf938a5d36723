use Rattle.std.proofs.Common.{◌≡◌, ◌++◌, List, map, arith, subst, sym}
use Rattle.pmb_command.specs.Entry.{entry_parts}
use Rattle.pmb_registers.specs.State.{RegisterData}
use Rattle.pmb_registers.specs.machine.Registers.{register_data}
use Rattle.pmb_registers.proofs.Beginning.{register_of_all, registers_on_pages, the_command}
use Rattle.pmb_registers.proofs.Count.{counted_all, counted_on_pages}
use Rattle.pmb_registers.proofs.first.push_registers.Goals as goal

pub push_pages-requires : goal.push_pages-requires
push_pages-requires c =
    let device = c.args.device.now in
    let pages = counted_on_pages device c.args.code (entry_parts c.in-Some.entry.now) c.in-Some-register_form.form
    c.in-Some.ensures.entry (sym c.in-Some-register_form.ensures) c.if-entry.true in
    omega (arith, c.requires)

pub push_register-requires : goal.push_register-requires
push_register-requires c =
    let device = c.args.device.now in
    let one = counted_all device c.args.code (entry_parts c.in-Some.entry.now) c.in-Some-register_form.form
    c.in-Some.ensures.entry (sym c.in-Some-register_form.ensures) c.if-entry.false in
    omega (arith, c.requires)

pub returns-then-entry-clause-added : goal.returns-then-entry-clause-added
returns-then-entry-clause-added c =
    let device = c.args.device.now in
    let entry = entry_parts c.in-Some.entry.now in
    let form = c.in-Some-register_form.form in
    let before = map register_data c.args.registers.now.items in
    let after = map register_data c.push_pages.new.registers.items in
    let the = the_command device c.args.code entry form c.in-Some.ensures.entry (sym c.in-Some-register_form.ensures) in
    let are = registers_on_pages device c.args.code entry form c.in-Some.ensures.entry
    (sym c.in-Some-register_form.ensures) c.if-entry.true in
    subst (λ (rs : List RegisterData). after ≡ before ++ rs) are (c.push_pages.ensures.added the.0 the.1.0)

pub returns-else-entry-clause-added : goal.returns-else-entry-clause-added
returns-else-entry-clause-added c =
    let device = c.args.device.now in
    let entry = entry_parts c.in-Some.entry.now in
    let form = c.in-Some-register_form.form in
    let before = map register_data c.args.registers.now.items in
    let after = map register_data c.push_register.new.registers.items in
    let the = the_command device c.args.code entry form c.in-Some.ensures.entry (sym c.in-Some-register_form.ensures) in
    let is = register_of_all device c.args.code entry form c.in-Some.ensures.entry
    (sym c.in-Some-register_form.ensures) c.if-entry.false in
    subst (λ (rs : List RegisterData). after ≡ before ++ rs) is (c.push_register.ensures.added the.0 the.1.0)
