-- A device may be there, and a byte, and the bytes before it may be a whole write.
use Rattle.std.proofs.Common.{ℕ, false, true, ◌∷◌, ◌++◌, sym, ap, ◌∙◌, subst, arith}
use Rattle.pmb_bus.specs.Address.{write_address}
use Rattle.pmb_bus.specs.Pec.{pec}
use Rattle.pmb_command.specs.Bus.{IsBus}
use Rattle.pmb_command.specs.Parts.{device_with}
use Rattle.pmb_json_text.specs.declared.item_order.ItemOrder.TheVariants.{Later}
use Rattle.pmb_json_text.specs.Member.{members_text}
use Rattle.pmb_transaction.proofs.Known.{device_is}
use Rattle.pmb_json_objects.specs.Packets.{refused_check, right_members}
use Rattle.pmb_json_objects.proofs.Checked.{no_byte, no_device, of_bytes}
use Rattle.pmb_json_objects.proofs.Lists.{nothing}
use Rattle.pmb_json_objects.proofs.refused.append_check.Goals as goal

pub returns-then-at_read-clause-members : goal.returns-then-at_read-clause-members
returns-then-at_read-clause-members g c = λ known sees.
    nothing c.args.out.now.items ∙ ap (λ r. c.args.out.now.items
    ++ members_text Later (refused_check c.args.addr (device_with c.args.addr known.profile) c.args.sent.now r))
    (sym c.if-at_read.true)

pub returns-in_default-clause-members : goal.returns-in_default-clause-members
returns-in_default-clause-members g c = λ known sees.
    let old = c.args.out.now.items in
    nothing old ∙ ap (λ ms. old ++ members_text Later ms) (sym (no_device c.args.addr c.args.sent.now))
    ∙ ap (λ d. old ++ members_text Later (refused_check c.args.addr d c.args.sent.now false))
    (c.in_default.ensures known sees)
    ∙ ap (λ r. old ++ members_text Later (refused_check c.args.addr (device_with c.args.addr known.profile)
    c.args.sent.now r)) (sym c.if-at_read.false)

pub returns-in_default-split-clause-members : goal.returns-in_default-split-clause-members
returns-in_default-split-clause-members g c = λ known sees.
    let old = c.args.out.now.items in
    let device = c.in-Some.device.now in
    nothing old ∙ ap (λ ms. old ++ members_text Later ms)
    (sym (no_byte c.args.addr device c.args.sent.now c.in_default-split.ensures))
    ∙ ap (λ d. old ++ members_text Later (refused_check c.args.addr d c.args.sent.now false))
    (c.in-Some.ensures known sees)
    ∙ ap (λ r. old ++ members_text Later (refused_check c.args.addr (device_with c.args.addr known.profile)
    c.args.sent.now r)) (sym c.if-at_read.false)

pub returns-then-is_whole_write-clause-members : goal.returns-then-is_whole_write-clause-members
returns-then-is_whole_write-clause-members g c = λ known sees.
    let old = c.args.out.now.items in
    let device = c.in-Some.device.now in
    let front = c.in-Some-split.front.now in
    let last = c.in-Some-split.last in
    let check = of_bytes c.args.addr device c.args.sent.now front last true c.in-Some-split.ensures
    (sym c.is_whole_write.ensures ∙ c.if-is_whole_write.true) in
    let bus = subst IsBus sees.profile c.accepted_bus.ensures in
    let same = c.address.ensures.address ∙ (device_is known.profile c.args.addr device bus
    (sym (c.in-Some.ensures known sees))).1 in
    c.append_right.ensures.members (omega (arith, c.address.ensures.address, c.address.ensures.seven_bits))
    ∙ ap (λ (addr : ℕ). old ++ members_text Later (right_members last (pec (write_address addr ∷ front)))) same
    ∙ ap (λ ms. old ++ members_text Later ms) (sym check)
    ∙ ap (λ d. old ++ members_text Later (refused_check c.args.addr d c.args.sent.now false))
    (c.in-Some.ensures known sees)
    ∙ ap (λ r. old ++ members_text Later (refused_check c.args.addr (device_with c.args.addr known.profile)
    c.args.sent.now r)) (sym c.if-at_read.false)

pub returns-else-is_whole_write-clause-members : goal.returns-else-is_whole_write-clause-members
returns-else-is_whole_write-clause-members g c = λ known sees.
    let old = c.args.out.now.items in
    let device = c.in-Some.device.now in
    let check = of_bytes c.args.addr device c.args.sent.now c.in-Some-split.front.now c.in-Some-split.last false
    c.in-Some-split.ensures (sym c.is_whole_write.ensures ∙ c.if-is_whole_write.false) in
    nothing old ∙ ap (λ ms. old ++ members_text Later ms) (sym check)
    ∙ ap (λ d. old ++ members_text Later (refused_check c.args.addr d c.args.sent.now false))
    (c.in-Some.ensures known sees)
    ∙ ap (λ r. old ++ members_text Later (refused_check c.args.addr (device_with c.args.addr known.profile)
    c.args.sent.now r)) (sym c.if-at_read.false)
