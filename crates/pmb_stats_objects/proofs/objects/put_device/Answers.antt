use Rattle.std.proofs.Common.{◌≡◌, ◌∙◌, ◌++◌, ◌&&◌, not, true, false, Bool, Some, List, [], ap, cond, codes, refl, sym}
use Rattle.pmb_command.specs.Parts.{DeviceParts}
use Rattle.pmb_json_objects.specs.Members.{device_members, kind_member}
use Rattle.pmb_json_objects.specs.Object.{is_wanted}
use Rattle.pmb_json_text.specs.declared.item_order.ItemOrder.TheVariants.{First}
use Rattle.pmb_json_text.specs.Member.{members_text, object_line}
use Rattle.pmb_stats_counts.specs.Counts.{of_device}
use Rattle.pmb_stats_objects.specs.Counts.{counts_members}
use Rattle.pmb_stats_objects.specs.Objects.{device_object}
use Rattle.pmb_stats_objects.proofs.Pieces.{object_line_text}
use Rattle.pmb_stats_objects.proofs.Putting.{appended, on_ok, puts_as}
use Rattle.pmb_stats_objects.proofs.objects.put_device.Goals as goal

not_true : (b : Bool) → not b ≡ true → b ≡ false
not_true true is = absurd (cc is)
not_true false is = refl

not_false : (b : Bool) → not b ≡ false → b ≡ true
not_false true is = refl
not_false false is = absurd (cc is)

pub returns-then-is_empty-clause-puts : goal.returns-then-is_empty-clause-puts
returns-then-is_empty-clause-puts g c = λ setting facts stands.
    let line = object_line (device_object c.args.digits setting facts c.args.addr).members in
    let none = sym (c.devices_that_came_have_counts.ensures c.args.addr facts)
    ∙ not_true _ (sym (c.is_empty.ensures (of_device c.args.addr facts) (c.counts-counts.ensures setting facts stands))
    ∙ c.if-is_empty.true) in
    puts_as (sym (ap (λ (b : Bool). cond (b && is_wanted c.args.devices.now (Some c.args.addr)) line []) none))
    (c.texts_add_up.ensures.nothing _ _)

pub returns-then-not-is_wanted-clause-puts : goal.returns-then-not-is_wanted-clause-puts
returns-then-not-is_wanted-clause-puts g c = λ setting facts stands.
    let line = object_line (device_object c.args.digits setting facts c.args.addr).members in
    let come = sym (c.devices_that_came_have_counts.ensures c.args.addr facts)
    ∙ not_false _ (sym (c.is_empty.ensures (of_device c.args.addr facts) (c.counts-counts.ensures setting facts stands))
    ∙ c.if-is_empty.false) in
    puts_as (sym (ap (λ (b : Bool). cond (b && is_wanted c.args.devices.now (Some c.args.addr)) line []) come
    ∙ ap (λ (b : Bool). cond b line []) (sym c.is_wanted.ensures ∙ c.if-not-is_wanted.true)))
    (c.texts_add_up.ensures.nothing _ _)

pub returns-clause-puts : goal.returns-clause-puts
returns-clause-puts g c = λ setting facts stands.
    let add = c.texts_add_up.ensures.both in
    let addr = c.args.addr in
    let line = object_line (device_object c.args.digits setting facts addr).members in
    let come = sym (c.devices_that_came_have_counts.ensures addr facts)
    ∙ not_false _ (sym (c.is_empty.ensures (of_device addr facts) (c.counts-counts.ensures setting facts stands))
    ∙ c.if-is_empty.false) in
    let head = λ (profile : List DeviceParts). codes "{" ++ members_text First (kind_member (codes "device")
    ++ device_members profile addr ++ counts_members (of_device addr facts)) in
    let begun = puts_as (ap head (c.profile.ensures setting facts stands))
    (appended add c.texts_add_up.ensures.waits (head c.profile.result.now) c.in_ok-make_room.ensures.ok
    (c.begin_device.ensures.begun (of_device addr facts) (c.counts-counts.ensures setting facts stands))) in
    on_ok c.put.result (λ ended.
    puts_as (object_line_text _ _ _
    ∙ sym (ap (λ (b : Bool). cond (b && is_wanted c.args.devices.now (Some addr)) line []) come
    ∙ ap (λ (b : Bool). cond b line []) (sym c.is_wanted.ensures ∙ c.if-not-is_wanted.false)))
    (add _ _ _ _ _ _ _ _ begun (add _ _ _ _ _ _ _ (codes "}\n")
    (c.in_ok-put_pages.ensures.puts setting facts stands) ended))) c.put.ensures.ok
