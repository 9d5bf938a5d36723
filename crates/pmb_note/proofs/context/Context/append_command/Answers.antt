use Rattle.std.proofs.Common.{◌≡◌, ◌∙◌, ◌++◌, List, ℕ, ap, subst, sym}
use Rattle.pmb_command.specs.Entry.{EntryParts, entry_parts}
use Rattle.pmb_command.specs.Parts.{DeviceParts, device_with}
use Rattle.pmb_note.specs.Note.{command_text, value_text}
use Rattle.pmb_note.specs.machine.Standing.{mode_in}
use Rattle.pmb_note.specs.machine.Written.{Appends}
use Rattle.pmb_note.proofs.Notes.{of_known}
use Rattle.pmb_note.proofs.context.Context.append_command.Goals as goal

pub returns-in-Some-entry : goal.returns-in-Some-entry
returns-in-Some-entry g c =
    let profile = c.args.self.now.profile.now in
    let modes = mode_in c.args.self.now in
    let device = c.in-Some.device.now in
    let entry = entry_parts c.in-Some-entry.entry.now in
    let bytes = c.args.bytes.now in
    let by_mode = ap (λ (text : List ℕ). entry.name ++ text)
    (c.mode_for.ensures device.vout_direct entry.code bytes) in
    let known = of_known (λ (d : DeviceParts) (e : EntryParts). value_text (modes c.args.addr) d e bytes) c.args.code
    device entry (device_with c.args.addr profile) c.in-Some.ensures.device c.in-Some-entry.ensures.entry in
    let same : value_text c.mode_for.result device entry bytes
    ≡ command_text profile modes c.args.addr c.args.code bytes =
    by_mode ∙ sym known in
    subst (λ (text : List ℕ). Appends text 320 c.args.out.now.items c.append_value.new.out.items) same
    c.append_value.ensures
