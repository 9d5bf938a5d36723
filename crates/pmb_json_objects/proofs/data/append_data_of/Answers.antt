-- What the data are, by what is known of the device, and then what their fields say.
use Rattle.std.proofs.Common.{◌≡◌, Option, ℕ, ◌++◌, ap, option_map, ◌∙◌}
use Rattle.pmb_coefficients.specs.Coefficients.{Coefficients}
use Rattle.pmb_command.specs.Parts.{DeviceParts, VidParts}
use Rattle.pmb_json_fields.specs.declared.basis.Basis.{Basis}
use Rattle.pmb_json_fields.specs.Value.{data_members}
use Rattle.pmb_json_text.specs.declared.item_order.ItemOrder.TheVariants.{Later}
use Rattle.pmb_json_text.specs.Member.{members_text}
use Rattle.pmb_keys.specs.CommandView.{command_parts}
use Rattle.pmb_keys.specs.VidView.{vid_parts}
use Rattle.pmb_meaning.specs.Data.{Exchange}
use Rattle.pmb_unknown_start.specs.declared.mode.KnownMode.{KnownMode}
use Rattle.pmb_voltage.specs.Voltage.{VoltagesData, voltages_of}
use Rattle.pmb_json_objects.specs.Packets.{fields_say}
use Rattle.pmb_json_objects.specs.Seen.{mode_at, page_at}
use Rattle.pmb_json_objects.proofs.Lists.{joined}
use Rattle.pmb_json_objects.proofs.data.append_data_of.Goals as goal

-- what is known of the voltages of a device
abbrev voltages : KnownMode → Option ℕ → Option Coefficients → Option VidParts → VoltagesData
voltages mode page coefficients vid = record { mode = mode; page = page; coefficients = coefficients; vid = vid }

same_voltages : (device : DeviceParts) (m n : KnownMode) (p q : Option ℕ) (d : Option Coefficients) (v : Option VidParts)
    → m ≡ n → p ≡ q → d ≡ device.vout_direct → v ≡ device.vid → voltages m p d v ≡ voltages_of device n q
same_voltages device m n p q d v mode page coefficients vid =
    λ i. voltages (mode i) (page i) (coefficients i) (vid i)

pub returns-clause-members : goal.returns-clause-members
returns-clause-members g c = λ known sees.
    let old = c.args.out.now.items in
    let access = c.args.access in
    let device = c.args.device.now in
    let addr = c.args.addr in
    let command = command_parts c.args.command.now in
    let bytes = c.args.bytes.now in
    let same = same_voltages device _ _ _ _ _ _ (c.mode.ensures known sees) (c.page.ensures known sees)
    c.vout_direct.ensures c.vid.ensures.vid in
    let members = c.data_members.ensures.members
    ∙ ap (λ (n : ℕ). old ++ members_text Later (data_members n access
    (voltages c.mode.result c.page.result c.vout_direct.result
    (option_map (λ v. vid_parts v.now) c.vid.result)) c.basis-basis.result command bytes)) sees.digits
    ∙ ap (λ (v : VoltagesData). old ++ members_text Later (data_members known.digits access v c.basis-basis.result
    command bytes)) same
    ∙ ap (λ (b : Basis). old ++ members_text Later (data_members known.digits access
    (voltages_of device (mode_at known addr) (page_at known addr)) b command bytes)) (c.basis-basis.ensures known sees) in
    let says = c.says_member.ensures.member
    ∙ ap (λ (x : Exchange). c.data_members.new.out.items ++ members_text Later (fields_say x device command))
    c.payload.ensures in
    joined old _ _ members says
