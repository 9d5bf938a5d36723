use Rattle.std.proofs.Common.{◌≡◌, ◌∙◌, ap, sym, ℕ, Option, Some, [], ◌∷◌}
use Rattle.pmb_coefficients.specs.Coefficients.{Coefficients}
use Rattle.pmb_command.specs.Parts.{DeviceParts, VidParts}
use Rattle.pmb_json_fields.specs.declared.basis.Basis.{Basis}
use Rattle.pmb_json_objects.specs.Seen.{basis_at, mode_at, page_at}
use Rattle.pmb_mean.specs.Numbers.{NumberData}
use Rattle.pmb_observed.specs.Observed.{NumberAt}
use Rattle.pmb_observed.specs.Observing.{number_at, number_of}
use Rattle.pmb_observed.specs.declared.spot.Spot.{Spot}
use Rattle.pmb_stats.proofs.observed.observe_number.Goals as goal
use Rattle.pmb_unknown_start.specs.declared.mode.KnownMode.{KnownMode}
use Rattle.pmb_voltage.specs.Voltage.{VoltagesData, voltages_of}

-- a number at a spot, by the number that there may be
at_spot : (spot other : Spot) (number : NumberData) (told : Option NumberData) → spot ≡ other → Some number ≡ told
    → NumberAt spot number ∷ [] ≡ number_at other told
at_spot spot other number told same is = ap (λ s. NumberAt s number ∷ []) same ∙ ap (number_at other) is

-- what is known of the voltages of a device
abbrev voltages : KnownMode → Option ℕ → Option Coefficients → Option VidParts → VoltagesData
voltages mode page coefficients vid = record { mode = mode; page = page; coefficients = coefficients; vid = vid }

same_voltages : (device : DeviceParts) (m n : KnownMode) (p q : Option ℕ) (d : Option Coefficients) (v : Option VidParts)
    → m ≡ n → p ≡ q → d ≡ device.vout_direct → v ≡ device.vid → voltages m p d v ≡ voltages_of device n q
same_voltages device m n p q d v mode page coefficients vid =
    ap (λ x. voltages x p d v) mode ∙ (ap (λ x. voltages n x d v) page
    ∙ (ap (λ x. voltages n q x v) coefficients ∙ ap (voltages n q device.vout_direct) vid))

pub returns-in-Some : goal.returns-in-Some
returns-in-Some c known time sees =
    let kind = c.args.command.now.entry.kind in
    let bytes = c.args.bytes.now in
    let addr = c.args.addr in
    let code = c.args.code in
    let mode : c.mode.result ≡ mode_at known addr = c.mode.ensures known.profile known.start known.before sees.late in
    let page : c.page.result ≡ page_at known addr = c.page.ensures known.profile known.start known.before sees.late in
    let basis : c.basis.result ≡ basis_at known addr = c.basis.ensures known sees in
    let same = same_voltages c.args.device.now _ _ _ _ _ _ mode page c.vout_direct.ensures c.vid.ensures.vid in
    at_spot _ _ _ _ (c.spot_of.ensures known sees)
    (sym c.in-Some.is ∙ (c.number_of-number.ensures
    ∙ (ap (λ (v : VoltagesData). number_of v c.basis.result code kind bytes) same
    ∙ ap (λ (b : Basis). number_of (voltages_of c.args.device.now (mode_at known addr) (page_at known addr)) b code
    kind bytes) basis)))
