-- The spot that data belong to is one of the command's spots, and comes there once.
use Rattle.std.proofs.Common.{◌≡◌, ℕ, Bool, true, false, ◌&&◌, cond, Option, Some, List, ap, eqb, flat_map, inl, inr}
use Rattle.std.proofs.Common.{map, refl, sym, ◌∙◌}
use Rattle.std.proofs.lemmas.Bool.{cases_eq, eq-eqb, ne_eqb}
use Rattle.std.specs.List.{count_by, sum_by}
use Rattle.pmb_command.specs.Parts.{CommandParts, DeviceParts, device_with}
use Rattle.pmb_json_objects.specs.Seen.{SeenData, command_of, page_at, phase_at}
use Rattle.pmb_observed.specs.Observing.{spot_of}
use Rattle.pmb_observed.specs.Spot.{has_phase, page_keys, phase_keys, phases_of, same_page, same_phase, same_spot}
use Rattle.pmb_observed.specs.Spot.{spot_at}
use Rattle.pmb_observed.specs.Told.{command_phases, command_spots, device_pages, pages_of, phases_if, phases_in}
use Rattle.pmb_observed.specs.declared.spot.PageKey.{PageKey}
use Rattle.pmb_observed.specs.declared.spot.PhaseKey.{PhaseKey}
use Rattle.pmb_observed.specs.declared.spot.Spot.{Spot}
use Rattle.pmb_stats.proofs.Pages.{IsPage, comes_once, key_is_page}
use Rattle.pmb_stats.proofs.Phases.{key_has_phase, phase_comes_once}
use Rattle.pmb_stats.proofs.Sums.{sum_flat_map, sum_map, sum_none, sum_same, sum_where}

-- a spot of a command that the profile has, on a page and in a phase that it has
pub record IsThere (profile : List DeviceParts) (spot : Spot) : Type 0 where
  pub device : DeviceParts
  pub known : device_with spot.addr profile ≡ Some device
  pub command : CommandParts
  pub has : command_of (Some device) spot.code ≡ Some command
  pub page : IsPage device.pages spot.page
  pub phase : has_phase (phases_of device command) spot.phase ≡ true

-- data belong to such a spot
pub seen_there : (seen : SeenData) (addr code : ℕ) (device : DeviceParts) (command : CommandParts)
    → device_with addr seen.profile ≡ Some device → command_of (Some device) code ≡ Some command
    → IsThere seen.profile (spot_of seen addr code device command)
seen_there seen addr code device command known has = record {
  device = device;
  known = known;
  command = command;
  has = has;
  page = key_is_page device.pages command.entry.paged (page_at seen addr);
  phase = key_has_phase (phases_of device command) (phase_at seen addr);
}

-- ---- how often it comes

-- a spot is no spot of the command with a code, of the device with an address
abbrev pub IsApart : Spot → ℕ → ℕ → Type 0
IsApart spot addr code = (page : PageKey) (phase : PhaseKey) → same_spot spot (spot_at addr code page phase) ≡ false

and_false : (b : Bool) → (b && false) ≡ false
and_false true = refl
and_false false = refl

pub other_device : (spot : Spot) (addr code : ℕ) → (spot.addr ≡ addr → ⊥) → IsApart spot addr code
other_device spot addr code ne page phase =
    ap (λ (b : Bool). b && (eqb spot.code code && (same_page spot.page page && same_phase spot.phase phase)))
    (ne_eqb spot.addr addr ne)

pub other_code : (spot : Spot) (addr code : ℕ) → (spot.code ≡ code → ⊥) → IsApart spot addr code
other_code spot addr code ne page phase =
    ap (λ (b : Bool). eqb spot.addr addr && (b && (same_page spot.page page && same_phase spot.phase phase)))
    (ne_eqb spot.code code ne) ∙ and_false (eqb spot.addr addr)

cond_and : (a b : Bool) → cond {A = ℕ} (a && b) 1 0 ≡ cond {A = ℕ} b (cond {A = ℕ} a 1 0) 0
cond_and true true = refl
cond_and true false = refl
cond_and false true = refl
cond_and false false = refl

-- among the spots of a command, on some pages and in some phases
module _ (spot : Spot) (addr code : ℕ) (pages : List PageKey) (phases : List PhaseKey) where
  abbrev spots : List Spot
  spots = flat_map (λ page. map (spot_at addr code page) phases) pages

  -- one, if it is the spot on a page, in a phase
  abbrev here : PageKey → PhaseKey → ℕ
  here page phase = cond (same_spot spot (spot_at addr code page phase)) 1 0

  by_pages : count_by (same_spot spot) spots ≡ sum_by (λ page. sum_by (here page) phases) pages
  by_pages =
      sum_flat_map (λ s. cond (same_spot spot s) 1 0) (λ page. map (spot_at addr code page) phases) pages
      ∙ sum_same (λ page. sum_by (λ s. cond (same_spot spot s) 1 0) (map (spot_at addr code page) phases))
      (λ page. sum_by (here page) phases)
      (λ page. sum_map (λ s. cond (same_spot spot s) 1 0) (spot_at addr code page) phases) pages

  comes_nowhere : IsApart spot addr code → count_by (same_spot spot) spots ≡ 0
  comes_nowhere apart =
      by_pages
      ∙ sum_none (λ page. sum_by (here page) phases)
      (λ page. sum_none (here page) (λ phase. ap (λ (b : Bool). cond {A = ℕ} b 1 0) (apart page phase)) phases) pages

  -- a spot of the command
  module _ (device : spot.addr ≡ addr) (command : spot.code ≡ code) where
    its_place : (page : PageKey) (phase : PhaseKey)
        → same_spot spot (spot_at addr code page phase)
        ≡ (same_page spot.page page && same_phase spot.phase phase)
    its_place page phase =
        ap (λ (b : Bool). b && (eqb spot.code code && (same_page spot.page page && same_phase spot.phase phase)))
        (eq-eqb spot.addr addr device)
        ∙ ap (λ (b : Bool). b && (same_page spot.page page && same_phase spot.phase phase))
        (eq-eqb spot.code code command)

    -- on a page it comes in one phase, if it is its page
    on_page : count_by (same_phase spot.phase) phases ≡ 1 → (page : PageKey)
        → sum_by (here page) phases ≡ cond (same_page spot.page page) 1 0
    on_page once page =
        sum_same (here page) (λ phase. cond (same_phase spot.phase phase) (cond (same_page spot.page page) 1 0) 0)
        (λ phase. ap (λ (b : Bool). cond {A = ℕ} b 1 0) (its_place page phase)
        ∙ cond_and (same_page spot.page page) (same_phase spot.phase phase)) phases
        ∙ (sum_where (same_phase spot.phase) (same_page spot.page page) phases
        ∙ ap (λ (n : ℕ). cond (same_page spot.page page) n 0) once)

    comes_somewhere : count_by (same_page spot.page) pages ≡ 1 → count_by (same_phase spot.phase) phases ≡ 1
        → count_by (same_spot spot) spots ≡ 1
    comes_somewhere page phase =
        by_pages
        ∙ (sum_same (λ other. sum_by (here other) phases) (λ other. cond (same_page spot.page other) 1 0)
        (on_page phase) pages ∙ page)

-- ---- among the spots of a command of a profile

module _ (profile : List DeviceParts) (addr code : ℕ) (spot : Spot) where
  -- never, if it is of another command or device
  pub comes_never : IsApart spot addr code → count_by (same_spot spot) (command_spots profile addr code) ≡ 0
  comes_never apart =
      comes_nowhere spot addr code (device_pages profile addr) (command_phases profile addr code) apart

  -- once, if it is a spot of the command
  pub comes_once_there : IsThere profile spot → spot.addr ≡ addr → spot.code ≡ code
      → count_by (same_spot spot) (command_spots profile addr code) ≡ 1
  comes_once_there is device command =
      let known : device_with addr profile ≡ Some is.device
      = ap (λ a. device_with a profile) (sym device) ∙ is.known in
      let has : command_of (Some is.device) code ≡ Some is.command
      = ap (command_of (Some is.device)) (sym command) ∙ is.has in
      let pages : device_pages profile addr ≡ page_keys is.device.pages = ap pages_of known in
      let phases : command_phases profile addr code ≡ phase_keys (phases_of is.device is.command)
      = ap (λ (d : Option DeviceParts). phases_in d code) known ∙ ap (phases_if is.device) has in
      comes_somewhere spot addr code (device_pages profile addr) (command_phases profile addr code) device command
      (ap (count_by (same_page spot.page)) pages ∙ comes_once is.device.pages spot.page is.page)
      (ap (count_by (same_phase spot.phase)) phases
      ∙ phase_comes_once (phases_of is.device is.command) spot.phase is.phase)

  -- by whether it is of the command
  pub spot_comes : IsThere profile spot
      → count_by (same_spot spot) (command_spots profile addr code)
      ≡ cond (eqb spot.addr addr && eqb spot.code code) 1 0
  spot_comes is =
      elim (cases_eq spot.addr addr) [
        | inl device ↦
            elim (cases_eq spot.code code) [
              | inl command ↦
                  comes_once_there is device command
                  ∙ sym (ap (λ (b : Bool). cond {A = ℕ} (b && eqb spot.code code) 1 0) (eq-eqb spot.addr addr device)
                  ∙ ap (λ (b : Bool). cond {A = ℕ} b 1 0) (eq-eqb spot.code code command))
              | inr ne ↦
                  comes_never (other_code spot addr code ne)
                  ∙ sym (ap (λ (b : Bool). cond {A = ℕ} (eqb spot.addr addr && b) 1 0) (ne_eqb spot.code code ne)
                  ∙ ap (λ (b : Bool). cond {A = ℕ} b 1 0) (and_false (eqb spot.addr addr)))
            ]
        | inr ne ↦
            comes_never (other_device spot addr code ne)
            ∙ sym (ap (λ (b : Bool). cond {A = ℕ} (b && eqb spot.code code) 1 0) (ne_eqb spot.addr addr ne))
      ]
