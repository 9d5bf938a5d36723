-- The devices of a bus with their states, which fit them and hold bytes: at first, and after each
-- transaction. For the law `some_running`. A transaction that is recorded writes data that fit,
-- and of PAGE a page or ffh, so that the states of `States` stay good.
use Rattle.std.proofs.Common.{◌≡◌, ℕ, zero, suc, ◌+◌, ◌<◌, ◌≤◌, ◌⊎◌, inl, inr, Bool, true, false, Option, Some, None}
use Rattle.std.proofs.Common.{cond, List, [], ◌∷◌, ◌++◌, map, nat_eq, refl, sym, ap, subst, ◌∙◌, arith}
use Rattle.std.specs.Prelude.{IfSome}
use Rattle.std.specs.List.{AllByRecursion, Contains, flat_map, range_with_len, slice_get}
use Rattle.std.specs.Option.{unwrap_or}
use Rattle.std.proofs.lemmas.Bool.{cases_eq, cases_lt, eqb-true}
use Rattle.std.proofs.lemmas.List.Concat.{flat_map-cons}
use Rattle.pmb_command.specs.declared.form.Form.{Form}
use Rattle.pmb_command.specs.declared.form.Form.TheVariants.{Zero, One, Two, Four, Eight, Block}
use Rattle.pmb_command.specs.Bus.{IsBus, IsDevice}
use Rattle.pmb_command.specs.Fitting.{register_form}
use Rattle.pmb_command.specs.Parts.{CommandParts, DeviceParts, device_with, initial_on}
use Rattle.pmb_command.specs.Wire.{AreByteValues}
use Rattle.pmb_transaction.specs.Body.{forms}
use Rattle.pmb_transaction.specs.Transaction.{PartData, RefusedData, TransactionData}
use Rattle.pmb_registers.specs.Answer.{all_pages}
use Rattle.pmb_registers.specs.Apply.{after_others, after_part, after_parts, after_refusal, after_write, apply}
use Rattle.pmb_registers.specs.Apply.{bit_of_refused, selected_by, with_noted}
use Rattle.pmb_registers.specs.State.{DeviceState, InState, first_bytes, first_mode, first_page, own_pages}
use Rattle.pmb_registers.specs.State.{registers_in, registers_of, zeros}
use Rattle.pmb_devices.specs.Replies.{IsState}
use Rattle.pmb_devices.specs.Runs.{first_members}
use Rattle.pmb_devices.specs.Signal.{all_applied}
use Rattle.pmb_devices.proofs.ReplyGivers.{one_member}
use Rattle.pmb_exchange.specs.Exchange.{IsTaken}
use Rattle.pmb_exchange.proofs.Members.{found_with}
use Rattle.pmb_exchange.proofs.Parts.{HasLeg}
use Rattle.pmb_run.specs.Kept.{AreKeptDevices, IsKeptCommand, IsKeptDevice}
use Rattle.pmb_run.proofs.States.{HasSmallData, HoldsBytes, IsGood, if_good, noted_good, others_good, page_is}
use Rattle.pmb_run.proofs.States.{write_good}

-- ---- what registers begin with

zeros_small : (form : Form) → AreByteValues (zeros form)
zeros_small Zero = tt
zeros_small One = (omega arith, tt)
zeros_small Two = (omega arith, (omega arith, tt))
zeros_small Four = (omega arith, (omega arith, (omega arith, (omega arith, tt))))
zeros_small Eight = (
  omega arith,
  (
    omega arith,
    (omega arith, (omega arith, (omega arith, (omega arith, (omega arith, (omega arith, tt)))))),
  ),
)
zeros_small Block = tt

initial_small : (initial : Option (List ℕ)) (form : Form) → IfSome initial AreByteValues
    → AreByteValues (unwrap_or initial (zeros form))
initial_small None form small = zeros_small form
initial_small (Some bytes) form small = small

picked : {X : Type 0} (P : X → Type 0) (test : Bool) (a b : X) → P a → P b → P (cond test a b)
picked P true a b here there = here
picked P false a b here there = there

-- each register holds bytes, where those of each page are bytes
on_pages : (code : ℕ) (bytes : ℕ → List ℕ) (pages : List (Option ℕ)) → AllByRecursion (λ p. first_page p < 32) pages
    → ((page : ℕ) → page < 32 → AreByteValues (bytes page))
    → AllByRecursion HoldsBytes
    (map (λ page. record { code = code; page = page; bytes = bytes (first_page page) }) pages)
on_pages code bytes [] few small = tt
on_pages code bytes (page ∷ pages) few small = (small (first_page page) few.0, on_pages code bytes pages few.1 small)

-- pages are few
range_few : (a n : ℕ) → a + n ≤ 32 → AllByRecursion (λ p. first_page p < 32) (map Some (range_with_len a n))
range_few a zero few = tt
range_few a (suc n) few = (omega (arith, few), range_few (a + 1) n (omega (arith, few)))

own_few : (pages : ℕ) (paged : Bool) → pages ≤ 32 → AllByRecursion (λ p. first_page p < 32) (own_pages pages paged)
own_few pages true few = range_few 0 pages (omega (arith, few))
own_few pages false few = (omega arith, tt)

-- a VOUT_MODE at first is a byte
mode_small : (modes : List ℕ) (page : ℕ) → AllByRecursion (λ mode. mode < 256) modes
    → unwrap_or (slice_get modes page) 0 < 256
mode_small [] page small = omega arith
mode_small (mode ∷ modes) zero small = small.0
mode_small (mode ∷ modes) (suc page) small = mode_small modes page small.1

all_append : {X : Type 0} (P : X → Type 0) (xs ys : List X) → AllByRecursion P xs → AllByRecursion P ys
    → AllByRecursion P (xs ++ ys)
all_append P [] ys all more = more
all_append P (x ∷ xs) ys all more = (all.0, all_append P xs ys all.1 more)

module _ (device : DeviceParts) (accepted : IsDevice device) where
  command_small : (c : CommandParts) → IsKeptCommand c → (form : Option Form)
      → AllByRecursion HoldsBytes (registers_in device c form)
  command_small c kept None = tt
  command_small c kept (Some form) =
      on_pages c.entry.code (λ page. first_bytes device page c form) (own_pages device.pages c.entry.paged)
      (own_few device.pages c.entry.paged accepted.few_pages)
      (λ page few.
      -- 0x20 is VOUT_MODE
      picked AreByteValues (nat_eq c.entry.code 0x20) (first_mode device page ∷ [])
      (unwrap_or (initial_on page c.initial) (zeros form)) (mode_small device.modes page accepted.bytes, tt)
      (initial_small (initial_on page c.initial) form (kept.initial page few)))

  commands_small : (cs : List CommandParts) → AllByRecursion IsKeptCommand cs
      → AllByRecursion HoldsBytes (flat_map (registers_of device) cs)
  commands_small [] kept = tt
  commands_small (c ∷ cs) kept =
      subst (AllByRecursion HoldsBytes) (sym (flat_map-cons (registers_of device) c cs))
      (
      all_append HoldsBytes (registers_of device c) (flat_map (registers_of device) cs)
      (command_small c kept.0 (register_form c.entry.shape))
      (commands_small cs kept.1)
      )

-- ---- devices and their states

-- a device of an accepted profile, in a state that fits it and holds bytes
pub record IsMember (member : InState) : Type 0 where
  pub accepted : IsDevice member.device
  pub kept : IsKeptDevice member.device
  pub good : IsGood member.device member.state

-- what each element is, all are
pub all_contained : {X : Type 0} (P : X → Type 0) (xs : List X) → ((x : X) → Contains xs x → P x) → AllByRecursion P xs
all_contained P [] each = tt
all_contained P (x ∷ xs) each = (
  each x (0, omega arith, refl),
  all_contained P xs (λ y at. each y (suc at.0, omega (arith, at.1), at.2)),
)

pub of_contained : {X : Type 0} (P : X → Type 0) (xs : List X) (x : X) → AllByRecursion P xs → Contains xs x → P x
of_contained P [] x all (k, inside, is) = absurd (omega (arith, inside))
of_contained P (y ∷ xs) x all (zero, inside, is) = subst P is all.0
of_contained P (y ∷ xs) x all (suc k, inside, is) = of_contained P xs x all.1 (k, omega (arith, inside), is)

-- Each device of a profile in its first state.
pub first_good : (profile : List DeviceParts) → AllByRecursion IsDevice profile → AreKeptDevices profile
    → AllByRecursion (λ (m : InState). IsState m.device m.state) (first_members profile)
    → AllByRecursion IsMember (first_members profile)
first_good [] accepted kept fits = tt
first_good (device ∷ profile) accepted kept fits = (
  record {
    accepted = accepted.0;
    kept = kept.0;
    good = record { fits = fits.0; small = commands_small device accepted.0 device.commands kept.0.commands };
  },
  first_good profile accepted.1 kept.1 fits.1,
)

-- After a transaction, where it makes a good state of each.
pub all_good_after : (t : TransactionData) (members : List InState)
    → ((m : InState) → Contains members m → IsMember m → IsGood m.device (apply m.device t m.state))
    → AllByRecursion IsMember members → AllByRecursion IsMember (all_applied t members)
all_good_after t [] each all = tt
all_good_after t (m ∷ members) each all = (
  record { accepted = all.0.accepted; kept = all.0.kept; good = each m (0, omega arith, refl) all.0 },
  all_good_after t members (λ x at. each x (suc at.0, omega (arith, at.1), at.2)) all.1,
)

module _ (profile : List DeviceParts) (members : List InState) (bus : IsBus profile)
    (devices_are : map (λ m. m.device) members ≡ profile) where
  -- The device of an address is that of the member which has it.
  pub same_device : (m : InState) → Contains members m → (address : ℕ) (device : DeviceParts)
      → device_with address profile ≡ Some device
      → address ≡ m.device.address → device ≡ m.device
  same_device m at address device known here =
      let found =
      found_with members address device (subst (λ (ds : List DeviceParts). device_with address ds ≡ Some device)
      (sym devices_are) known) in
      let one : found.member ≡ m = one_member profile members found.member m bus devices_are found.in_bus at
      (found.address_is ∙ here) in
      sym found.device_is ∙ ap (λ (x : InState). x.device) one

  module _ (m : InState) (at : Contains members m) (accepted : IsDevice m.device) where
    -- a value of PAGE that is taken is one of the device's pages, or ffh
    page_taken : (part : PartData) → IsTaken members part → part.addr ≡ m.device.address → part.code ≡ 0x00
        → (value : ℕ) → part.bytes ≡ value ∷ []
        → (value < m.device.pages) ⊎ (value ≡ all_pages)
    page_taken part taken here page value is = elim (cases_lt value m.device.pages) [
      -- a page of the device
      | inl small ↦ inl small
      -- a larger value: ffh, or one that is not taken
      | inr large ↦
          elim (cases_eq value all_pages) [
            | inl all ↦ inr all
            | inr other ↦
                absurd
                (
                taken (record {
                  member = m;
                  is_at = record { one_of = at; address_is = sym here };
                  value = value;
                  page = page;
                  bytes_are = is;
                  too_large = large;
                  not_all = other;
                })
                )
          ]
    ]

    part_good : (part : PartData) → HasLeg profile part → IsTaken members part → (state : DeviceState)
        → IsGood m.device state
        → IsGood m.device (after_part m.device part state)
    part_good part has taken state good =
        if_good m.device (nat_eq part.addr m.device.address) (after_write m.device part.code part.bytes state) state
        (
        λ own.
        let here : part.addr ≡ m.device.address = eqb-true part.addr m.device.address own in
        let same : has.device ≡ m.device = same_device m at part.addr has.device has.known here in
        let form = has.allowed.form in
        let written : (forms m.device part.code).write ≡ Some form =
        subst (λ (d : DeviceParts). (forms d part.code).write ≡ Some form) same has.allowed.written in
        write_good m.device state good accepted part.code part.bytes form written has.allowed.fits
        (
        λ page.
        let one = page_is m.device form part.bytes accepted
        (subst (λ (n : ℕ). (forms m.device n).write ≡ Some form) page written) has.allowed.fits in
        subst (λ (bs : List ℕ). (selected_by state.page bs < m.device.pages) ⊎ (selected_by state.page bs ≡ all_pages))
        (sym one.1)
        (page_taken part taken here page one.0 one.1)
        )
        ) (λ other. good)

    -- What parts that are taken make of a good state, is good,
    pub parts_good : (parts : List PartData) → AllByRecursion (HasLeg profile) parts
        → AllByRecursion (IsTaken members) parts → (state : DeviceState)
        → IsGood m.device state → IsGood m.device (after_parts m.device parts state)
    parts_good [] has taken state good = good
    parts_good (part ∷ parts) has taken state good =
        parts_good parts has.1 taken.1 (after_part m.device part state) (part_good part has.0 taken.0 state good)

    -- so is what those at its other addresses make of it,
    small_legs : (parts : List PartData) → AllByRecursion (HasLeg profile) parts → AllByRecursion HasSmallData parts
    small_legs [] has = tt
    small_legs (part ∷ parts) has = (has.0.allowed.fits.small, small_legs parts has.1)

    pub others_stay_good : (parts : List PartData) → AllByRecursion (HasLeg profile) parts → (state : DeviceState)
        → IsGood m.device state → IsGood m.device (after_others m.device m.device.also parts state)
    others_stay_good parts has state good =
        others_good m.device accepted parts (small_legs parts has) m.device.also state good

    -- and what a refusal makes of it.
    pub refusal_good : (t : RefusedData) (state : DeviceState) → IsGood m.device state
        → IsGood m.device (after_refusal m.device t state)
    refusal_good t state good =
        if_good m.device (nat_eq t.addr m.device.address)
        (with_noted m.device (bit_of_refused m.device state t.sent t.at_read) state) state
        (λ own. noted_good m.device state good (bit_of_refused m.device state t.sent t.at_read)) (λ other. good)
