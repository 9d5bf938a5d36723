-- A write that takes effect at STOP is one that the device took: it has at most 255 data, and a
-- value of PAGE is a page or ffh. For `DevicePacket::outcome`. All bytes of the own leg were
-- taken, the value of PAGE among them.
use Rattle.std.proofs.Common.{◌≡◌, ℕ, ◌<◌, ◌≤◌, ◌⊎◌, Bool, true, false, List, [], ◌∷◌, ◌++◌, length, refl, sym, ap}
use Rattle.std.proofs.Common.{subst, ◌∙◌, arith}
use Rattle.pmb_command.specs.declared.form.Form.{Form}
use Rattle.pmb_command.specs.declared.form.Form.TheVariants.{Zero, One, Two, Four, Eight, Block}
use Rattle.pmb_command.specs.Parts.{DeviceParts}
use Rattle.pmb_command.specs.Bus.{IsDevice}
use Rattle.pmb_command.specs.Wire.{Fits, Takes, wire}
use Rattle.pmb_bus.specs.Address.{write_address}
use Rattle.pmb_transaction.specs.Body.{checked, WriteBody}
use Rattle.pmb_leg.specs.declared.place.LegPlace.{LegPlace}
use Rattle.pmb_leg.specs.Leg.{Written}
use Rattle.pmb_registers.specs.State.{DeviceState}
use Rattle.pmb_registers.specs.Answer.{all_pages}
use Rattle.pmb_device.specs.declared.device_packet.LegPhase.TheVariants as phases
use Rattle.pmb_device.specs.declared.device_packet.DevicePacket.{DevicePacket}
use Rattle.pmb_device.specs.Legs.{Leg, Legs, Outside, Inside, leg_place}
use Rattle.pmb_device.specs.Rules.{TakesAll}
use Rattle.pmb_device.specs.machine.Standing.{AllTaken, BytesAre, IsOwn, Kept, OwnIsIn, StandsIn, ended, kept, none}
use Rattle.pmb_device.specs.machine.Standing.{under_way}
use Rattle.pmb_device.specs.DevicePacket.{IsTakenWrite}
use Rattle.pmb_device.proofs.Acks.{own_in}
use Rattle.pmb_device.proofs.Requests.{page_form}

-- 255: the most that a Block has
-- a form takes at most 255 data
few_data : (form : Form) (n : ℕ) → Takes form n → n ≤ 255
few_data Zero n taken = omega arith
few_data One n taken = omega arith
few_data Two n taken = omega arith
few_data Four n taken = omega arith
few_data Eight n taken = omega arith
few_data Block n taken = taken

pub few_bytes : (device : DeviceParts) (code : ℕ) (content : List ℕ) (with_pec : Bool) (bytes : List ℕ)
    → WriteBody device code content with_pec bytes → length content ≤ 255
few_bytes device code content with_pec bytes body = few_data body.form (length content) body.fits.taken

one_of : (bytes : List ℕ) → length bytes ≡ 1 → (byte : ℕ) × (bytes ≡ byte ∷ [])
one_of [] is = cc is
one_of (byte ∷ []) is = (byte, refl)
one_of (byte ∷ next ∷ more) is = absurd (omega arith)

-- a page, and what follows
starts_so : (with_pec : Bool) (front : List ℕ) (page : ℕ)
    → (rest : List ℕ) × (checked with_pec front (0x00 ∷ page ∷ []) ≡ 0x00 ∷ page ∷ rest)
starts_so false front page = ([], refl)
starts_so true front page = (_, refl)

page_taken : (device : DeviceParts) (place : LegPlace) (content : List ℕ) (with_pec : Bool) (bytes : List ℕ)
    → IsDevice device → TakesAll device place [] bytes
    -- 0x00 is the code of PAGE
    → WriteBody device 0x00 content with_pec bytes → (page : ℕ) × (content ≡ page ∷ [])
    × ((page < device.pages) ⊎ (page ≡ all_pages))
page_taken device place content with_pec bytes accepted taken body =
    let one : body.form ≡ One = page_form device body.form accepted body.written in
    let fits : Fits One content = subst (λ (f : Form). Fits f content) one body.fits in
    let only = one_of content fits.taken in
    let front = write_address device.address ∷ [] in
    let wired : wire body.form content ≡ only.0 ∷ [] = ap (λ (f : Form). wire f content) one ∙ only.1 in
    let starts = starts_so with_pec front only.0 in
    let split : bytes ≡ 0x00 ∷ only.0 ∷ starts.0 = body.spelled
    ∙ ap (λ (bs : List ℕ). checked with_pec front (0x00 ∷ bs)) wired ∙ starts.1 in
    let here : TakesAll device place [] (0x00 ∷ only.0 ∷ starts.0) = subst (TakesAll device place []) split taken in
    (only.0, only.1, here.1.0.page refl)

module _ (device : DeviceParts) (state : DeviceState) where
  taken_so : (k : Kept) (before : List Leg) (own : Leg) (bytes : List ℕ) (behind : List Leg) → IsDevice device
      → k.refused ≡ false → (code : ℕ) (content : List ℕ) (with_pec : Bool)
      → WriteBody k.leg.device code content with_pec k.leg.bytes → IsOwn device state k before own bytes behind
      → IsTakenWrite device code content
  taken_so k before own bytes behind accepted not_refused code content with_pec body o =
      let all : AllTaken device state k before bytes behind =
      subst (λ (r : Bool). BytesAre r device state k before bytes behind) not_refused o.body in
      let here : WriteBody device code content with_pec bytes =
      subst (λ (w : Written). WriteBody w.device code content with_pec w.bytes) all.leg_is body in
      record {
        form = here.form;
        written = here.written;
        fits = here.fits;
        page = λ is. page_taken device (leg_place before) content with_pec bytes accepted all.taken
            (subst (λ (n : ℕ). WriteBody device n content with_pec bytes) is here);
      }

  by_own : (k : Kept) (earlier : List Leg) (leg : Leg) → IsDevice device → k.own ≡ true → k.refused ≡ false
      → (code : ℕ) (content : List ℕ) (with_pec : Bool)
      → WriteBody k.leg.device code content with_pec k.leg.bytes → OwnIsIn device state k earlier leg
      → IsTakenWrite device code content
  by_own k earlier leg accepted own not_refused code content with_pec body (none other before is) = cc (sym own ∙ other)
  by_own k earlier leg accepted own not_refused code content with_pec body (under_way bytes o) =
      taken_so k earlier leg bytes [] accepted not_refused code content with_pec body o
  by_own k earlier leg accepted own not_refused code content with_pec body (ended before first mid bytes split o) =
      taken_so k before first bytes (mid ++ leg ∷ []) accepted not_refused code content with_pec body o

pub write_is_taken : (x : DevicePacket) (device : DeviceParts) (state : DeviceState) (legs : Legs) (code : ℕ)
    (content : List ℕ) (with_pec : Bool) → (x.phase ≡ phases.Outside → ⊥)
    → x.own ≡ true → x.refused ≡ false → WriteBody x.leg.device code content with_pec x.leg.bytes
    → StandsIn x device state legs → IsTakenWrite device code content
write_is_taken x device state Outside code content with_pec inside own not_refused body stands =
    absurd (inside stands.behind)
write_is_taken x device state (Inside earlier leg) code content with_pec inside own not_refused body stands =
    by_own device state (kept x) earlier leg stands.accepted own not_refused code content with_pec body
    (own_in x.phase x device state earlier leg stands.behind.1)
