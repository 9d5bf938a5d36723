-- A transaction that has a packet isn't too large for a line: at most 16 parts, 255 bytes of data
-- each, and 258 bytes sent before a refusal. For the laws `lines_are_short` and
-- `no_parse_with_a_fault`. Forms bound the data, and the law `bodies_are_short` of
-- `pmb_transaction` a body.
use Rattle.std.proofs.Common.{ℕ, ◌≤◌, Bool, true, false, List, [], ◌∷◌, length, ap, inl, inr, arith, length-append}
use Rattle.std.specs.List.{AllByRecursion}
use Rattle.pmb_bus.specs.declared.event.Event.{Event}
use Rattle.pmb_command.specs.declared.form.Form.{Form}
use Rattle.pmb_command.specs.declared.form.Form.TheVariants.{Zero, One, Two, Four, Eight, Block}
use Rattle.pmb_command.specs.Parts.{DeviceParts}
use Rattle.pmb_command.specs.Wire.{Fits}
use Rattle.pmb_transaction.specs.Transaction.{PartData, TransactionData}
use Rattle.pmb_transaction.specs.Transaction as says
use Rattle.pmb_transaction.specs.Body.{Allowed}
use Rattle.pmb_transaction.specs.Packet.{Packet, PartsEvents, RefusedLeg}
use Rattle.pmb_line.specs.Fault.{IsPartWithin, IsWithin}

-- what the law `bodies_are_short` says of whole bodies
abbrev pub BodiesAreShort : Type 0
BodiesAreShort = (device : DeviceParts) (parts : List PartData) (body : List ℕ) → Allowed device parts body
    → length body ≤ 258

data_within : (form : Form) (bs : List ℕ) → Fits form bs → length bs ≤ 255
data_within Zero bs fits = omega (arith, fits.taken)
data_within One bs fits = omega (arith, fits.taken)
data_within Two bs fits = omega (arith, fits.taken)
data_within Four bs fits = omega (arith, fits.taken)
data_within Eight bs fits = omega (arith, fits.taken)
data_within Block bs fits = fits.taken

module _ (short : BodiesAreShort) (profile : List DeviceParts) where
  parts_within : (ps : List PartData) (events : List Event) → PartsEvents profile ps events
      → AllByRecursion IsPartWithin ps
  parts_within [] events each = tt
  parts_within (p ∷ ps) events each = let here = each.3 in
      (data_within here.allowed.form p.bytes here.allowed.fits, parts_within ps each.1 each.4)

  leg_within : (ps : List PartData) (addr : ℕ) (sent : List ℕ) (at_read : Bool) (events : List Event)
      → RefusedLeg profile ps addr sent at_read events → length sent ≤ 258
  leg_within ps addr [] false events leg = omega arith
  leg_within ps addr (b ∷ bs) false events leg =
      let all = ap length leg.split in
      let last = length-append leg.front (leg.last ∷ []) in
      elim leg.begins [
        | inl alone ↦ omega (arith, all, last, ap length alone)
        | inr on ↦ omega (
          arith,
          all,
          last,
          ap length on.2.split,
          length-append leg.front (on.2.next ∷ on.2.rest),
          short leg.device ps on.0 on.1,
        )
      ]
  leg_within ps addr sent true events leg = short leg.device [] sent (inr leg.body)

  pub packet_within : (t : TransactionData) (events : List Event) → Packet profile t events → IsWithin t
  packet_within (says.Write ps) events packet =
      record { few = packet.few; each = parts_within ps packet.legs packet.each }
  packet_within (says.Read t) events packet = data_within packet.form t.reply packet.fits
  packet_within (says.Call t) events packet = record {
    few_sent = data_within packet.form t.bytes packet.sent;
    few_replied = data_within packet.form t.reply packet.replied;
  }
  packet_within (says.Refused t) events packet = record {
    few_parts = record { few = packet.few; each = parts_within t.parts packet.legs packet.each };
    few_sent = leg_within t.parts t.addr t.sent t.at_read packet.last packet.refused;
  }
  packet_within (says.Alert t) events packet = tt
  packet_within says.NoAlert events packet = tt
