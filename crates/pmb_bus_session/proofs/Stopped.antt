-- A message leaves the bus of the same devices somewhere; where no transfer is under way after it, between two.
use Rattle.std.proofs.Common.{◌≡◌, ◌∙◌, ℕ, Bool, true, false, Result, Ok, Err, List, [], map, length, take, ap, refl, subst, sym, true≢false}
use Rattle.pmb_command.specs.Parts.{DeviceParts}
use Rattle.std.specs.Prelude.{is_err}
use Rattle.pmb_bus.specs.Address.{read_address, write_address}
use Rattle.pmb_bus.specs.declared.event.Event.{Event}
use Rattle.pmb_devices.specs.declared.bus.Bus.{Bus}
use Rattle.pmb_devices.specs.Signal.{BusStanding, BusStandsAt}
use Rattle.pmb_i2c.specs.declared.message.MessageEnd.{MessageEnd}
use Rattle.pmb_i2c.specs.declared.message.MessageEnd.TheVariants as ends
use Rattle.pmb_i2c.specs.declared.message.MessageFault.{MessageFault}
use Rattle.pmb_i2c.specs.Message.{ReadsAll, ReadsCounted, Writes, stops}
use Rattle.pmb_i2c.specs.Signals.{IsStopped}
use Rattle.pmb_i2c.proofs.Stops.{Somewhere, message_stops, takes_on}
use Rattle.pmb_message.specs.declared.message.Message.{Message}
use Rattle.pmb_message.specs.declared.message.SendFault.{SendFault}
use Rattle.pmb_message.specs.declared.message.SendFault.TheVariants.{BadAddress, BadFlags, BadLength}
use Rattle.pmb_message.specs.Send.{IsUnsent, Sends, block_as, counted_as}
use Rattle.pmb_bus_session.specs.Devices.{under_way_after}

-- ---- no STOP, where nothing was sent

bad_stays : (was : Bool) (end : MessageEnd) → (under_way_after was end (Err BadFlags) ≡ was)
    × (under_way_after was end (Err BadAddress) ≡ was) × (under_way_after was end (Err BadLength) ≡ was)
bad_stays was ends.Stop = (refl, refl, refl)
bad_stays was ends.RepeatedStart = (refl, refl, refl)

unsent_stays : (was : Bool) (end : MessageEnd) (message : Message) (room : ℕ) (why : SendFault)
    → IsUnsent message room why → under_way_after was end (Err why) ≡ was
unsent_stays was end message room why (IsUnsent.flags unknown is) =
    ap (λ (w : SendFault). under_way_after was end (Err w)) is ∙ (bad_stays was end).0
unsent_stays was end message room why (IsUnsent.address known above is) =
    ap (λ (w : SendFault). under_way_after was end (Err w)) is ∙ (bad_stays was end).1
unsent_stays was end message room why (IsUnsent.room_for_bytes known seven short is) =
    ap (λ (w : SendFault). under_way_after was end (Err w)) is ∙ (bad_stays was end).2
unsent_stays was end message room why (IsUnsent.too_many known seven many is) =
    ap (λ (w : SendFault). under_way_after was end (Err w)) is ∙ (bad_stays was end).2

-- ---- STOP, where something was

counted_ends : (was : Bool) (end : MessageEnd) (n : ℕ) (outcome : Result (Unit {0}) MessageFault)
    → under_way_after was end (counted_as n outcome) ≡ false → stops end (is_err outcome) ≡ true
counted_ends was ends.Stop n outcome over = refl
counted_ends was ends.RepeatedStart n (Ok done) over = cc over
counted_ends was ends.RepeatedStart n (Err fault) over = refl

block_ends : (was : Bool) (end : MessageEnd) (outcome : Result ℕ MessageFault)
    → under_way_after was end (block_as outcome) ≡ false → stops end (is_err outcome) ≡ true
block_ends was ends.Stop outcome over = refl
block_ends was ends.RepeatedStart (Ok count) over = cc over
block_ends was ends.RepeatedStart (Err fault) over = refl

-- ---- both

module _ (message : Message) (before after : List ℕ) (old new : Bus) (events : List Event) (result : Result ℕ SendFault)
    (was : Bool) (standing : BusStanding) where
  pub after_message : Sends message before after old new events result → BusStandsAt old standing
      → (was ≡ false → standing.history ≡ []) → under_way_after was message.end result ≡ false
      → IsStopped (map (λ member. member.device) standing.members) new
  after_message (Sends.nothing why unsent is same room none) stands clear over = record {
    standing = standing;
    devices_are = refl;
    stands = subst (λ (bus : Bus). BusStandsAt bus standing) (sym same) stands;
    none = clear (sym (unsent_stays was message.end message (length before) why unsent)
        ∙ ap (λ (r : Result ℕ SendFault). under_way_after was message.end r) (sym is) ∙ over);
  }
  after_message (Sends.write outcome ready flags room is sent) stands clear over =
      message_stops message.address (write_address message.address) (Writes (take message.length before) outcome)
      message.end outcome sent.heard standing new ready.seven_bits
      (counted_ends was message.end message.length outcome
      (ap (λ (r : Result ℕ SendFault). under_way_after was message.end r) (sym is) ∙ over)) sent.such
      (sent.takes standing stands)
  after_message (Sends.read outcome ready flags room is sent) stands clear over =
      message_stops message.address (read_address message.address) (ReadsAll (take message.length after) outcome)
      message.end outcome sent.heard standing new ready.seven_bits
      (counted_ends was message.end message.length outcome
      (ap (λ (r : Result ℕ SendFault). under_way_after was message.end r) (sym is) ∙ over)) sent.such
      (sent.takes standing stands)
  after_message (Sends.read_block outcome ready flags room is sent) stands clear over =
      message_stops message.address (read_address message.address) (ReadsCounted after message.length outcome)
      message.end outcome sent.heard standing new ready.seven_bits
      (block_ends was message.end outcome
      (ap (λ (r : Result ℕ SendFault). under_way_after was message.end r) (sym is) ∙ over)) sent.such
      (sent.takes standing stands)

  pub moves : Sends message before after old new events result → BusStandsAt old standing
      → Somewhere (map (λ member. member.device) standing.members) new
  moves (Sends.nothing why unsent is same room none) stands =
      (standing, subst (λ (bus : Bus). BusStandsAt bus standing) (sym same) stands, refl)
  moves (Sends.write outcome ready flags room is sent) stands =
      takes_on (map (λ member. member.device) standing.members) sent.heard standing new refl (sent.takes standing stands)
  moves (Sends.read outcome ready flags room is sent) stands =
      takes_on (map (λ member. member.device) standing.members) sent.heard standing new refl (sent.takes standing stands)
  moves (Sends.read_block outcome ready flags room is sent) stands =
      takes_on (map (λ member. member.device) standing.members) sent.heard standing new refl (sent.takes standing stands)

-- somewhere, and between two transfers where none is under way
pub stands_on : (devices : List DeviceParts) (bus : Bus) (under_way : Bool) → Somewhere devices bus
    → (under_way ≡ false → IsStopped devices bus)
    → (standing : BusStanding) × BusStandsAt bus standing × (map (λ member. member.device) standing.members ≡ devices)
    × (under_way ≡ false → standing.history ≡ [])
stands_on devices bus false there stopped =
    let over = stopped refl in (over.standing, over.stands, over.devices_are, λ is. over.none)
stands_on devices bus true there stopped = (there.0, there.1, there.2, λ is. absurd (true≢false is))
