-- One observation more, and what is told of a spot: for what `Room` offers.
use Rattle.std.proofs.Common.{◌≡◌, Bool, true, false, if◌then◌else◌, ap, option_map, Option, Some, None}
use Rattle.std.proofs.Common.{List, [], ◌∷◌, ◌++◌, length, refl, subst, sym}
use Rattle.std.specs.Option.{MatchOption, IfSome}
use denote.Bor.{Bor}
use Rattle.std.proofs.lemmas.Option.{same_Some}
use Rattle.pmb_command.specs.declared.entry.Kind.{Kind}
use Rattle.pmb_command.specs.declared.entry.Kind.TheVariants.{Raw, Number, Vout, VoutSigned, Status, Text}
use Rattle.pmb_command.specs.Parts.{CommandParts, DeviceParts}
use Rattle.pmb_mean.specs.Numbers.{NumberData}
use Rattle.pmb_observed.specs.declared.spot.Spot.{Spot}
use Rattle.pmb_observed.specs.Observed.{NumberAt, Observation, ReadAt, numbers_at, reads_at}
use Rattle.pmb_observed.specs.Spot.{command_on, is_of, is_register, same_spot}
use Rattle.pmb_stats_bits.specs.Bits.{RegisterRead}
use Rattle.pmb_stats_bits.specs.declared.history.BitHistory.{BitHistory}
use Rattle.pmb_stats_bits.specs.Standing.{RegisterStandsAt}
use Rattle.pmb_stats_room.specs.declared.room.Room.{Room}
use Rattle.pmb_stats_room.specs.declared.sight.Sight.{Sight}
use Rattle.pmb_stats_room.specs.declared.sight.Sight.TheVariants.{Read, Number}
use Rattle.pmb_stats_room.specs.declared.slot.Slot.{Slot}
use Rattle.pmb_stats_room.specs.declared.slot.Slot.TheVariants.{Bits, Values}
use Rattle.pmb_stats_room.specs.declared.slot.SlotKind.TheVariants.{OfBits, OfValues}
use Rattle.pmb_stats_room.specs.machine.Finding.{in_room}
use Rattle.pmb_stats_room.specs.machine.Seeing.{RoomSees}
use Rattle.pmb_stats_room.specs.machine.Sights.{numbers_in, observation, reads_in}
use Rattle.pmb_stats_room.specs.machine.Slots.{bits_of, kept_as}
use Rattle.pmb_stats_room.specs.machine.Standing.{IsKept, RoomStandsAt, kept_of}

-- ---- what an observation adds

no_more : {X : Type 0} (b : Bool) → ◌≡◌ {A = List X} (if b then [] else []) []
no_more true = refl
no_more false = refl

-- an element more, if a test says so, and what comes behind
behind : {X : Type 0} (b : Bool) (x : X) (xs now more : List X) → now ≡ xs ++ more
    → (if b then x ∷ now else now) ≡ (if b then x ∷ xs else xs) ++ more
behind true x xs now more is = ap (λ ys. x ∷ ys) is
behind false x xs now more is = is

module _ (spot here : Spot) (sight : Sight) where
  one_read : (sight : Sight)
      → reads_at here (observation spot sight ∷ []) ≡ (if same_spot spot here then reads_in sight else [])
  one_read (Read word time) = refl
  one_read (Number number) = sym (no_more (same_spot spot here))

  one_number : (sight : Sight)
      → numbers_at here (observation spot sight ∷ []) ≡ (if same_spot spot here then numbers_in sight else [])
  one_number (Read word time) = sym (no_more (same_spot spot here))
  one_number (Number number) = refl

  reads_more : (told : List Observation) → reads_at here (told ++ observation spot sight ∷ [])
      ≡ reads_at here told ++ (if same_spot spot here then reads_in sight else [])
  reads_more [] = one_read sight
  reads_more (ReadAt other read ∷ told) =
      behind (same_spot other here) read (reads_at here told)
      (reads_at here (told ++ observation spot sight ∷ []))
      (if same_spot spot here then reads_in sight else []) (reads_more told)
  reads_more (NumberAt other number ∷ told) = reads_more told

  numbers_more : (told : List Observation) → numbers_at here (told ++ observation spot sight ∷ [])
      ≡ numbers_at here told ++ (if same_spot spot here then numbers_in sight else [])
  numbers_more [] = one_number sight
  numbers_more (ReadAt other read ∷ told) = numbers_more told
  numbers_more (NumberAt other number ∷ told) =
      behind (same_spot other here) number (numbers_at here told)
      (numbers_at here (told ++ observation spot sight ∷ []))
      (if same_spot spot here then numbers_in sight else []) (numbers_more told)

pub one_more : (spot : Spot) (sight : Sight) (before after : Room) → RoomSees spot sight before after
    → (profile : List DeviceParts) (told : List Observation) → RoomStandsAt before profile told
    → RoomStandsAt after profile (told ++ observation spot sight ∷ [])
one_more spot sight before after sees profile told stands = record {
  each = λ at small.
      subst (λ rs. IsKept (command_on profile at) (in_room after at) rs
      (numbers_at at (told ++ observation spot sight ∷ []))) (sym (reads_more spot at sight told))
      (subst (λ ns. IsKept (command_on profile at) (in_room after at)
      (reads_at at told ++ (if same_spot spot at then reads_in sight else [])) ns)
      (sym (numbers_more spot at sight told))
      ((sees.each at).keeps (command_on profile at) (reads_at at told) (numbers_at at told) (stands.each at small)));
}

-- ---- what is told of a spot

register_kind : (kind : Kind) → (kept_as kind ≡ Some OfBits → is_register kind ≡ true)
    × (kept_as kind ≡ Some OfValues → is_register kind ≡ false)
register_kind Raw = (λ e. cc, λ e. cc)
register_kind (Number format) = (λ e. cc, λ e. refl)
register_kind Vout = (λ e. cc, λ e. refl)
register_kind VoutSigned = (λ e. cc, λ e. refl)
register_kind Status = (λ e. refl, λ e. cc)
register_kind Text = (λ e. cc, λ e. cc)

register_there : (command : Option CommandParts) → kept_of command ≡ Some OfBits → is_of is_register command ≡ true
register_there None kept = cc
register_there (Some command) kept = (register_kind command.entry.kind).0 kept

no_register : (command : Option CommandParts) → kept_of command ≡ Some OfValues → is_of is_register command ≡ false
no_register None kept = cc
no_register (Some command) kept = (register_kind command.entry.kind).1 kept

pub register_told : (command : Option CommandParts) (slot : Slot) (reads : List RegisterRead)
    (numbers : List NumberData) (found : Option (Bor (List BitHistory)))
    → option_map (λ bits. bits.now) found ≡ bits_of slot
    → IfSome found (λ bits. length bits.now ≡ 16) → IsKept command (Some slot) reads numbers
    → MatchOption found (is_of is_register command ≡ false)
    (λ bits. (is_of is_register command ≡ true) × RegisterStandsAt bits.now reads × (length bits.now ≡ 16))
register_told command (Bits bits) reads numbers None is sixteen kept = cc
register_told command (Bits bits) reads numbers (Some found) is sixteen kept = (
  register_there command (sym kept.kept),
  subst (λ (bs : List BitHistory). RegisterStandsAt bs reads) (sym (same_Some found.now bits is)) kept.seen.stand,
  sixteen,
)
register_told command (Values history) reads numbers None is sixteen kept = no_register command (sym kept.kept)
register_told command (Values history) reads numbers (Some found) is sixteen kept = cc
