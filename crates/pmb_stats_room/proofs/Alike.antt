-- The slot of a spot stands at what each of two lists of observations tells of it: for the law `one_room`.
use Rattle.std.proofs.Common.{◌≡◌, ℕ, ◌<◌, true, Option, Some, None, List, arith, refl, ◌∙◌, inl, inr}
use Rattle.std.proofs.lemmas.Option.{none-some, slice_get_cases}
use Rattle.pmb_command.specs.declared.entry.Kind.{Kind}
use Rattle.pmb_command.specs.declared.entry.Kind.TheVariants.{Raw, Number, Vout, VoutSigned, Status, Text}
use Rattle.pmb_command.specs.Parts.{CommandParts}
use Rattle.pmb_mean.specs.Alike.{TellNumbersAlike}
use Rattle.pmb_mean.specs.machine.History.{HistoryData, HistoryStandsAt}
use Rattle.pmb_mean.specs.Numbers.{NumberData, kept}
use Rattle.pmb_observed.specs.Spot.{is_numeric, is_of, is_register}
use Rattle.pmb_stats_bits.specs.Alike.{TellBitAlike}
use Rattle.pmb_stats_bits.specs.Bits.{RegisterRead}
use Rattle.pmb_stats_bits.specs.declared.history.BitHistory.{BitHistory}
use Rattle.pmb_stats_bits.specs.Standing.{BitStandsAt}
use Rattle.pmb_stats_room.specs.declared.slot.Slot.{Slot}
use Rattle.pmb_stats_room.specs.declared.slot.Slot.TheVariants.{Bits, Values}
use Rattle.pmb_stats_room.specs.declared.slot.SlotKind.TheVariants.{OfBits, OfValues}
use Rattle.pmb_stats_room.specs.machine.Slots.{kept_as}
use Rattle.pmb_stats_room.specs.machine.Standing.{IsKept, kept_of}

-- ---- what is kept of a command

kept_bits : (kind : Kind) → is_register kind ≡ true → kept_as kind ≡ Some OfBits
kept_bits Raw is = cc
kept_bits (Number format) is = cc
kept_bits Vout is = cc
kept_bits VoutSigned is = cc
kept_bits Status is = refl
kept_bits Text is = cc

kept_values : (kind : Kind) → is_numeric kind ≡ true → kept_as kind ≡ Some OfValues
kept_values Raw is = cc
kept_values (Number format) is = refl
kept_values Vout is = refl
kept_values VoutSigned is = refl
kept_values Status is = cc
kept_values Text is = cc

bits_kept : (command : Option CommandParts) → is_of is_register command ≡ true → kept_of command ≡ Some OfBits
bits_kept None is = cc
bits_kept (Some command) is = kept_bits command.entry.kind is

values_kept : (command : Option CommandParts) → is_of is_numeric command ≡ true → kept_of command ≡ Some OfValues
values_kept None is = cc
values_kept (Some command) is = kept_values command.entry.kind is

-- ---- of one slot the same is told

module _ (command : Option CommandParts) where
  pub bits_alike : ((history : BitHistory) (reads others : List RegisterRead) (bit : ℕ) → BitStandsAt history reads bit
      → BitStandsAt history others bit → TellBitAlike reads others bit)
      → (slot : Option Slot) (reads others : List RegisterRead) (numbers more : List NumberData)
      → is_of is_register command ≡ true → IsKept command slot reads numbers → IsKept command slot others more
      → (bit : ℕ) → bit < 16 → TellBitAlike reads others bit
  bits_alike one None reads others numbers more is stands other bit small =
      absurd (none-some OfBits (stands.kept ∙ bits_kept command is))
  bits_alike one (Some (Bits bits)) reads others numbers more is stands other bit small =
      elim (slice_get_cases bits bit).1 [
        | inl at ↦ one at.0 reads others bit (stands.seen.stand bit at.0 at.2) (other.seen.stand bit at.0 at.2)
        | inr past ↦ absurd (omega (arith, past.0, stands.seen.sixteen))
      ]
  bits_alike one (Some (Values history)) reads others numbers more is stands other bit small =
      let e : Some OfValues ≡ Some OfBits = stands.kept ∙ bits_kept command is in absurd cc

  pub numbers_alike : ((history : HistoryData) (numbers others : List NumberData) → HistoryStandsAt history numbers
      → HistoryStandsAt history others → TellNumbersAlike (kept numbers) (kept others))
      → (slot : Option Slot) (reads others : List RegisterRead) (numbers more : List NumberData)
      → is_of is_numeric command ≡ true → IsKept command slot reads numbers → IsKept command slot others more
      → TellNumbersAlike (kept numbers) (kept more)
  numbers_alike one None reads others numbers more is stands other =
      absurd (none-some OfValues (stands.kept ∙ values_kept command is))
  numbers_alike one (Some (Bits bits)) reads others numbers more is stands other =
      let e : Some OfBits ≡ Some OfValues = stands.kept ∙ values_kept command is in absurd cc
  numbers_alike one (Some (Values history)) reads others numbers more is stands other =
      one history numbers more stands.seen other.seen
