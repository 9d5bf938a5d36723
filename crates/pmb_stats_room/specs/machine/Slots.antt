-- What a slot holds.
use Rattle.std.specs.Prelude.{◌≡◌, Option, Some, None, List, [], length}
use Rattle.pmb_command.specs.declared.entry.Kind.{Kind}
use Rattle.pmb_command.specs.declared.entry.Kind.TheVariants.{Raw, Number, Vout, VoutSigned, Status, Text}
use Rattle.pmb_mean.specs.machine.History.{HistoryData, HistoryStandsAt}
use Rattle.pmb_mean.specs.Numbers.{NumberData}
use Rattle.pmb_stats_bits.specs.Bits.{RegisterRead}
use Rattle.pmb_stats_bits.specs.declared.history.BitHistory.{BitHistory}
use Rattle.pmb_stats_bits.specs.Standing.{RegisterStandsAt}
use Rattle.pmb_stats_room.specs.declared.slot.Slot.{Slot}
use Rattle.pmb_stats_room.specs.declared.slot.Slot.TheVariants.{Bits, Values}
use Rattle.pmb_stats_room.specs.declared.slot.SlotKind.{SlotKind}
use Rattle.pmb_stats_room.specs.declared.slot.SlotKind.TheVariants.{OfBits, OfValues}

abbrev pub kind_of : Slot → SlotKind
kind_of (Bits bits) = OfBits
kind_of (Values history) = OfValues

abbrev pub bits_of : Slot → Option (List BitHistory)
bits_of (Bits bits) = Some bits
bits_of (Values history) = None

abbrev pub numbers_of : Slot → Option HistoryData
numbers_of (Bits bits) = None
numbers_of (Values history) = Some history

-- what is kept of a command of a kind
abbrev pub kept_as : Kind → Option SlotKind
kept_as Raw = None
kept_as (Number format) = Some OfValues
kept_as Vout = Some OfValues
kept_as VoutSigned = Some OfValues
kept_as Status = Some OfBits
kept_as Text = None

-- the histories of all 16 bits stand at these reads of a register
pub record HaveRead (bits : List BitHistory) (reads : List RegisterRead) : Type 0 where
  pub sixteen : length bits ≡ 16
  pub stand : RegisterStandsAt bits reads

-- it stands at these reads of a register, or at these numbers
abbrev pub HasSeen : Slot → List RegisterRead → List NumberData → Type 0
HasSeen (Bits bits) reads numbers = HaveRead bits reads
HasSeen (Values history) reads numbers = HistoryStandsAt history numbers

-- a slot in which nothing was seen
pub record IsFresh (kind : SlotKind) (slot : Slot) : Type 0 where
  pub is : kind_of slot ≡ kind
  pub unseen : HasSeen slot [] []
