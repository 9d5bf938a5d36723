-- What is said of a packet error code.
use Rattle.std.specs.Prelude.{ℕ, Bool, true, false, if◌then◌else◌, nat_eq, Option, Some, None, List}
use Rattle.pmb_bus.specs.declared.event.Event.{Event}
use Rattle.pmb_command.specs.Parts.{DeviceParts, device_with}
use Rattle.pmb_json_objects.specs.Packets.{is_whole_write, last_byte}
use Rattle.pmb_json_objects.specs.Refusals.{due_pec}
use Rattle.pmb_json_objects.specs.Seen.{SeenData}
use Rattle.pmb_log_data.specs.Whole.{leg_code}
use Rattle.pmb_partial_packet.specs.PartialPacket.{but_last}
use Rattle.pmb_transaction.specs.declared.reason.Reason.{Reason}
use Rattle.pmb_items.specs.Bytes.{flag, or_none}
use Rattle.pmb_items.specs.declared.item.ItemPec.{ItemPec}

abbrev pub no_pec : ItemPec
no_pec = record { there = 0xffff; right = 0xffff }

-- of a packet: whether there was one, which was right
abbrev pub packet_pec : Bool → ItemPec
packet_pec there = record { there = flag there; right = 0xffff }

-- of a refused byte in its place, and the right one
abbrev pub checked_pec : ℕ → ℕ → ItemPec
checked_pec byte right = record { there = flag (nat_eq byte right); right = right }

-- of the bytes before the refused one, and that one
abbrev pub checked_last : ℕ → Option DeviceParts → List ℕ → Option ℕ → ItemPec
checked_last addr device front None = no_pec
checked_last addr device front (Some last) =
    if is_whole_write device front then checked_pec last (leg_code addr front) else no_pec

-- of a leg that was refused: of a byte, not of an address
abbrev pub refused_pec : SeenData → ℕ → List ℕ → Bool → ItemPec
refused_pec seen addr sent true = no_pec
refused_pec seen addr sent false =
    checked_last addr (device_with addr seen.profile) (but_last sent) (last_byte sent)

-- of a refusal for a wrong one
abbrev pub refusal_pec : Reason → List Event → Option Event → ItemPec
refusal_pec reason front event = record { there = 0xffff; right = or_none (due_pec reason front event) }
