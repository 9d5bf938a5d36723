-- A packet, drawn with phases of 100 and read back.
use Rattle.std.specs.Prelude.{◌≡◌, true, false, List, [], ◌∷◌, refl}
use Rattle.pmb_recording.specs.declared.wire_byte.WireByte.{WireByte}
use Rattle.pmb_wire_packets.specs.Bits.{byte_of}
use Rattle.pmb_wire_packets.specs.Drawn.{Pen, all_read, bits_of, wave_form}
use Rattle.pmb_wire_packets.specs.Packets.{Packet, Outside, told}
use Rattle.pmb_wire_packets.specs.Pieces.{items}

abbrev pen : Pen
pen = record { phase = λ number. 100; line = λ number. number }

-- a write of b0, acknowledged, and then a repeated START with b1, not acknowledged
abbrev wire : List WireByte
wire =
    (record { follows_start = true; byte = 0xb0; is_acknowledged = true })
    ∷ (record { follows_start = true; byte = 0xb1; is_acknowledged = false }) ∷ []

pub the_bits : byte_of (bits_of 0xb0) ≡ 0xb0
the_bits = refl

pub read_back : told 25 Outside (items 50 (all_read (wave_form pen 1000 (wire ∷ [])))) ≡ Packet 1100 wire ∷ []
read_back = refl
