-- Texts that are put out part by part.
use Rattle.std.specs.Prelude.{ℕ, true, false, Bool, if◌then◌else◌, Option, Some, None, List, [], ◌++◌, codes}
use Rattle.std.specs.List.{flat_map}
use Rattle.pmb_bus.specs.Event.{canonical_text}
use Rattle.pmb_recording.specs.Told.{byte_events, leg_text}
use Rattle.pmb_recording.specs.declared.wire_byte.WireByte.{WireByte}

-- what stands in front of a leg, the first or another
abbrev pub comma : Bool → List ℕ
comma true = []
comma false = codes ", "

abbrev pub next_leg : Bool → ℕ → List ℕ
next_leg is_first byte = comma is_first ++ leg_text byte

-- the leg that a byte on the wire begins
abbrev pub leg_of : Bool → WireByte → List ℕ
leg_of is_first b = if b.follows_start then next_leg is_first b.byte else []

-- what stands in front of `events were lost`
abbrev pub lost_count : Option (List ℕ) → List ℕ
lost_count (Some count) = count ++ codes " "
lost_count None = []

-- a byte on the wire, and some
abbrev pub wire_byte_text : WireByte → List ℕ
wire_byte_text b = canonical_text (byte_events b)

abbrev pub wire_text : List WireByte → List ℕ
wire_text wire = flat_map wire_byte_text wire
