-- Texts that are put out in parts are those of the definitions: for `put_lost`, `put_packet`,
-- `put_time` and `put_passed`.
use Rattle.std.proofs.Common.{◌≡◌, ◌≢◌, ◌∙◌, ℕ, ◌==◌, false, length, Option, Some, None, List, [], ◌∷◌, ◌++◌, codes}
use Rattle.std.proofs.Common.{decimal, refl, sym, ap, append_assoc}
use Rattle.std.specs.List.{flat_map}
use Rattle.std.proofs.lemmas.Bool.{ne_eqb}
use Rattle.std.proofs.lemmas.Grind.{flat_map-append}
use Rattle.pmb_bus.specs.Event.{canonical_text, text_of}
use Rattle.pmb_bus.specs.declared.event.Event.TheVariants.{Stop}
use Rattle.pmb_recording.specs.Told.{byte_events, lost_line, packet_text, passed_line, time_line}
use Rattle.pmb_recording.specs.declared.wire_byte.WireByte.{WireByte}
use Rattle.pmb_recording.specs.machine.Texts.{lost_count, wire_byte_text, wire_text}

-- the line of lost events, with their number or without
pub lost_more : (line : ℕ) (count : Option (List ℕ))
    → ((codes "# line " ++ (decimal line ++ codes ": ")) ++ lost_count count) ++ codes "events were lost\n"
    ≡ lost_line line count
lost_more line (Some count) = simp append_assoc
lost_more line None = simp append_assoc

-- the text of bytes on the wire is that of their events
wire_is : (wire : List WireByte) → wire_text wire ≡ canonical_text (flat_map byte_events wire)
wire_is [] = refl
wire_is (b ∷ wire) = ap (λ (t : List ℕ). wire_byte_text b ++ t) (wire_is wire)
    ∙ sym (flat_map-append text_of (byte_events b) (flat_map byte_events wire))

-- a packet, with the line of its time
pub packet_more : (time : List ℕ) (wire : List WireByte)
    → (time_line time ++ wire_text wire) ++ codes "P\n" ≡ time_line time ++ packet_text wire
packet_more time wire = append_assoc (time_line time) (wire_text wire) (codes "P\n")
    ∙ ap (λ (t : List ℕ). time_line time ++ t) (ap (λ (t : List ℕ). t ++ codes "P\n") (wire_is wire)
    ∙ sym (flat_map-append text_of (flat_map byte_events wire) (Stop ∷ [])))

-- the line of a time that is there
pub time_some : (time : List ℕ) → (length time == 0) ≡ false → (codes "# " ++ time) ++ codes "\n" ≡ time_line time
time_some [] some = cc
time_some (byte ∷ time) some = refl

-- lines that were passed over, where there are some
pub passed_some : (count : ℕ) (name : List ℕ) → count ≢ 0
    → (((codes "# " ++ decimal count) ++ codes " lines of ") ++ name) ++ codes " were passed over\n"
    ≡ passed_line count name
passed_some count name some = rw (ne_eqb count 0 some) (simp append_assoc)
