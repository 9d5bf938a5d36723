-- Bytes on the wire, one more after others.
use Rattle.std.proofs.Common.{◌≡◌, ◌∙◌, ◌<◌, ◌+◌, ◌++◌, ◌∷◌, [], ℕ, List, ap, append_assoc, false, get_or, length, map, refl, sym, take}
use Rattle.std.proofs.lemmas.List.{map-append, take_more}
use Rattle.pmb_recording.specs.declared.wire_byte.WireByte.{WireByte}
use Rattle.pmb_smbus.specs.Packets.{acknowledged, byte_of, refused, with_last_refused}

abbrev pub no_byte : WireByte
no_byte = record { follows_start = false; byte = 0; is_acknowledged = false }

-- for `code_of`
pub bytes_more : (wire : List WireByte) (i : ℕ) → i < length wire
    → map byte_of (take (i + 1) wire) ≡ map byte_of (take i wire) ++ (get_or wire i no_byte).byte ∷ []
bytes_more wire i inside =
    ap (λ (w : List WireByte). map byte_of w) (take_more wire i no_byte inside)
    ∙ map-append byte_of (take i wire) (get_or wire i no_byte ∷ [])

-- for `put_bytes`
pub acknowledged_more : (front : List WireByte) (bytes : List ℕ) (i : ℕ) → i < length bytes
    → (front ++ acknowledged (take i bytes)) ++ acknowledged (get_or bytes i 0 ∷ [])
    ≡ front ++ acknowledged (take (i + 1) bytes)
acknowledged_more front bytes i inside = rw (take_more bytes i 0 inside) (simp (map-append, append_assoc))

-- the last of some is refused: for `refuse_last`
refused_at_last : (wire : List WireByte) (b : WireByte) → with_last_refused (wire ++ b ∷ []) ≡ wire ++ refused b ∷ []
refused_at_last [] b = refl
refused_at_last (first ∷ []) b = refl
refused_at_last (first ∷ second ∷ wire) b = ap (λ (w : List WireByte). first ∷ w) (refused_at_last (second ∷ wire) b)

pub last_is_refused : (wire front new : List WireByte) (last other : WireByte)
    → wire ≡ front ++ last ∷ [] → other ≡ refused last → new ≡ front ++ other ∷ [] → new ≡ with_last_refused wire
last_is_refused wire front new last other was is now =
    now ∙ (ap (λ (b : WireByte). front ++ b ∷ []) is
    ∙ (sym (refused_at_last front last) ∙ ap with_last_refused (sym was)))
