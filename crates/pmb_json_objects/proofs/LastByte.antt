-- Bytes with one more at their end: that is the last byte, and they are those before it. For
-- `append_check` of `src/refused.rt`, by Checked: the byte that a device refused is the last of
-- those sent.
use Rattle.std.proofs.Common.{◌≡◌, ℕ, Some, List, [], ◌∷◌, ◌++◌, refl, ap}
use Rattle.pmb_partial_packet.specs.PartialPacket.{but_last}
use Rattle.pmb_json_objects.specs.Packets.{last_byte}

pub before_last : (front : List ℕ) (last : ℕ) → but_last (front ++ last ∷ []) ≡ front
before_last [] last = refl
before_last (b ∷ []) last = refl
before_last (b ∷ c ∷ front) last = ap (λ bs. b ∷ bs) (before_last (c ∷ front) last)

pub the_last : (front : List ℕ) (last : ℕ) → last_byte (front ++ last ∷ []) ≡ Some last
the_last [] last = refl
the_last (b ∷ []) last = refl
the_last (b ∷ c ∷ front) last = the_last (c ∷ front) last
