-- What the object of a refused byte says of its packet error code: whether the byte was the right
-- one, after a whole write body. For `append_check` of `src/refused.rt`. Without a device, without
-- a byte, or before the body is whole nothing is said.
use Rattle.std.proofs.Common.{◌≡◌, ℕ, Bool, false, if◌then◌else◌, Option, Some, None, List, [], ◌∷◌, ◌++◌, refl, ap}
use Rattle.std.proofs.Common.{◌∙◌}
use Rattle.pmb_bus.specs.Address.{write_address}
use Rattle.pmb_bus.specs.Pec.{pec}
use Rattle.pmb_command.specs.Parts.{DeviceParts}
use Rattle.pmb_json_text.specs.Member.{Member}
use Rattle.pmb_partial_packet.specs.PartialPacket.{but_last}
use Rattle.pmb_json_objects.specs.Packets.{checked_members, is_whole_write, last_byte, refused_check, right_members}
use Rattle.pmb_json_objects.proofs.LastByte.{before_last, the_last}

no_device_of : (addr : ℕ) (front : List ℕ) (last : Option ℕ) → checked_members addr None front last ≡ []
no_device_of addr front None = refl
no_device_of addr front (Some last) = refl

pub no_device : (addr : ℕ) (sent : List ℕ) → refused_check addr None sent false ≡ []
no_device addr sent = no_device_of addr (but_last sent) (last_byte sent)

pub no_byte : (addr : ℕ) (device : DeviceParts) (sent : List ℕ) → sent ≡ []
    → refused_check addr (Some device) sent false ≡ []
no_byte addr device sent none = ap (λ s. refused_check addr (Some device) s false) none

abbrev by_test : ℕ → List ℕ → ℕ → Bool → List Member
by_test addr front last whole = if whole then right_members last (pec (write_address addr ∷ front)) else []

pub of_bytes : (addr : ℕ) (device : DeviceParts) (sent front : List ℕ) (last : ℕ) (whole : Bool)
    → sent ≡ front ++ last ∷ [] → is_whole_write (Some device) front ≡ whole
    → refused_check addr (Some device) sent false ≡ by_test addr front last whole
of_bytes addr device sent front last whole parts test =
    ap (λ s. refused_check addr (Some device) s false) parts
    ∙ ap (λ fs. checked_members addr (Some device) fs (last_byte (front ++ last ∷ []))) (before_last front last)
    ∙ ap (λ l. checked_members addr (Some device) front l) (the_last front last)
    ∙ ap (by_test addr front last) test
