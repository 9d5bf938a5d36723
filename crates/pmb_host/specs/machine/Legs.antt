-- The bytes of a written leg as the code has them.
use Rattle.std.specs.Prelude.{ℕ, Bool, true, false, List, ◌∷◌, ◌++◌, []}
use Rattle.std.specs.Option.{option_to_list}
use Rattle.pmb_bus.specs.Pec.{pec}
use Rattle.pmb_host.specs.declared.host_leg.HostLeg.{HostLeg}

-- the data, after the count of a block
abbrev pub wire_of : HostLeg → List ℕ
wire_of leg = option_to_list leg.count ++ leg.«data».now

-- the bytes but for a packet error code
abbrev pub plain_bytes : HostLeg → List ℕ
plain_bytes leg = leg.address ∷ (option_to_list leg.code ++ wire_of leg)

-- bytes, and where there is to be a packet error code, this one
abbrev pub coded_with : Bool → ℕ → List ℕ → List ℕ
coded_with false code bytes = bytes
coded_with true code bytes = bytes ++ code ∷ []

-- all bytes of a leg, where its packet error code is the right one
abbrev pub leg_bytes : HostLeg → List ℕ
leg_bytes leg = coded_with leg.pec (pec (plain_bytes leg)) (plain_bytes leg)
