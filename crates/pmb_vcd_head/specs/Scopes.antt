-- Scopes of signals, as they are kept.
use Rattle.std.specs.Prelude.{ℕ, ◌+◌, ◌-◌, ◌^◌, nat_le, nat_lt, min, Option, Some, None, if◌then◌else◌, List, [], ◌∷◌, ◌++◌}
use Rattle.std.specs.Prelude.{codes, length, slice_get, take}
use Rattle.pmb_vcd_head.specs.declared.scopes.Scopes.{Scopes}

-- the most bytes of a name with its scopes
abbrev pub most_name : ℕ
most_name = 255

abbrev pub no_scopes : Scopes
no_scopes = record { text = record { items = [] }; starts = record { items = [] }; lost = 0 }

-- its name stands behind those of the scopes around it, with a point behind it
abbrev pub with_scope : Scopes → List ℕ → Scopes
with_scope s name = record {
  text = record { items = (s.text.items ++ name) ++ codes "." };
  starts = record { items = s.starts.items ++ length s.text.items ∷ [] };
  lost = s.lost;
}

-- one more is open whose name has no room
abbrev pub lose : Scopes → Scopes
lose s = record s { lost = min (s.lost + 1) (2 ^ 64 - 1) }

-- a name within these scopes has room if it and its point have
abbrev pub with_opened : Scopes → List ℕ → Scopes
with_opened s name =
    if nat_lt 0 s.lost then lose s else
    if nat_le most_name (length s.text.items + length name) then lose s else
    if nat_le most_name (length s.starts.items) then lose s else with_scope s name

-- the scope that was opened last is closed
abbrev pub without_last : Scopes → Option ℕ → Scopes
without_last s (Some start) = record {
  text = record { items = take start s.text.items };
  starts = record { items = take (length s.starts.items - 1) s.starts.items };
  lost = s.lost;
}
without_last s None = s

abbrev pub close : Scopes → Scopes
close s =
    if nat_lt 0 s.lost then record s { lost = s.lost - 1 } else
    without_last s (slice_get s.starts.items (length s.starts.items - 1))
