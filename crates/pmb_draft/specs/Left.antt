-- What a first profile says of the addresses that have no table in it, and where reading ended.
use Rattle.std.specs.Prelude.{ℕ, zero, suc, ◌&&◌, Bool, false, not, if◌then◌else◌, Option, None, Some, List, [], ◌∷◌}
use Rattle.std.specs.Prelude.{◌++◌, codes, decimal, nat_eq, slice_index_or}
use Rattle.std.specs.List.{list_any}
use Rattle.hex.specs.Hex.{encode_lower}
use Rattle.pmb_draft.specs.Seen.{is_device_address}

-- why an address that acknowledged has no table: the profile has 64 others, or none may have it
unfoldable pub left_reason : ℕ → List ℕ
left_reason address =
    if is_device_address address then codes " acknowledged too: a profile has at most 64 devices\n"
    else codes " acknowledged: no device of a profile may have this address\n"

-- a comment for it
unfoldable pub left_line : ℕ → List ℕ
left_line address = codes "# " ++ encode_lower (address ∷ []) ++ left_reason address

-- for those that acknowledged and are not listed
unfoldable pub line_of : List Bool → List ℕ → ℕ → List ℕ
line_of acked listed address =
    if slice_index_or acked address false && not (list_any (nat_eq address) listed) then left_line address else []

-- of the addresses below one, ascending
unfoldable pub lines_below : List Bool → List ℕ → ℕ → List ℕ
lines_below acked listed zero = []
lines_below acked listed (suc n) = lines_below acked listed n ++ line_of acked listed n

-- The comment for a word that is no token, at which reading ended; none where all was read.
unfoldable pub bad_line : Option ℕ → List ℕ
bad_line None = []
bad_line (Some at) = codes "# bad token at byte " ++ decimal at ++ codes ": the capture was read up to there\n"

-- all of them
unfoldable pub left_out : List Bool → List ℕ → Option ℕ → List ℕ
left_out acked listed bad = lines_below acked listed 128 ++ bad_line bad
