-- Lines that were dropped of a capture, beside the capture as it was on the bus.
use Rattle.std.specs.Prelude.{◌≡◌, ℕ, Some, List, [], ◌∷◌, ◌++◌, map}
use Rattle.pmb_command.specs.Parts.{DeviceParts, device_with}
use Rattle.pmb_note.specs.Paging.{paging}
use Rattle.pmb_transaction.specs.Transaction.{TransactionData}
use Rattle.pmb_unknown_start.specs.Certain.{CanBegin, CanFollowDrop}
use Rattle.pmb_unknown_start.specs.Past.{PastData, Said, Dropped}
use Rattle.pmb_unknown_start.specs.Taken.{NoneCrosses, as_taken, taken}
use Rattle.pmb_unknown_start.specs.declared.start.Start.{Start}

-- What was on the bus after these transactions, where a piece has what was said and where lines were dropped:
-- the same transactions, and in the place of each such line some, whatever they were. After them PAGE of the
-- device is a page that it has, or ffh, and each page has the VOUT_MODE that it had, if that is fixed.
abbrev pub IsMended : Start → DeviceParts → List TransactionData → List PastData → List TransactionData → Type 0
IsMended start device before [] ts = ts ≡ []
IsMended start device before (Said t ∷ past) ts =
    (rest : List TransactionData) × (ts ≡ t ∷ rest) × IsMended start device (before ++ t ∷ []) past rest
IsMended start device before (Dropped ∷ past) ts =
    (lost : List TransactionData) × (rest : List TransactionData) × (ts ≡ lost ++ rest)
    × CanFollowDrop start device (paging device before) (paging device (before ++ lost))
    × IsMended start device (before ++ lost) past rest

-- The same of each device, by what it took, and what was told it before is such that a capture can begin there. No
-- packet reached it at two of its addresses.
abbrev pub CanBeMended : Start → List DeviceParts → List TransactionData → List PastData → List TransactionData → Type 0
CanBeMended start profile before past ts = (addr : ℕ) (device : DeviceParts) → device_with addr profile ≡ Some device
    → CanBegin start device (paging device (map (taken device) before))
    × IsMended start device (map (taken device) before) (as_taken device past) (map (taken device) ts)
    × NoneCrosses device (before ++ ts)
