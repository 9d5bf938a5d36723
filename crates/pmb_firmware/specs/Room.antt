-- A text written into the room that the caller has for it.
use Rattle.std.specs.Prelude.{ℕ, ◌+◌, ℤ, Option, Some, None, Result, Ok, Err, List, ◌∷◌, ◌++◌, drop, length, nat_lt}
use Rattle.std.specs.Prelude.{if◌then◌else◌}
use Rattle.pmb_quantity.specs.Fraction.{Fraction}
use Rattle.pmb_quantity.specs.QuantityText.{spelling}
use Rattle.pmb_quantity.specs.declared.quantity.QuantityFault.{QuantityFault}
use Rattle.pmb_firmware.specs.declared.call_status.CallStatus.{CallStatus}
use Rattle.pmb_firmware.specs.declared.call_status.CallStatus.TheVariants as status
use Rattle.pmb_firmware.specs.CallStatus.{number_of}

-- what a call leaves: the status that it returns, the room, and the length that it tells
pub record Left : Type 0 where
  pub status : ℤ
  pub room : List ℕ
  pub length : ℕ

-- A text goes to the start of the room with a NUL after it, and the rest stays. Where both don't fit
-- all stays, and the text's length is told.
abbrev pub put : List ℕ → List ℕ → Left
put text room =
    if nat_lt (length text) (length room)
    then record { status = number_of status.Done; room = text ++ 0 ∷ drop (length text + 1) room; length = length text }
    else record { status = number_of status.NoRoom; room = room; length = length text }

-- Where there is no text the room stays, and the length is 0.
abbrev pub put_some : Result (List ℕ) CallStatus → List ℕ → Left
put_some (Ok text) room = put text room
put_some (Err fault) room = record { status = number_of fault; room = room; length = 0 }

-- the text of a quantity
abbrev pub quantity_text : Result Fraction QuantityFault → Result (List ℕ) CallStatus
quantity_text (Ok q) = Ok (spelling q)
quantity_text (Err fault) = Err (status.Quantity fault)

-- a name
abbrev pub some_name : Option (List ℕ) → Result (List ℕ) CallStatus
some_name (Some name) = Ok name
some_name None = Err status.NoName
