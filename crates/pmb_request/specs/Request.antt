-- What contracts see of a request.
use Rattle.std.specs.Prelude.{ℕ, Bool, Option, List, map}
use Rattle.pmb_quantity.specs.Fraction.{Fraction}
use Rattle.pmb_transaction.specs.Transaction.{PartData, part_data}
use Rattle.pmb_request.specs.declared.request.Request.{Request}
use Rattle.pmb_request.specs.declared.request.Request.TheVariants as declared

-- A device to be asked for a command code.
pub record Command : Type 0 where
  pub addr : ℕ
  pub code : ℕ
  pub pec : Bool

pub data RequestData : Type 0 where
  WriteParts : List PartData → RequestData
  ReadBytes : Command → RequestData
  CallBytes : Command → List ℕ → RequestData
  Set : Command → Fraction → Option ℕ → RequestData
  Get : Command → Option ℕ → RequestData

abbrev pub request_data : Request → RequestData
request_data (declared.Write parts) = WriteParts (map part_data parts.items)
request_data (declared.Read addr code pec) = ReadBytes (record { addr = addr; code = code; pec = pec })
request_data (declared.Call addr code bytes pec) =
    CallBytes (record { addr = addr; code = code; pec = pec }) bytes.items
request_data (declared.Set addr code value mode pec) = Set (record { addr = addr; code = code; pec = pec }) value mode
request_data (declared.Get addr code mode pec) = Get (record { addr = addr; code = code; pec = pec }) mode
