-- Transactions of a kind.
use Rattle.std.specs.Prelude.{◌≡◌, ℕ, Bool, List, [], map}
use Rattle.arrayvec.specs.ArrayVec.{ArrayVec}
use Rattle.pmb_transaction.specs.declared.part.Part.{Part}
use Rattle.pmb_transaction.specs.declared.transaction.Transaction.{Transaction}
use Rattle.pmb_transaction.specs.declared.transaction.Transaction.TheVariants.{Write, Read, Call, Refused, Alert}
use Rattle.pmb_transaction.specs.declared.transaction.Transaction.TheVariants.{NoAlert}
use Rattle.pmb_transaction.specs.Transaction.{PartData, part_data}

pub record IsWrite (t : Transaction) : Type 0 where
  pub parts : ArrayVec Part
  pub is : t ≡ Write parts

pub record IsRead (t : Transaction) : Type 0 where
  pub addr : ℕ
  pub code : ℕ
  pub reply : ArrayVec ℕ
  pub pec : Bool
  pub is : t ≡ Read addr code reply pec

pub record IsCall (t : Transaction) : Type 0 where
  pub addr : ℕ
  pub code : ℕ
  pub bytes : ArrayVec ℕ
  pub reply : ArrayVec ℕ
  pub pec : Bool
  pub is : t ≡ Call addr code bytes reply pec

pub record IsRefused (t : Transaction) : Type 0 where
  pub parts : ArrayVec Part
  pub addr : ℕ
  pub sent : ArrayVec ℕ
  pub at_read : Bool
  pub is : t ≡ Refused parts addr sent at_read

pub record IsAlert (t : Transaction) : Type 0 where
  pub byte : ℕ
  pub pec : Bool
  pub is : t ≡ Alert byte pec

-- the parts of a write
abbrev pub parts_of : Transaction → List PartData
parts_of (Write parts) = map part_data parts.items
parts_of (Read addr code reply pec) = []
parts_of (Call addr code bytes reply pec) = []
parts_of (Refused parts addr sent at_read) = []
parts_of (Alert byte pec) = []
parts_of NoAlert = []
