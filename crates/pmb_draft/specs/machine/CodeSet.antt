-- Which codes a set has.
use Rattle.std.specs.Prelude.{◌≡◌, ℕ, ◌+◌, ◌*◌, ◌<◌, true, false, slice_index_or}
use Rattle.pmb_draft.specs.declared.code_set.CodeSet.{CodeSet}

-- a code at an address is in it
pub record IsIn (set : CodeSet) (address code : ℕ) : Type 0 where
  pub small : address < 128
  pub byte : code < 256
  pub flag : slice_index_or set.flags (address * 256 + code) false ≡ true
