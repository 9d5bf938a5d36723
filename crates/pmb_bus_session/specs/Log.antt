-- Text that is taken in the order in which it came.
use Rattle.std.specs.Prelude.{ℕ, ◌+◌, List, length}

-- what is left of it, how many bytes that were taken are still kept, and how many bytes more there is memory for
pub record LogData : Type 0 where
  pub left : List ℕ
  pub taken : ℕ
  pub room : ℕ

-- how many bytes are kept
abbrev pub log_kept : LogData → ℕ
log_kept log = log.taken + length log.left
