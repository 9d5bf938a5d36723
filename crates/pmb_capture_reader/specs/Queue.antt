-- Bytes that are taken in the order in which they came.
use Rattle.std.specs.Prelude.{ℕ, ◌+◌, ◌*◌, ◌≤◌, ◌⊎◌, List, length}

-- what is left of them, and how many that were taken are still kept
pub record QueueData : Type 0 where
  pub left : List ℕ
  pub taken : ℕ

-- how many bytes are kept
abbrev pub queue_kept : QueueData → ℕ
queue_kept queue = queue.taken + length queue.left

-- No more bytes are kept than before, or at most twice as many as are left.
abbrev pub QueueKeepsFew : QueueData → QueueData → Type 0
QueueKeepsFew old new = (queue_kept new ≤ queue_kept old) ⊎ (queue_kept new ≤ 2 * length new.left)
