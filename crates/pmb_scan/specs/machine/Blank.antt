-- Bytes between two words.
use Rattle.std.specs.Prelude.{◌≡◌, ℕ, Bool, true, if◌then◌else◌}
use Rattle.pmb_bus.specs.Event.{character}
use Rattle.pmb_bus.specs.Text.{in_comment, is_separator}

-- A byte is a separator or stands in a comment. `before` says whether the byte before it stands in a
-- comment, and `after` whether this one does.
pub record Passes (before : Bool) (byte : ℕ) (after : Bool) : Type 0 where
  pub comment : after ≡ in_comment before byte
  pub separates : is_separator (if in_comment before byte then character " " else byte) ≡ true
