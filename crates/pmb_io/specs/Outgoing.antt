-- What goes out through a buffer.
use Rattle.std.specs.Prelude.{◌≡◌, ℕ, Option, List, ◌++◌}
use Rattle.std.specs.Io.KnownBytes.{Appends}

-- A writer held some bytes and others waited; with the text after those, a front was sent to the
-- writer, and the rest waits.
pub record PutsText (held_old : Option (List ℕ)) (waiting_old : List ℕ) (held_new : Option (List ℕ))
    (waiting_new : List ℕ) (text : List ℕ) : Type 0 where
  pub sent : List ℕ
  pub appended : Appends held_old held_new sent
  pub whole : waiting_old ++ text ≡ sent ++ waiting_new

-- A text that is put out, and then another, are put out as one.
abbrev pub TextsAddUp : Type 0
TextsAddUp = (h0 h1 h2 : Option (List ℕ)) (w0 w1 w2 a b : List ℕ) → PutsText h0 w0 h1 w1 a → PutsText h1 w1 h2 w2 b
    → PutsText h0 w0 h2 w2 (a ++ b)
