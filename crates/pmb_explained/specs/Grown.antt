-- What explanations do to standard error.
use Rattle.std.specs.Prelude.{ℕ, List}
use Rattle.std.specs.Io.KnownBytes.{Appends}
use Rattle.pmb_io.specs.Told.{WriterTold}

-- Some bytes were written after what was there: of a text whose write failed a front.
abbrev pub Grew : WriterTold → WriterTold → Type 0
Grew old new = (text : List ℕ) × Appends old.held new.held text
