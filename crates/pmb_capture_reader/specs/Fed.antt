-- What a reader was given.
use Rattle.std.specs.Prelude.{ℕ, List, ◌++◌}
use Rattle.pmb_capture_reader.specs.declared.reader.Fed.{Fed}
use Rattle.pmb_capture_reader.specs.declared.reader.Fed.TheVariants.{More, Ended, Memory}

-- A piece counts where more was wanted.
abbrev pub given_with : Fed → List ℕ → List ℕ → List ℕ
given_with More given piece = given ++ piece
given_with Ended given piece = given
given_with Memory given piece = given
