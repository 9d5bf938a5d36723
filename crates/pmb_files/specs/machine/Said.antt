-- What the writer holds and tells that keeps what the tool says.
use Rattle.std.specs.Prelude.{ℕ, Some, List}
use Rattle.pmb_io.specs.Told.{WriterTold}
use Rattle.pmb_files.specs.declared.said.Said.{Said}

abbrev pub said_text : Said → List ℕ
said_text said = said.text.items

abbrev pub said_told : Said → WriterTold
said_told said = record { held = Some (said_text said); failures = said.failures }
