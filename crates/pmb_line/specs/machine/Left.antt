-- What the words that are left of a line say.
use Rattle.std.specs.Prelude.{List, map}
use Rattle.pmb_line.specs.declared.words.Located.{Located}
use Rattle.pmb_line.specs.declared.words.Words.{Words}
pub use Rattle.pmb_line.specs.Left.{end}
use Rattle.pmb_line.specs.Left.{words_left}
use Rattle.pmb_line.specs.machine.Reading.{located}

abbrev pub left : Words → List Located
left w = map located (words_left w)
