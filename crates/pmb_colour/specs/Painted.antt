-- What a writer that paints is over, and what it was told.
use Rattle.std.specs.Prelude.{ℕ, List}
use Rattle.pmb_colour.specs.declared.painted.Painted.{Painted}

-- the writer that its text goes on to
abbrev pub writer_of : {W S : Type 0} {g h : _} → Painted W S g h → W
writer_of painted = painted.painter.inner

-- all that it was told
abbrev pub painted_text : {W S : Type 0} {g h : _} → Painted W S g h → List ℕ
painted_text painted = painted.told.bytes
