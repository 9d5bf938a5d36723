-- What is on its way to a writer.
use Rattle.std.specs.Prelude.{ℕ, List}
use Rattle.pmb_colour.specs.declared.painter.Painter.{Painter}
use Rattle.pmb_colour.specs.Painting.{Held}

-- what is held of the line under way
abbrev pub held_by : {W : Type 0} → Painter W → Held
held_by painter = record { line = painter.line.value.items; is_rest = painter.is_rest }

abbrev pub inner_of : {W : Type 0} → Painter W → W
inner_of painter = painter.inner

abbrev pub waiting_of : {W : Type 0} → Painter W → List ℕ
waiting_of painter = painter.waiting.value.items
