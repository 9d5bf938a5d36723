-- A reader and a writer that keep what goes through them: what they have inside, and what is kept.
use Rattle.std.specs.Prelude.{ℕ, List}
use Rattle.pmb_io.specs.Told.{WriterTold}
use Rattle.pmb_explained.specs.declared.kept_input.KeptInput.{KeptInput}
use Rattle.pmb_explained.specs.declared.kept_output.KeptOutput.{KeptOutput}

abbrev pub input_inner : {R : Type 0} → KeptInput R → R
input_inner input = input.inner

-- what is kept of the bytes that were read
abbrev pub input_kept : {R : Type 0} → KeptInput R → List ℕ
input_kept input = input.kept.items

abbrev pub output_inner : {W : Type 0} → KeptOutput W → W
output_inner output = output.inner

-- what the writer inside tells
abbrev pub kept_told : {W : Type 0} → (W → WriterTold) → KeptOutput W → WriterTold
kept_told told output = told output.inner
