use Rattle.std.proofs.Common.{◌<◌, arith}
use Rattle.pmb_vid.specs.Vid.{denominator, vid}
use Rattle.pmb_vid.specs.declared.table.VidTable.{VidTable}
use Rattle.pmb_vid.specs.declared.table.VidTable.TheVariants.{Vr11, Vr12, Vr13, Imvp9, Amd625mv, Nvidia195mv}
use Rattle.pmb_format.proofs.LawLemmas.{keeps_values}
use Rattle.pmb_value.proofs.laws.vid_keeps_values.Goals as goal

some_denominator : (table : VidTable) → 0 < denominator table
some_denominator Vr11 = omega arith
some_denominator Vr12 = omega arith
some_denominator Vr13 = omega arith
some_denominator Imvp9 = omega arith
some_denominator Amd625mv = omega arith
some_denominator Nvidia195mv = omega arith

pub returns : goal.returns
returns c = λ table. keeps_values (vid table) (some_denominator table)
