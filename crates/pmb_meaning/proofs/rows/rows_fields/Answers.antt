use Rattle.pmb_meaning.specs.machine.Rows.{row_parts}
use Rattle.pmb_meaning.specs.machine.Sound.{is_sound_row}
use Rattle.pmb_meaning.proofs.RowLemmas.{passes_at}
use Rattle.pmb_meaning.proofs.rows.rows_fields.Goals as goal

pub field-requires : goal.field-requires
field-requires c =
    passes_at is_sound_row row_parts c.args.rows.now c.loop-row.row-index _ c.requires.sound c.loop-row-test.true
