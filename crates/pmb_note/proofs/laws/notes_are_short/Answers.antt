use Rattle.pmb_note.specs.Note.{note}
use Rattle.pmb_note.specs.Paging.{mode}
use Rattle.pmb_note.proofs.OneLine.{no_lf-all}
use Rattle.pmb_note.proofs.ShortNotes.{short_note}
use Rattle.pmb_note.proofs.laws.notes_are_short.Goals as goal

pub returns-clause-one : goal.returns-clause-one
returns-clause-one c profile before t events bus packet =
    no_lf-all (note profile before t) (short_note profile bus (mode profile before) t events packet).one

pub returns-clause-short : goal.returns-clause-short
returns-clause-short c profile before t events bus packet =
    (short_note profile bus (mode profile before) t events packet).few
