-- Which reader is asked for.
use Rattle.std.specs.Prelude.{◌≡◌, Bool, true, false, Option, Some, None}
use Rattle.pmb_capture_reader.specs.declared.work.Answer.{Answer}
use Rattle.pmb_capture_reader.specs.declared.work.Work.{Work}
use Rattle.pmb_fact_stream.specs.declared.telling.Telling.{Telling}
use Rattle.pmb_fact_stream.specs.declared.telling.Telling.TheVariants as telling
use Rattle.pmb_open_reader.specs.Acts.{ActsIn}
use Rattle.pmb_c.specs.declared.held.HeldReader.{HeldReader}
use Rattle.pmb_c.specs.declared.held.ReaderKind.{ReaderKind}
use Rattle.pmb_c.specs.declared.held.ReaderKind.TheVariants.{Objects, Items}

-- how readers of a kind tell facts
abbrev pub telling_of : ReaderKind → Telling
telling_of Objects = telling.Objects
telling_of Items = telling.Items

-- whether a reader of a kind is asked for: any is, where no kind is named
abbrev pub is_asked : Option ReaderKind → ReaderKind → Bool
is_asked None kind = true
is_asked (Some Objects) Objects = true
is_asked (Some Objects) Items = false
is_asked (Some Items) Objects = false
is_asked (Some Items) Items = true

-- The reader did what was asked; or it isn't asked for, and nothing was done.
abbrev pub ActsAs : Bool → HeldReader → HeldReader → Work → Work → Option Answer → Type 0
ActsAs true old new work done answer =
    (new ≡ record old { reader = record old.reader { is = new.reader.is } }) × ActsIn old.reader.is new.reader.is work done
    × (answer ≡ done.answer)
ActsAs false old new work done answer = (new ≡ old) × (done ≡ work) × (answer ≡ None)
