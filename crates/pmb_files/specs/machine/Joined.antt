-- Where a reader of joined files is.
use Rattle.std.specs.Prelude.{◌≡◌, None, []}
use Rattle.pmb_files.specs.declared.joined.Joined.{Joined}

-- nothing is left of the bytes that come first, and no file is open
abbrev pub HasEnded : {F O : Type 0} → Joined F O → Type 0
HasEnded reader = (reader.head.now ≡ []) × (reader.open ≡ None)
