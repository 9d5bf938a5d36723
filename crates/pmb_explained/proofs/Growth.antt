-- A write of a text, whatever came of it, left some bytes after those that were there.
use Rattle.std.proofs.Common.{List, ℕ, Result, Ok, Err, OnOk, OnErr}
use Rattle.std.specs.Io.KnownBytes.{Appends}
use Rattle.pmb_io.specs.Calls.{AppendsFront}
use Rattle.pmb_io.specs.Told.{WriterTold}
use Rattle.pmb_io.specs.declared.fault.IoFault.{IoFault}
use Rattle.pmb_explained.specs.Grown.{Grew}

pub grown : {A : Type 0} (old new : WriterTold) (bytes : List ℕ) (result : Result A IoFault)
    → OnOk result (Appends old.held new.held bytes) → OnErr result (AppendsFront old.held new.held bytes) → Grew old new
grown old new bytes (Ok x) written front = (bytes, written)
grown old new bytes (Err fault) written front = (front.sent, front.appended)
