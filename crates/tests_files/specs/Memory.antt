-- What is known of files in memory.
use Rattle.std.specs.Borrow.{Bor}
use Rattle.std.specs.Prelude.{ℕ, Some, Result, Ok, Err, List, [], ◌∷◌, if◌then◌else◌}
use Rattle.std.specs.Str.{bytes_eq}
use Rattle.pmb_files.specs.Known.{Known}
use Rattle.pmb_files.specs.Words.{Text}
use Rattle.pmb_files.specs.declared.file_fault.FileFault.{FileFault}
use Rattle.pmb_files.specs.declared.file_fault.FileFault.TheVariants.{NoSuchFile}
use Rattle.tests_files.specs.declared.memory.Entry.{Entry}

-- the bytes, or why they can't be read
abbrev pub content_of : Result (Bor (List ℕ)) FileFault → Result (List ℕ) FileFault
content_of (Ok bytes) = Ok bytes.now
content_of (Err fault) = Err fault

-- those of the first entry of a name
abbrev pub known_in : List Entry → Text → Known
known_in [] name = Some (Err NoSuchFile)
known_in (entry ∷ entries) name =
    if bytes_eq entry.name.now name then Some (content_of entry.content) else known_in entries name
