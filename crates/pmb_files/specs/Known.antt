-- What is known of files by their names.
use Rattle.std.specs.Prelude.{◌≡◌, ◌∷◌, ℕ, ⊤, Option, Some, None, Result, Ok, Err, IsOk, IfSome, List, [], option_map}
use Rattle.std.specs.Prelude.{option_and_then}
use Rattle.pmb_files.specs.Words.{Text}
use Rattle.pmb_files.specs.declared.file_fault.FileFault.{FileFault}

-- the bytes of a file, or why it can't be read, where that is known
abbrev pub Known : Type 0
Known = Option (Result (List ℕ) FileFault)

-- a look at it tells this
abbrev pub Looks : {A : Type 0} → Known → Result A FileFault → Type 0
Looks None told = ⊤
Looks (Some (Ok bytes)) told = IsOk told
Looks (Some (Err fault)) told = told ≡ Err fault

-- its bytes, where they are known
abbrev pub bytes_of : Known → Option (List ℕ)
bytes_of None = None
bytes_of (Some (Ok bytes)) = Some bytes
bytes_of (Some (Err fault)) = None

-- what is open has these left, where they are known
abbrev pub Opens : Known → Option (List ℕ) → Type 0
Opens known left = IfSome (bytes_of known) (λ bytes. left ≡ Some bytes)

-- the bytes of files, where those of all are known
abbrev pub all_bytes : (Text → Known) → List Text → Option (List (List ℕ))
all_bytes known [] = Some []
all_bytes known (name ∷ names) =
    option_and_then (λ bytes. option_map (λ others. bytes ∷ others) (all_bytes known names)) (bytes_of (known name))
