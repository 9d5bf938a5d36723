-- Files that are read as one: one after the other, and an LF before a file where the bytes before it lack it.
use Rattle.std.specs.Prelude.{ℕ, ◌==◌, Bool, true, false, Option, Some, None, List, [], ◌∷◌, ◌++◌, map}
use Rattle.std.specs.Io.KnownBytes.{prepend_known}
use Rattle.pmb_files.specs.Known.{Known, all_bytes}
use Rattle.pmb_files.specs.Words.{Text}
use Rattle.pmb_files.specs.declared.joined.Joined.{Joined}

-- whether a line starts after bytes: their last is LF, or there are none and one started before
abbrev pub starts_after : (before : Bool) → List ℕ → Bool
starts_after before [] = before
starts_after before (byte ∷ bytes) = starts_after (byte == 10) bytes

-- the LF before a file
abbrev pub line_end : (starts : Bool) → List ℕ
line_end true = []
line_end false = 10 ∷ []

-- The bytes of files as one. Where a line starts before them, nothing comes before the first.
abbrev pub joined : (starts : Bool) → List (List ℕ) → List ℕ
joined starts [] = []
joined starts (file ∷ files) = line_end starts ++ (file ++ joined (starts_after true file) files)

-- ---- what a reader has left

-- bytes, and then files
abbrev pub with_files : (starts : Bool) → List ℕ → List (List ℕ) → List ℕ
with_files starts bytes files = bytes ++ joined (starts_after starts bytes) files

-- the same where both are known
abbrev pub left_of : (starts : Bool) → Option (List ℕ) → Option (List (List ℕ)) → Option (List ℕ)
left_of starts None files = None
left_of starts (Some bytes) None = None
left_of starts (Some bytes) (Some files) = Some (with_files starts bytes files)

-- the bytes of the open file, if there is one
abbrev pub open_left : {O : Type 0} → (O → Option (List ℕ)) → Option O → Option (List ℕ)
open_left left None = Some []
open_left left (Some file) = left file

-- the bytes that a reader of joined files has left
abbrev pub joined_left : {F O : Type 0} → (F → Text → Known) → (O → Option (List ℕ)) → Joined F O
    → Option (List ℕ)
joined_left known left reader = left_of reader.starts_line (prepend_known reader.head.now (open_left left reader.open))
    (all_bytes (known reader.files.now) (map (λ name. name.now) reader.names.now))
