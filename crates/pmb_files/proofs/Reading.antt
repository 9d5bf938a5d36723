-- What is read of a profile, and the first file that can't be read. For `read_head`, `look_at` and `run_task`.
use Rattle.std.proofs.Common.{◌≡◌, ◌∙◌, ◌⊎◌, ◌<◌, ℕ, true, Option, Some, None, Result, Ok, Err, List, [], ◌∷◌, ◌++◌, length, sym, ap}
use Rattle.std.proofs.Common.{subst, append-nil, append_assoc, MatchResult, option_and_then, option_map}
use Rattle.std.specs.Io.KnownBytes.{Consumes, IsAtEnd}
use Rattle.std.specs.List.{All}
use Rattle.std.proofs.lemmas.List.Elements.{All-append}
use Rattle.pmb_files.specs.Joined.{left_of}
use Rattle.pmb_files.specs.Known.{Known, Looks, bytes_of}
use Rattle.pmb_files.specs.Program.{FirstFault, IsReadOf, MayBeFine, MayFault, most_text}
use Rattle.pmb_files.specs.Words.{Text}
use Rattle.pmb_files.specs.declared.file_fault.FileFault.{FileFault}

-- the bytes of one file, as a reader of joined files has them left
abbrev pub one_left : Known → Option (List ℕ)
one_left known =
    left_of true (Some []) (option_and_then (λ bytes. option_map (λ others. bytes ∷ others) (Some [])) (bytes_of known))

-- they were read
pub is_read : (known : Known) (old new : Option (List ℕ)) (bytes : List ℕ) → old ≡ one_left known
    → Consumes old new bytes → IsAtEnd new ⊎ (most_text < length bytes) → IsReadOf known bytes
is_read None old new bytes is consumed ended = tt
is_read (Some (Err fault)) old new bytes is consumed ended = tt
is_read (Some (Ok all)) old new bytes is consumed ended =
    by new (subst (λ known. Consumes known new bytes) is consumed) ended
  where
    by : (new : Option (List ℕ)) → Consumes (Some (all ++ [])) new bytes → IsAtEnd new ⊎ (most_text < length bytes)
        → IsReadOf (Some (Ok all)) bytes
    by None consumed ended = absurd consumed
    by (Some more) consumed ended = (more, sym (append-nil all) ∙ consumed, ended)

-- a look at a file found a fault
pub looked_bad : (A : Type 0) (known : Known) (fault : FileFault) → Looks {A = A} known (Err fault)
    → MayFault known fault
looked_bad A None fault looks = tt
looked_bad A (Some (Ok bytes)) fault looks = cc
looked_bad A (Some (Err other)) fault looks = cc

module _ (known : Text → Known) (profiles names : List Text) (name : Text) (fault : FileFault) where
  -- the first is a profile
  pub profile_is_bad : FirstFault known profiles name fault → FirstFault known (profiles ++ names) name fault
  profile_is_bad first = record {
    before = first.before;
    after = first.after ++ names;
    whole = ap (λ all. all ++ names) first.whole ∙ append_assoc first.before (name ∷ first.after) names;
    fine = first.fine;
    bad = first.bad;
  }

  -- it is a file, and each profile may be fine
  pub file_is_bad : All (λ other. MayBeFine (known other)) profiles → FirstFault known names name fault
      → FirstFault known (profiles ++ names) name fault
  file_is_bad fine first = record {
    before = profiles ++ first.before;
    after = first.after;
    whole = ap (λ all. profiles ++ all) first.whole ∙ sym (append_assoc profiles first.before (name ∷ first.after));
    fine = All-append (λ other. MayBeFine (known other)) profiles first.before fine first.fine;
    bad = first.bad;
  }

-- each profile may be fine, and the files were looked at
pub looked_at_all : {A N : Type 0} (text : N → Text) (known : Text → Known) (profiles names : List Text)
    (result : Result A (N × FileFault)) → All (λ name. MayBeFine (known name)) profiles
    → MatchResult result (λ _. All (λ name. MayBeFine (known name)) names)
    (λ found. FirstFault known names (text found.0) found.1)
    → MatchResult result (λ _. All (λ name. MayBeFine (known name)) (profiles ++ names))
    (λ found. FirstFault known (profiles ++ names) (text found.0) found.1)
looked_at_all text known profiles names (Ok done) fine looked =
    All-append (λ name. MayBeFine (known name)) profiles names fine looked
looked_at_all text known profiles names (Err found) fine looked =
    file_is_bad known profiles names (text found.0) found.1 fine looked
