-- What a writer tells that was told nothing, and the end of a run. For `run_painted` and `run_on`.
use Rattle.std.proofs.Common.{◌≡◌, ◌∙◌, ℕ, Option, Some, Result, Ok, Err, List, ap, subst}
use Rattle.pmb_io.specs.Calls.{CountsFailure}
use Rattle.pmb_io.specs.Count.{raised}
use Rattle.pmb_io.specs.Told.{WriterTold}
use Rattle.pmb_io.specs.declared.fault.IoFault.{IoFault}
use Rattle.pmb_args.specs.declared.exit_status.ExitStatus.{ExitStatus}
use Rattle.pmb_colour.specs.declared.lines.Lines.{Lines}
use Rattle.pmb_files.specs.Known.{Known}
use Rattle.pmb_files.specs.Painted.{WentOn}
use Rattle.pmb_files.specs.Words.{Text}

abbrev pub tells : List ℕ → ℕ → WriterTold
tells text failures = record { held = Some text; failures = failures }

-- writers of the same text and count tell the same
pub tells_same : (a b : List ℕ) (m n : ℕ) → a ≡ b → m ≡ n → tells a m ≡ tells b n
tells_same a b m n text failures = ap (λ (t : List ℕ). tells t m) text ∙ ap (λ (f : ℕ). tells b f) failures

-- how many writes have failed, after a call that went well, and after one that failed
pub counts_well : {A : Type 0} (old new : ℕ) (outcome : Result A IoFault) (x : A) → outcome ≡ Ok x
    → CountsFailure old new outcome → new ≡ old
counts_well old new outcome x is counts = subst (CountsFailure old new) is counts

pub counts_failure : {A : Type 0} (old new : ℕ) (outcome : Result A IoFault) (fault : IoFault) → outcome ≡ Err fault
    → CountsFailure old new outcome → new ≡ raised old 1
counts_failure old new outcome fault is counts = subst (CountsFailure old new) is counts

-- a run over a writer is one over the same writer
pub went_on_from : {F O P W E : Type 0} (known : F → Text → Known) (left : O → Option (List ℕ))
    (painted_told : P → WriterTold) (out_told : W → WriterTold) (err_told : E → WriterTold) (sample : List ℕ) (files : F)
    (words : List Text) (lines : Option Lines) (before : Option (List ℕ)) (a b : W) (err : E) (new : W × E)
    (status : ExitStatus) → a ≡ b
    → WentOn known left painted_told out_told err_told sample files words lines before (a, err) new status
    → WentOn known left painted_told out_told err_told sample files words lines before (b, err) new status
went_on_from known left painted_told out_told err_told sample files words lines before a b err new status same =
    subst (λ w. WentOn known left painted_told out_told err_told sample files words lines before (w, err) new status) same
