-- Exit statuses and their codes. For `run_each` and `run_files`.
use Rattle.std.proofs.Common.{◌≡◌, ℕ, Option, List, ◌∷◌, ◌++◌, Bool, true, false, max, refl, arith, if◌then◌else◌}
use Rattle.std.specs.Prelude.{nat_le}
use Rattle.std.proofs.lemmas.Bool.Decides.{nat_tests}
use Rattle.pmb_args.specs.ExitStatus.{code_of, status_of}
use Rattle.pmb_args.specs.declared.exit_status.ExitStatus.{ExitStatus}
use Rattle.pmb_args.specs.declared.exit_status.ExitStatus.TheVariants.{Done, Refusals, BadArguments, IoFailed, NoMemory}
use Rattle.pmb_io.specs.Told.{WriterTold}
use Rattle.pmb_io.specs.declared.fault.ToolFault.{ToolFault}
use Rattle.pmb_io.specs.declared.fault.ToolFault.TheVariants as fault
use Rattle.pmb_args.specs.ExitStatus.{IsTold}
use Rattle.pmb_files.specs.Each as each
use Rattle.pmb_files.specs.Each.{RanAll, RanEach, greatest}
use Rattle.pmb_files.specs.Known.{Known}
use Rattle.pmb_files.specs.Words.{Text}
use Rattle.pmb_files.specs.declared.heading.Heading.{Heading}
use Rattle.pmb_files.specs.machine.Unannounced.{Unannounced}

-- the greatest status has the greatest code
pub greatest_code : (a b : ExitStatus) → max (code_of a) (code_of b) ≡ code_of (greatest a b)
greatest_code a b = by (nat_le (code_of a) (code_of b)) refl
  where
    by : (test : Bool) → nat_le (code_of a) (code_of b) ≡ test
        → max (code_of a) (code_of b) ≡ code_of (if test then b else a)
    by true is = grind (arith, nat_tests)
    by false is = grind (arith, nat_tests)

-- that of want of memory
pub memory_is_greatest : (status : ExitStatus) → greatest status NoMemory ≡ NoMemory
memory_is_greatest Done = refl
memory_is_greatest Refusals = refl
memory_is_greatest BadArguments = refl
memory_is_greatest IoFailed = refl
memory_is_greatest NoMemory = refl

-- A run over files ends where one is not announced.
pub ends_unannounced : {F O W E : Type 0} (known : F → Text → Known) (left : O → Option (List ℕ))
    (out_told : W → WriterTold) (err_told : E → WriterTold) (sample : List ℕ) (files : F) (words : List Text)
    (heading : Heading) (head : List ℕ) (names before : List Text) (name : Text) (after : List Text)
    (old middle new : W × E) (so_far : ExitStatus) (why : ToolFault) → names ≡ before ++ name ∷ after
    → RanAll known left out_told err_told sample files words heading head old before middle so_far
    → Unannounced out_told middle.0 new.0 why → IsTold (err_told middle.1) (err_told new.1)
    → RanEach known left out_told err_told sample files words heading head names old new
    (greatest so_far (status_of why))
ends_unannounced known left out_told err_told sample files words heading head names before name after old middle new
    so_far fault.Write whole ran failed told = each.unannounced before name after whole middle so_far ran failed told refl
ends_unannounced known left out_told err_told sample files words heading head names before name after old middle new
    so_far fault.Memory whole ran same told =
    each.no_memory before name after whole middle so_far ran same told (memory_is_greatest so_far)
ends_unannounced known left out_told err_told sample files words heading head names before name after old middle new
    so_far fault.Read whole ran not told = absurd not
ends_unannounced known left out_told err_told sample files words heading head names before name after old middle new
    so_far fault.TooManyReads whole ran not told = absurd not
ends_unannounced known left out_told err_told sample files words heading head names before name after old middle new
    so_far fault.ProfileTooLong whole ran not told = absurd not
