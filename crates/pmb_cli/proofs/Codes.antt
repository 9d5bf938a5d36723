-- The number of an exit status is 4 at most, so that `tool` returns a code that a process can end
-- with. Each status is looked at.
use Rattle.std.proofs.Common.{◌≡◌, ◌≤◌, ℕ, sym, subst, arith}
use Rattle.pmb_args.specs.ExitStatus.{code_of}
use Rattle.pmb_args.specs.declared.exit_status.ExitStatus.{ExitStatus}
use Rattle.pmb_args.specs.declared.exit_status.ExitStatus.TheVariants.{Done, Refusals, BadArguments, IoFailed, NoMemory}

-- it is 4 at most
within : (status : ExitStatus) → code_of status ≤ 4
within Done = omega arith
within Refusals = omega arith
within BadArguments = omega arith
within IoFailed = omega arith
within NoMemory = omega arith

pub code_within : {code : ℕ} (status : ExitStatus) → code ≡ code_of status → code ≤ 4
code_within status is = subst (λ (n : ℕ). n ≤ 4) (sym is) (within status)
