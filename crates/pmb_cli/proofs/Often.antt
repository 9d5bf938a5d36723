-- How often is read in all: the reads of the profile that comes first, at most most_profile + 4,
-- and then those of the work. For `tool`, `run_lines`, `run_under_front`, `run_under_sample` and
-- `do_work`.
use Rattle.std.proofs.Common.{◌≡◌, ◌∙◌, ap, ℕ, ◌+◌, ◌≤◌, sym, arith}
use Rattle.pmb_preamble.specs.Front.{most_profile}
use Rattle.pmb_io.specs.Count.{raised}
use Rattle.pmb_io.specs.Runs.{MadeReads}
use Rattle.pmb_io.proofs.Running.{raised_by_none, raised_twice}
use Rattle.pmb_cli.specs.Often.{MadeReadsInAll}

-- no read
pub no_reads : (old : ℕ) → MadeReads old old
no_reads old = (0, omega arith, sym (raised_by_none old))

pub none_in_all : (old : ℕ) → MadeReadsInAll old old
none_in_all old = (0, omega arith, sym (raised_by_none old))

-- those of the front alone
pub reads_of_front : (old new : ℕ) → ((count : ℕ) × (count ≤ most_profile + 4) × (new ≡ raised old count))
    → MadeReadsInAll old new
reads_of_front old new reads = (reads.0, omega (arith, reads.1), reads.2)

-- those of the work alone
pub reads_of_work : (old new : ℕ) → MadeReads old new → MadeReadsInAll old new
reads_of_work old new reads = (reads.0, omega (arith, reads.1), reads.2)

-- those of the work after those of the front
pub reads_after : (old mid new : ℕ) → ((count : ℕ) × (count ≤ most_profile + 4) × (mid ≡ raised old count))
    → MadeReads mid new → MadeReadsInAll old new
reads_after old mid new front work = (
  front.0 + work.0,
  omega (arith, front.1, work.1),
  work.2 ∙ (ap (λ n. raised n work.0) front.2 ∙ raised_twice old front.0 work.0),
)
