-- What the status of `scan` says of its outcome: for `run_scan`. It is that of its run, or nothing was written.
use Rattle.std.proofs.Common.{◌≡◌, ◌⊎◌, Result, Ok, Err, [], inl, inr, sym, subst}
use Rattle.pmb_args.specs.declared.exit_status.ExitStatus.{ExitStatus}
use Rattle.pmb_args.specs.declared.exit_status.ExitStatus.TheVariants.{BadArguments, NoMemory}
use Rattle.pmb_cli.specs.Drafts.{draft_status}
use Rattle.pmb_cli.specs.Statuses.{Does, StatusTells}
use Rattle.pmb_cli.proofs.Often.{reads_after}
use Rattle.pmb_cli.proofs.Statuses.{at_start, does_none, refused_tells, run_did, status_tells}
use Rattle.pmb_draft.specs.Draft.{drafting}
use Rattle.pmb_draft.specs.Result.{Drafts, WroteNothing}
use Rattle.pmb_draft.specs.declared.fault.DraftFault.{DraftFault}
use Rattle.pmb_draft.specs.declared.fault.DraftFault.TheVariants.{Tool, TooLong, Refused}
use Rattle.pmb_io.specs.Runs.{Done, PartDone}
use Rattle.pmb_io.specs.Told.{ReaderTold, WriterTold}
use Rattle.pmb_io.specs.declared.fault.ToolFault.TheVariants.{Read, Write, TooManyReads, ProfileTooLong, Memory}
use Rattle.pmb_io.specs.declared.tally.Tally.{Tally}

module _ {R W : Type 0} (reader_told : R → ReaderTold) (writer_told : W → WriterTold) (reader reader_new : R)
    (out out_new : W) where
  Did : ExitStatus → Type 0
  Did status = Does (λ tally. Done reader_told writer_told drafting tally [] (reader, out) (reader_new, out_new))
      (PartDone reader_told writer_told drafting [] (reader, out) (reader_new, out_new)) (writer_told out)
      (writer_told out_new) status

  Tells : ExitStatus → Type 0
  Tells status = StatusTells reader_told writer_told (reader, out) (reader_new, out_new) status

  -- nothing was written
  nothing : (status : ExitStatus) → (status ≡ BadArguments) ⊎ (status ≡ NoMemory)
      → WroteNothing reader_told writer_told (reader, out) (reader_new, out_new) → Did status × Tells status
  unfolding Did Tells
  nothing status refused wrote = (
    does_none _ _ _ _ status refused,
    subst (λ (w : W). StatusTells reader_told writer_told (reader, out) (reader_new, w) status) (sym wrote.unwritten)
        (refused_tells reader_told writer_told reader reader_new out status refused wrote.none_failed
        (reads_after _ _ _ (at_start (reader_told reader)).few wrote.reads)),
  )

  -- a run
  ran : (result : Result Tally DraftFault) (status : ExitStatus) → status ≡ draft_status result
      → Drafts reader_told writer_told [] (reader, out) (reader_new, out_new) result → Did status × Tells status
  unfolding Did Tells
  ran (Ok tally) status is drafts = (
    run_did reader_told writer_told drafting [] (reader, out) (reader_new, out_new) (Ok tally) status is drafts,
    status_tells reader_told writer_told drafting [] (reader, out) (reader_new, out_new) reader
        (at_start (reader_told reader)) (Ok tally) status is drafts,
  )
  ran (Err (Tool Read)) status is drafts = (
    run_did reader_told writer_told drafting [] (reader, out) (reader_new, out_new) (Err Read) status is drafts,
    status_tells reader_told writer_told drafting [] (reader, out) (reader_new, out_new) reader
        (at_start (reader_told reader)) (Err Read) status is drafts,
  )
  ran (Err (Tool Write)) status is drafts = (
    run_did reader_told writer_told drafting [] (reader, out) (reader_new, out_new) (Err Write) status is drafts,
    status_tells reader_told writer_told drafting [] (reader, out) (reader_new, out_new) reader
        (at_start (reader_told reader)) (Err Write) status is drafts,
  )
  ran (Err (Tool TooManyReads)) status is drafts = (
    run_did reader_told writer_told drafting [] (reader, out) (reader_new, out_new) (Err TooManyReads) status is drafts,
    status_tells reader_told writer_told drafting [] (reader, out) (reader_new, out_new) reader
        (at_start (reader_told reader)) (Err TooManyReads) status is drafts,
  )
  ran (Err (Tool ProfileTooLong)) status is drafts = absurd drafts
  ran (Err (Tool Memory)) status is drafts = nothing status (inr is) drafts
  ran (Err TooLong) status is drafts = nothing status (inl is) drafts
  ran (Err Refused) status is drafts = nothing status (inl is) drafts

  pub did_draft : (result : Result Tally DraftFault) (status : ExitStatus) → status ≡ draft_status result
      → Drafts reader_told writer_told [] (reader, out) (reader_new, out_new) result
      → Does (λ tally. Done reader_told writer_told drafting tally [] (reader, out) (reader_new, out_new))
      (PartDone reader_told writer_told drafting [] (reader, out) (reader_new, out_new)) (writer_told out)
      (writer_told out_new) status
  unfolding Did ran
  did_draft result status is drafts = (ran result status is drafts).0

  pub tells_draft : (result : Result Tally DraftFault) (status : ExitStatus) → status ≡ draft_status result
      → Drafts reader_told writer_told [] (reader, out) (reader_new, out_new) result
      → StatusTells reader_told writer_told (reader, out) (reader_new, out_new) status
  unfolding Tells ran
  tells_draft result status is drafts = (ran result status is drafts).1
