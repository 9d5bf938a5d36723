-- A run that reads nothing: for `describe_bus`, whose job needs no input. It fails in no read and
-- makes none, so that its end is that of the writes.
use Rattle.std.proofs.Common.{◌≡◌, ◌≢◌, Result, Err, IfOk, List, ℕ, inl, inr, refl}
use Rattle.pmb_io.specs.Count.{raised}
use Rattle.pmb_io.specs.Runs.{Done, Job, Ran}
use Rattle.pmb_io.specs.Told.{ReaderTold, WriterTold}
use Rattle.pmb_io.specs.declared.fault.RunFault.{RunFault}
use Rattle.pmb_io.specs.declared.fault.RunFault.TheVariants.{Read, Write, TooManyReads}
use Rattle.pmb_cli.proofs.Often.{no_reads}

module _ {R W A : Type 0} (reader_told : R → ReaderTold) (writer_told : W → WriterTold) (job : Job A) (first : List ℕ)
    (reader : R) (out out_new : W) (result : Result A RunFault) where
  pub ran_unread : IfOk result (λ answer. Done reader_told writer_told job answer first (reader, out) (reader, out_new))
      → result ≢ Err Read → result ≢ Err TooManyReads
      → (result ≡ Err Write → (writer_told out_new).failures ≡ raised (writer_told out).failures 1)
      → (result ≢ Err Write → (writer_told out_new).failures ≡ (writer_told out).failures)
      → Ran reader_told writer_told job first (reader, out) (reader, out_new) result
  ran_unread done no_read few write no_write = record {
    ok = done;
    read = λ is. absurd (no_read is);
    no_read = λ _. refl;
    write = write;
    no_write = no_write;
    reads = no_reads _;
    too_many = λ is. absurd (few is);
    not_ended = λ is. absurd (few is);
    read_not_ended = λ is. absurd (no_read is);
    before = λ either. elim either [
      | inl is ↦ absurd (no_read is)
      | inr is ↦ absurd (few is)
    ];
    many = λ is. absurd (few is);
  }
