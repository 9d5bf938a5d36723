-- A run that read a capture and wrote nowhere, after which a first profile of it was written, is a run of `scan`.
-- For `write_draft`.
use Rattle.std.proofs.Common.{◌≡◌, ◌∙◌, ℕ, Option, Some, None, Result, Ok, Err, List, [], append-nil, ap, arith, inl, inr, refl, sym, subst}
use Rattle.std.specs.Io.KnownBytes.{Appends}
use Rattle.pmb_bus.specs.Text.{BeginsText}
use Rattle.pmb_bus.specs.declared.event.Event.{Event}
use Rattle.pmb_io.specs.Count.{raised}
use Rattle.pmb_io.specs.Engines.{engine_job}
use Rattle.pmb_io.specs.Runs.{PartDone, Ran, as_tool_fault}
use Rattle.pmb_io.specs.Told.{ReaderTold, WriterTold}
use Rattle.pmb_io.specs.declared.fault.RunFault.{RunFault}
use Rattle.pmb_io.specs.declared.fault.RunFault.TheVariants.{Read, Write, TooManyReads}
use Rattle.pmb_io.specs.declared.fault.ToolFault.{ToolFault}
use Rattle.pmb_io.specs.declared.fault.ToolFault.TheVariants as tool
use Rattle.pmb_io.specs.declared.tally.Tally.{Tally}
use Rattle.pmb_io.proofs.RunLemmas.{ran_into_write, ran_to_its_end}
use Rattle.pmb_io.proofs.Running.{raised_by_none}
use Rattle.pmb_draft.specs.Draft.{IsDraft, StopsDraft, WritesDraft, bad_count, drafting}
use Rattle.pmb_draft.specs.Result.{Drafts, IsTextFault, WroteNothing}
use Rattle.pmb_draft.specs.declared.draft.Draft.{Draft}
use Rattle.pmb_draft.specs.declared.fault.DraftFault.{DraftFault}
use Rattle.pmb_draft.specs.declared.fault.DraftFault.TheVariants.{Tool, TooLong, Refused}
use Rattle.pmb_draft.specs.machine.Draft.{Ended, Stopped, Taking}
use Rattle.pmb_draft.specs.machine.Seen.{HasSeen}
use Rattle.pmb_draft.specs.machine.Writing.{WritesText}
use Rattle.pmb_draft.proofs.Continuing.{done_then, through_then}

module _ (start now : Draft) (tally : Tally) (text : List ℕ)
    (drafts : (events : List Event) → HasSeen now.seen events → IsDraft events now.bad text)
    (counts : tally.refusals ≡ bad_count now.bad) where
  whole_of : (bytes others : List ℕ) → Ended start now bytes others → WritesDraft tally bytes text
  whole_of bytes others ended = record {
    events = ended.1.events;
    bad = now.bad;
    reads = ended.1.reads;
    draft = drafts ended.1.events ended.1.seen;
    counts = counts;
  }

  stops_of : (bytes others : List ℕ) → Stopped start now bytes others → StopsDraft tally bytes text
  stops_of bytes others stopped = record {
    events = stopped.1.events;
    at = stopped.1.at;
    reads = stopped.1.reads;
    draft = subst (λ (bad : Option ℕ). IsDraft stopped.1.events bad text) stopped.1.bad
        (drafts stopped.1.events stopped.1.seen);
    counts = counts ∙ ap bad_count stopped.1.bad;
  }

-- what may follow is open where a word may
open_of : (start : Draft) (bytes : List ℕ) → ((middle : Draft) × (text : List ℕ) × Taking start middle bytes text)
    → BeginsText bytes
open_of start bytes opened = opened.2.1.1.lexer.begins

-- where there is no text, the writer is left alone
pub alone : {W : Type 0} (told : W → WriterTold) (draft : Draft) (writer : W) (fault : DraftFault) → IsTextFault fault
    → WritesText told draft writer writer (Err fault)
alone told draft writer (Tool tool.Read) is = absurd is
alone told draft writer (Tool tool.Write) is = absurd is
alone told draft writer (Tool tool.TooManyReads) is = absurd is
alone told draft writer (Tool tool.ProfileTooLong) is = absurd is
alone told draft writer (Tool tool.Memory) is = refl
alone told draft writer TooLong is = refl
alone told draft writer Refused is = refl

-- a writer that was left alone
pub left_alone : (held : Option (List ℕ)) → Appends held held []
left_alone None = tt
left_alone (Some bytes) = sym (append-nil bytes)

-- and nothing was read either
pub no_memory : {R W : Type 0} (reader_told : R → ReaderTold) (writer_told : W → WriterTold) (reader : R) (out : W)
    → WroteNothing reader_told writer_told (reader, out) (reader, out)
no_memory reader_told writer_told reader out = record {
  unwritten = refl;
  none_failed = refl;
  reads = (0, omega arith, sym (raised_by_none (reader_told reader).reads));
}

module _ {R N W : Type 0} (reader_told : R → ReaderTold) (other_told : N → WriterTold) (writer_told : W → WriterTold)
    (start now : Draft) (first : List ℕ) (reader reader_new : R) (other other_new : N) (out : W) where
  -- what was read is written, or there is no text
  pub written : (out_new : W) (result : Result Tally DraftFault) → WritesText writer_told now out out_new result
      → Ran reader_told other_told (engine_job Taking Stopped Ended start now) first (reader, other)
      (reader_new, other_new) (Ok tt)
      → Drafts reader_told writer_told first (reader, out) (reader_new, out_new) result
  unfolding whole_of stops_of open_of
  written out_new (Ok tally) wrote ran =
      ran_to_its_end reader_told writer_told drafting first (reader, out) (reader_new, out_new) tally
      (ran.no_read (λ is. cc)) wrote.none_failed ran.reads
      (done_then reader_told other_told writer_told first wrote.text reader reader_new other other_new out out_new
      wrote.appended (engine_job Taking Stopped Ended start now) drafting tt tally
      (whole_of start now tally wrote.text wrote.drafts wrote.counts)
      (stops_of start now tally wrote.text wrote.drafts wrote.counts) (open_of start) ran.ok)
  written out_new (Err (Tool tool.Read)) wrote ran = absurd wrote
  written out_new (Err (Tool tool.Write)) failed ran =
      ran_into_write reader_told writer_told drafting first (reader, out) (reader_new, out_new)
      (ran.no_read (λ is. cc)) failed ran.reads
  written out_new (Err (Tool tool.TooManyReads)) wrote ran = absurd wrote
  written out_new (Err (Tool tool.ProfileTooLong)) wrote ran = absurd wrote
  written out_new (Err (Tool tool.Memory)) alone ran =
      record { unwritten = alone; none_failed = ran.no_read (λ is. cc); reads = ran.reads }
  written out_new (Err TooLong) alone ran =
      record { unwritten = alone; none_failed = ran.no_read (λ is. cc); reads = ran.reads }
  written out_new (Err Refused) alone ran =
      record { unwritten = alone; none_failed = ran.no_read (λ is. cc); reads = ran.reads }

  -- what was read before the capture could not be read
  part : PartDone reader_told other_told (engine_job Taking Stopped Ended start now) first (reader, other)
      (reader_new, other_new)
      → PartDone reader_told writer_told drafting first (reader, out) (reader_new, out)
  part = through_then reader_told other_told writer_told first [] reader reader_new other other_new out out
      (left_alone (writer_told out).held) (Taking start now) (λ bytes text. text ≡ []) (λ bytes others taking. refl)

  failed : (fault : RunFault) → (fault ≡ Write → ⊥)
      → Ran reader_told other_told (engine_job Taking Stopped Ended start now) first (reader, other)
      (reader_new, other_new) (Err fault)
      → Ran reader_told writer_told drafting first (reader, out) (reader_new, out) (Err fault)
  unfolding part through_then
  failed fault no_write ran = record {
    ok = tt;
    read = λ is. ran.read (cc);
    no_read = λ not. ran.no_read (λ is. not (cc));
    write = λ is. absurd (no_write (cc));
    no_write = λ _. refl;
    reads = ran.reads;
    too_many = λ is. ran.too_many (cc);
    not_ended = λ is. ran.not_ended (cc);
    read_not_ended = λ is. ran.read_not_ended (cc);
    before = λ before. part (ran.before (elim before [ inl is ↦ inl (cc) | inr is ↦ inr (cc) ]));
    many = λ is. let many = ran.many (cc) in (part many.0, many.1);
  }

  -- the capture could not be read
  pub unread : (fault : RunFault) (told : ToolFault) → told ≡ as_tool_fault fault
      → ((fault ≡ Write) → ⊥)
      → Ran reader_told other_told (engine_job Taking Stopped Ended start now) first (reader, other)
      (reader_new, other_new) (Err fault)
      → Drafts reader_told writer_told first (reader, out) (reader_new, out) (Err (Tool told))
  unfolding failed
  unread fault told is no_write ran =
      subst (λ (t : ToolFault). Drafts reader_told writer_told first (reader, out) (reader_new, out) (Err (Tool t)))
      (sym is) (of fault no_write ran)
    where
      of : (fault : RunFault) → ((fault ≡ Write) → ⊥)
          → Ran reader_told other_told (engine_job Taking Stopped Ended start now) first (reader, other)
          (reader_new, other_new) (Err fault)
          → Drafts reader_told writer_told first (reader, out) (reader_new, out) (Err (Tool (as_tool_fault fault)))
      of Read no_write ran = failed Read no_write ran
      of Write no_write ran = absurd (no_write refl)
      of TooManyReads no_write ran = failed TooManyReads no_write ran

  -- where the other place never failed
  pub never_failed : (fault : RunFault) → (other_told other_new).failures ≡ 0 → (other_told other).failures ≡ 0
      → Ran reader_told other_told (engine_job Taking Stopped Ended start now) first (reader, other)
      (reader_new, other_new) (Err fault) → fault ≡ Write → ⊥
  never_failed fault new old ran is =
      let clash : 0 ≡ raised 0 1 =
      sym new ∙ ran.write (ap (λ (f : RunFault). Err f) is) ∙ ap (λ (n : ℕ). raised n 1) old in
      absurd (omega (arith, clash))
