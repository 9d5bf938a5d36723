-- What writing the text of a `Draft` does.
use Rattle.std.specs.Prelude.{◌≡◌, ℕ, Result, Ok, Err, List}
use Rattle.std.specs.Io.KnownBytes.{Appends}
use Rattle.pmb_bus.specs.declared.event.Event.{Event}
use Rattle.pmb_io.specs.Count.{raised}
use Rattle.pmb_io.specs.Told.{WriterTold}
use Rattle.pmb_io.specs.declared.fault.ToolFault.TheVariants as tool
use Rattle.pmb_io.specs.declared.tally.Tally.{Tally}
use Rattle.pmb_draft.specs.Draft.{IsDraft, bad_count}
use Rattle.pmb_draft.specs.declared.draft.Draft.{Draft}
use Rattle.pmb_draft.specs.declared.fault.DraftFault.{DraftFault}
use Rattle.pmb_draft.specs.declared.fault.DraftFault.TheVariants.{Tool, TooLong, Refused}
use Rattle.pmb_draft.specs.machine.Seen.{HasSeen}

-- it was written: a first profile of whatever the draft has seen
pub record WroteText (draft : Draft) (old new : WriterTold) (tally : Tally) : Type 0 where
  pub text : List ℕ
  pub drafts : (events : List Event) → HasSeen draft.seen events → IsDraft events draft.bad text
  pub counts : tally.refusals ≡ bad_count draft.bad
  pub appended : Appends old.held new.held text
  pub none_failed : new.failures ≡ old.failures

-- or the writer failed, or there is no text and the writer was left alone
abbrev pub WritesText : {W : Type 0} → (W → WriterTold) → Draft → W → W → Result Tally DraftFault → Type 0
WritesText told draft old new (Ok tally) = WroteText draft (told old) (told new) tally
WritesText told draft old new (Err (Tool tool.Read)) = ⊥
WritesText told draft old new (Err (Tool tool.Write)) = (told new).failures ≡ raised (told old).failures 1
WritesText told draft old new (Err (Tool tool.TooManyReads)) = ⊥
WritesText told draft old new (Err (Tool tool.ProfileTooLong)) = ⊥
WritesText told draft old new (Err (Tool tool.Memory)) = new ≡ old
WritesText told draft old new (Err TooLong) = new ≡ old
WritesText told draft old new (Err Refused) = new ≡ old
