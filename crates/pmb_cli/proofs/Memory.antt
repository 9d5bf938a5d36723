-- What was read where there was no memory: nothing, or the profile that comes first and nothing
-- after it. For `tool` and `run_under_front`. Only the fault Memory has the status NoMemory.
use Rattle.std.proofs.Common.{◌≡◌, true, inl, inr, refl, sym, subst}
use Rattle.pmb_preamble.specs.Front.{Parts, ReadFront}
use Rattle.pmb_io.specs.Told.{ReaderTold}
use Rattle.pmb_io.specs.declared.fault.ToolFault.{ToolFault}
use Rattle.pmb_io.specs.declared.fault.ToolFault.TheVariants.{Read, Write, TooManyReads, ProfileTooLong, Memory}
use Rattle.pmb_args.specs.ExitStatus.{status_of}
use Rattle.pmb_args.specs.declared.exit_status.ExitStatus.TheVariants.{BadArguments, IoFailed, NoMemory}
use Rattle.pmb_args.specs.Asked.{Asking, Convert, Import, Scan, UnderProfile}
use Rattle.pmb_args.specs.declared.profile_place.ProfilePlace.TheVariants.{Sample, Front}
use Rattle.pmb_cli.specs.Memory.{ReadNoRest, ReadWithoutMemory}

-- a fault of status NoMemory is that of memory
pub is_memory : (fault : ToolFault) → status_of fault ≡ NoMemory → fault ≡ Memory
is_memory Read none = let clash : IoFailed ≡ NoMemory = none in cc
is_memory Write none = let clash : IoFailed ≡ NoMemory = none in cc
is_memory TooManyReads none = let clash : IoFailed ≡ NoMemory = none in cc
is_memory ProfileTooLong none = let clash : BadArguments ≡ NoMemory = none in cc
is_memory Memory none = refl

module _ {R : Type 0} (told : R → ReaderTold) where
  -- where nothing was read
  pub unread : (asking : Asking) (old new : R) → new ≡ old → ReadWithoutMemory told asking old new
  unread (UnderProfile Sample wanted) old new same = same
  unread (UnderProfile Front wanted) old new same = inl same
  unread (Convert direction format) old new same = same
  unread (Import recorded) old new same = same
  unread Scan old new same = tt

  -- where the front was read, and nothing after it
  pub front_alone : (old mid new : R) (parts : Parts) → ReadFront told old mid parts
      → (parts.marked ≡ true → (told mid).ended ≡ (told old).ended) → new ≡ mid → ReadNoRest told old new
  front_alone old mid new parts front not_ended same = subst (λ (r : R). ReadNoRest told old r) (sym same)
      (inr (record { parts = parts; front = front; not_ended = not_ended }))
