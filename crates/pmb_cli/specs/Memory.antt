-- What was read where there was no memory: nothing, or the front of the input alone.
use Rattle.std.specs.Prelude.{◌≡◌, ◌⊎◌, true}
use Rattle.pmb_preamble.specs.Front.{Parts, ReadFront, ReadSome}
use Rattle.pmb_io.specs.Told.{ReaderTold}
use Rattle.pmb_args.specs.Asked.{Asking, Convert, Import, Scan, UnderProfile}
use Rattle.pmb_args.specs.declared.profile_place.ProfilePlace.TheVariants.{Sample, Front}

module _ {R : Type 0} (told : R → ReaderTold) where
  -- The front was read, and nothing after it: a reader that gave a line `%%` was not read again.
  pub record ReadFrontAlone (old new : R) : Type 0 where
    pub parts : Parts
    pub front : ReadFront told old new parts
    pub not_ended : parts.marked ≡ true → (told new).ended ≡ (told old).ended

  -- the front, or the part of it for which there was memory
  abbrev pub ReadNoRest : R → R → Type 0
  ReadNoRest old new = ReadSome told old new ⊎ ReadFrontAlone old new

  -- By what was asked for. Where a profile comes first, memory may be lacking before anything is read.
  abbrev pub ReadWithoutMemory : Asking → R → R → Type 0
  ReadWithoutMemory (UnderProfile Sample wanted) old new = new ≡ old
  ReadWithoutMemory (UnderProfile Front wanted) old new = (new ≡ old) ⊎ ReadNoRest old new
  ReadWithoutMemory (Convert direction format) old new = new ≡ old
  ReadWithoutMemory (Import recorded) old new = new ≡ old
  -- (of a first profile memory may be lacking for the text, when the capture has been read)
  ReadWithoutMemory Scan old new = Unit {0}
