-- The profile that a job is done under, and what follows it: the sample, or the one that comes first in the input.
use Rattle.std.specs.Prelude.{◌≡◌, ◌≤◌, ◌⊎◌, ℕ, Ok, Err, List, length}
use Rattle.std.specs.Io.KnownBytes.{Appends, Consumes}
use Rattle.pmb_io.specs.Count.{raised}
use Rattle.pmb_io.specs.Told.{ReaderTold, Told}
use Rattle.pmb_table.specs.Profile.{ProfileParts, SaysBus}
use Rattle.pmb_table.specs.declared.fault.ProfileFault.{ProfileFault}
use Rattle.pmb_preamble.specs.Front.{FirstMark, IsFront, Parts, ReadFront, ReadTooMuch, Undecided, most_profile}

-- This holds of the sample profile, as it is read.
pub record UnderSample (Holds : ProfileParts → Type 0) (sample : List ℕ) : Type 0 where
  pub bus : ProfileParts
  pub says : SaysBus sample (Ok bus)
  pub holds : Holds bus

-- What was read is a text that begins with a profile within the limit.
pub record BeginsWithProfile (IsCut : List ℕ → List ℕ → List ℕ → Type 0) (old new : Told) : Type 0 where
  pub read : List ℕ
  pub text : List ℕ
  pub profile : List ℕ
  pub rest : List ℕ
  pub bus : ProfileParts
  pub consumed : Consumes old.reader.left new.reader.left read
  pub given : new.reader.given ≡ raised old.reader.given (length read)
  pub appended : Appends old.writer.held new.writer.held text
  pub cut : IsCut read profile rest
  pub within : length profile ≤ most_profile
  pub says : SaysBus profile (Ok bus)

-- What was read is a profile within the limit, and what follows its line `%%`, if it has one; this
-- holds of what the profile says, of what follows, of the text that was written, and of all that was
-- read.
pub record UnderFront (Holds : ProfileParts → List ℕ → List ℕ → List ℕ → Type 0) (old new : Told) : Type 0 where
  pub begins : BeginsWithProfile IsFront old new
  pub holds : Holds begins.bus begins.rest begins.text begins.read

-- What was read is the front of an input, and what it says as a profile has this fault.
pub record HasFault {R : Type 0} (told : R → ReaderTold) (old new : R) : Type 0 where
  pub parts : Parts
  pub fault : ProfileFault
  pub reads : ReadFront told old new parts
  pub says : SaysBus parts.profile (Err fault)

-- the profile is too long, or has a fault
abbrev pub HasBadProfile : {R : Type 0} → (R → ReaderTold) → R → R → Type 0
HasBadProfile told old new = ReadTooMuch told old new ⊎ HasFault told old new

-- ---- where a read failed, or there were too many

-- What was read decided nothing of the profile, and nothing was written.
pub record ReadPart (old new : Told) : Type 0 where
  pub read : List ℕ
  pub consumed : Consumes old.reader.left new.reader.left read
  pub given : new.reader.given ≡ raised old.reader.given (length read)
  pub unwritten : new.writer.held ≡ old.writer.held
  pub undecided : Undecided read

-- What was read is a profile within the limit and its line `%%`, and a part of what follows it;
-- this holds of what the profile says, of that part, and of the text that was written.
pub record ReadPartOfRest (Holds : ProfileParts → List ℕ → List ℕ → Type 0) (old new : Told) : Type 0 where
  pub begins : BeginsWithProfile FirstMark old new
  pub holds : Holds begins.bus begins.rest begins.text

abbrev pub PartUnderFront : (ProfileParts → List ℕ → List ℕ → Type 0) → Told → Told → Type 0
PartUnderFront Holds old new = ReadPart old new ⊎ ReadPartOfRest Holds old new
