-- Where the profile at the front of a capture ends: at the first line `%%`.
use Rattle.std.specs.Prelude.{◌≡◌, ℕ, ◌+◌, ◌<◌, ◌≤◌, ◌⊎◌, Bool, true, false, List, [], ◌++◌, length, codes}
use Rattle.std.specs.Io.KnownBytes.{IsAtEnd}
use Rattle.pmb_io.specs.Count.{raised}
use Rattle.pmb_io.specs.Runs.{Gave, OpenBefore}
use Rattle.pmb_io.specs.Told.{ReaderTold}

-- how many bytes a profile may have
abbrev pub most_profile : ℕ
most_profile = 1048576

-- What was read, without the line between: the profile, what follows the line, and whether there is such a line.
pub record Parts : Type 0 where
  pub profile : List ℕ
  pub rest : List ℕ
  pub marked : Bool

-- ---- the first line `%%` of a text

-- a line `%%` with its end, LF or CR LF
abbrev pub IsMark : List ℕ → Type 0
IsMark line = (line ≡ codes "%%\n") ⊎ (line ≡ codes "%%\r\n")

-- a line starts after these bytes: there are none, or they end in LF
abbrev pub StartsLine : List ℕ → Type 0
StartsLine before = (before ≡ []) ⊎ ((lines : List ℕ) × (before ≡ lines ++ codes "\n"))

-- a text has a line `%%`, with these bytes before and after it
pub record HasMark (text before line after : List ℕ) : Type 0 where
  pub whole : text ≡ before ++ (line ++ after)
  pub starts : StartsLine before
  pub is_mark : IsMark line

abbrev pub NoMark : List ℕ → Type 0
NoMark text = (before line after : List ℕ) → HasMark text before line after → ⊥

-- the first line `%%`: none is before it
pub record FirstMark (text before after : List ℕ) : Type 0 where
  pub line : List ℕ
  pub mark : HasMark text before line after
  pub none_before : NoMark before

-- without such a line all is profile
pub record AllProfile (text profile rest : List ℕ) : Type 0 where
  pub none : NoMark text
  pub all : profile ≡ text
  pub nothing : rest ≡ []

-- the profile of a text, and what is after it
abbrev pub IsFront : List ℕ → List ℕ → List ℕ → Type 0
IsFront text profile rest = FirstMark text profile rest ⊎ AllProfile text profile rest

-- ---- the limit

-- some continuation of a text has a profile within the limit
pub record MayFit (text : List ℕ) : Type 0 where
  pub more : List ℕ
  pub profile : List ℕ
  pub rest : List ℕ
  pub front : IsFront (text ++ more) profile rest
  pub within : length profile ≤ most_profile

-- a text ends in these bytes, with which a line starts within the limit
pub record EndsInLine (text tail : List ℕ) : Type 0 where
  pub before : List ℕ
  pub whole : text ≡ before ++ tail
  pub starts : StartsLine before
  pub within : length before ≤ most_profile

-- in a line `%%` whose LF is still to come
abbrev pub EndsInOpening : List ℕ → Type 0
EndsInOpening text = EndsInLine text (codes "%") ⊎ (EndsInLine text (codes "%%") ⊎ EndsInLine text (codes "%%\r"))

-- nothing is decided: there is no line `%%`, and the profile may be within the limit
pub record Undecided (text : List ℕ) : Type 0 where
  pub none : NoMark text
  pub may_fit : MayFit text

-- ---- what `front` read

-- these bytes were read, if any, and nothing was decided before the last of them, which one read gave
pub record Reads {R : Type 0} (told : R → ReaderTold) (old new : R) (read : List ℕ) : Type 0 where
  pub gave : Gave (told old) (told new) read
  pub in_time : OpenBefore told Undecided [] old new read

-- the profile has ended at a line `%%`
pub record EndsAtMark (read : List ℕ) (front : Parts) : Type 0 where
  pub marked : front.marked ≡ true
  pub first : FirstMark read front.profile front.rest

-- it has ended with the reader
pub record EndsWithReader (read : List ℕ) (front : Parts) (new : ReaderTold) : Type 0 where
  pub unmarked : front.marked ≡ false
  pub all : AllProfile read front.profile front.rest
  pub ended : new.ended ≡ true
  pub at_end : IsAtEnd new.left

-- `Ok`
pub record ReadFront {R : Type 0} (told : R → ReaderTold) (old new : R) (front : Parts) : Type 0 where
  pub read : List ℕ
  pub reads : Reads told old new read
  pub ends : EndsAtMark read front ⊎ EndsWithReader read front (told new)
  pub within : length front.profile ≤ most_profile

-- the reader has ended, and all is profile, past the limit
pub record EndsPastLimit (read : List ℕ) (new : ReaderTold) : Type 0 where
  pub none : NoMark read
  pub long : most_profile < length read
  pub ended : new.ended ≡ true
  pub at_end : IsAtEnd new.left

-- `ProfileTooLong`
pub record ReadTooMuch {R : Type 0} (told : R → ReaderTold) (old new : R) : Type 0 where
  pub read : List ℕ
  pub reads : Reads told old new read
  pub too_long : (MayFit read → ⊥) ⊎ EndsPastLimit read (told new)

-- `Memory`: nothing was decided before the last piece
pub record ReadSome {R : Type 0} (told : R → ReaderTold) (old new : R) : Type 0 where
  pub read : List ℕ
  pub reads : Reads told old new read

-- `Read`: nothing was decided
pub record ReadUndecided {R : Type 0} (told : R → ReaderTold) (old new : R) : Type 0 where
  pub read : List ℕ
  pub gave : Gave (told old) (told new) read
  pub undecided : Undecided read

-- how many reads neither failed nor were the end: each gave a byte or more, and the last came
-- before the text could not fit
abbrev pub MadeFrontReads : ℕ → ℕ → Type 0
MadeFrontReads old new = (count : ℕ) × (count ≤ most_profile + 4) × (new ≡ raised old count)
