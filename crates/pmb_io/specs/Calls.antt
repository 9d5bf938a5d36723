-- What calls of a reader and a writer tell of them.
use Rattle.std.specs.Prelude.{◌≡◌, ℕ, ◌==◌, ◌||◌, ◌&&◌, if◌then◌else◌, min, nat_lt, Bool, Option, Result, Ok, Err, List}
use Rattle.std.specs.Prelude.{◌++◌, length, ◌⊎◌}
use Rattle.std.specs.Io.KnownBytes.{Appends}
use Rattle.pmb_io.specs.Count.{raised}
use Rattle.pmb_io.specs.declared.fault.IoFault.{IoFault}
use Rattle.pmb_io.specs.Told.{ReaderTold, WriterTold}
use Rattle.pmb_io.specs.declared.fault.RunFault.{RunFault}
use Rattle.pmb_io.specs.declared.fault.RunFault.TheVariants.{Read, Write}
use Rattle.pmb_io.specs.declared.io.Io.{Io}

-- a call that fails is counted, and no other
abbrev pub CountsFailure : {A : Type 0} → ℕ → ℕ → Result A IoFault → Type 0
CountsFailure old new (Ok x) = new ≡ old
CountsFailure old new (Err fault) = new ≡ raised old 1

-- A read of 0 bytes is the end, unless the buffer had no room and the reader had not ended before.
abbrev pub is_end : Bool → ℕ → List ℕ → Bool
is_end ended n buffer = n == 0 && (ended || nat_lt 0 (length buffer))

-- A read that doesn't fail counts as one, also where it gave nothing, unless it is the end.
abbrev pub CountsRead : {F : Type 0} → ReaderTold → ReaderTold → Result ℕ F → List ℕ → Type 0
CountsRead old new (Ok n) buffer = new.reads ≡ (if is_end old.ended n buffer then old.reads else raised old.reads 1)
CountsRead old new (Err fault) buffer = new.reads ≡ old.reads

-- So a read into a buffer with room counts where it gave bytes.
abbrev pub CountsPiece : {F : Type 0} → ReaderTold → ReaderTold → Result ℕ F → Type 0
CountsPiece old new (Ok n) = new.reads ≡ raised old.reads (min n 1)
CountsPiece old new (Err fault) = new.reads ≡ old.reads

-- Its bytes count too.
abbrev pub CountsBytes : {F : Type 0} → ℕ → ℕ → Result ℕ F → Type 0
CountsBytes old new (Ok n) = new ≡ raised old n
CountsBytes old new (Err fault) = new ≡ old

-- a reader has ended from the first read that gave 0 bytes into a buffer with room
abbrev pub TellsEnd : {F : Type 0} → Bool → Bool → Result ℕ F → List ℕ → Type 0
TellsEnd old new (Ok n) buffer = new ≡ (old || (n == 0 && nat_lt 0 (length buffer)))
TellsEnd old new (Err fault) buffer = new ≡ old

-- of these bytes a front was written
pub record AppendsFront (held_old held_new : Option (List ℕ)) (bytes : List ℕ) : Type 0 where
  pub sent : List ℕ
  pub rest : List ℕ
  pub whole : bytes ≡ sent ++ rest
  pub appended : Appends held_old held_new sent

-- A call of ours that writes: the writer failed exactly where it returns `Write`, its only fault.
abbrev pub WriterTells : {A : Type 0} → WriterTold → WriterTold → Result A RunFault → Type 0
WriterTells old new (Ok x) = new.failures ≡ old.failures
WriterTells old new (Err fault) = (fault ≡ Write) × (new.failures ≡ raised old.failures 1)

-- A call of ours that reads: the reader failed exactly where it returns `Read`, its only fault.
abbrev pub ReaderTells : {A : Type 0} → ReaderTold → ReaderTold → Result A RunFault → Type 0
ReaderTells old new (Ok x) = new.failures ≡ old.failures
ReaderTells old new (Err fault) = (fault ≡ Read) × (new.failures ≡ raised old.failures 1)

-- what an `Io` has inside, and what it has counted so far
abbrev pub io_inner : {T : Type 0} → Io T → T
io_inner io = io.inner

abbrev pub io_failures : {T : Type 0} → Io T → ℕ
io_failures io = io.failures

abbrev pub io_reads : {T : Type 0} → Io T → ℕ
io_reads io = io.reads

abbrev pub io_given : {T : Type 0} → Io T → ℕ
io_given io = io.given

abbrev pub io_ended : {T : Type 0} → Io T → Bool
io_ended io = io.ended

abbrev pub io_idle : {T : Type 0} → Io T → ℕ
io_idle io = io.idle

-- A call of an `Io` that writes all of some bytes has the writer take none of them once at most, and then it fails.
abbrev pub IsIdleOnce : {A : Type 0} → ℕ → ℕ → Result A IoFault → Type 0
IsIdleOnce old new (Ok x) = new ≡ old
IsIdleOnce old new (Err fault) = (new ≡ old) ⊎ (new ≡ raised old 1)
