-- Why a file was not announced.
use Rattle.std.specs.Prelude.{◌≡◌}
use Rattle.pmb_io.specs.Count.{raised}
use Rattle.pmb_io.specs.Told.{WriterTold}
use Rattle.pmb_io.specs.declared.fault.ToolFault.{ToolFault}
use Rattle.pmb_io.specs.declared.fault.ToolFault.TheVariants.{Read, Write, TooManyReads, ProfileTooLong, Memory}

-- the writer failed, or there was no memory for the line
abbrev pub Unannounced : {W : Type 0} → (W → WriterTold) → W → W → ToolFault → Type 0
Unannounced told old new Write = (told new).failures ≡ raised (told old).failures 1
Unannounced told old new Memory = new ≡ old
Unannounced told old new Read = ⊥
Unannounced told old new TooManyReads = ⊥
Unannounced told old new ProfileTooLong = ⊥
