-- What a reader and a writer tell of what was done with them. Each count stays at the greatest u64.
use Rattle.std.specs.Prelude.{ℕ, Bool, Option, List}

pub record ReaderTold : Type 0 where
  -- the bytes that it has left, where it tells them
  pub left : Option (List ℕ)
  -- how many bytes its reads gave, and how many reads neither failed nor were the end
  pub given : ℕ
  pub reads : ℕ
  -- how many reads failed
  pub failures : ℕ
  -- whether it has ended: a read into a buffer with room gave 0 bytes
  pub ended : Bool

pub record WriterTold : Type 0 where
  -- the bytes that it holds, where it tells them
  pub held : Option (List ℕ)
  -- how many writes failed
  pub failures : ℕ

-- what both tell at one time
pub record Told : Type 0 where
  pub reader : ReaderTold
  pub writer : WriterTold

abbrev pub told_by : {R W : Type 0} → (R → ReaderTold) → (W → WriterTold) → R × W → Told
told_by reader_told writer_told both = record { reader = reader_told both.0; writer = writer_told both.1 }
