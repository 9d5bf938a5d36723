-- A reader of items behind a handle, and the names of reasons.
use Rattle.std.specs.Prelude.{◌≡◌, ◌<◌, ◌≤◌, ◌/◌, ℕ, ℤ, pos, negsuc, nat_lt, if◌then◌else◌, Option, Some, None, List}
use Rattle.std.specs.Prelude.{length, option_map}
use Rattle.pmb_capture_reader.specs.Reader.{reader_ready, reader_tally}
use Rattle.pmb_capture_reader.specs.Work.{Takes}
use Rattle.pmb_capture_reader.specs.declared.reader.CaptureReader.{CaptureReader}
use Rattle.pmb_capture_reader.specs.declared.work.Answer.{Answer}
use Rattle.pmb_firmware.specs.declared.call_status.CallStatus.{CallStatus}
use Rattle.pmb_firmware.specs.declared.call_status.CallStatus.TheVariants as status
use Rattle.pmb_io.specs.declared.tally.Tally.{Tally}
use Rattle.pmb_items.specs.Refusal.{reason_of}
use Rattle.pmb_transaction.specs.Names.{reason_name}
use Rattle.pmb_c.specs.Reader.{reader_asked}
use Rattle.pmb_c.specs.Result.{result_of_status}
use Rattle.pmb_c.specs.declared.held.Held.{Held}
use Rattle.pmb_c.specs.declared.held.ReaderKind.TheVariants.{Items}
use Rattle.pmb_c.specs.declared.result.PmbResult.{PmbResult}

-- the reader of items that a handle holds, if it holds one
abbrev pub items_in : Option Held → Option CaptureReader
items_in from = reader_asked (Some Items) from

-- how many bytes a record has: the law `facts_have_records` of `pmb_fact_stream` says that each has as many
abbrev pub record_bytes : ℕ
record_bytes = 680

-- ---- the next item

-- what is told where so many items are ready: whether some stay when one is moved, and how many they are
abbrev pub status_of_items : ℕ → CallStatus
status_of_items ready = if nat_lt 1 ready then status.NoRoom else status.Done

abbrev pub result_of_items : ℕ → Tally → PmbResult
result_of_items ready tally = record (result_of_status (status_of_items ready)) {
  length = ready;
  packets = tally.packets;
  refusals = tally.refusals;
}

abbrev pub result_of_look : Answer → PmbResult
result_of_look look = result_of_items (look.ready / record_bytes) look.tally

-- .. of what a reader has ready
abbrev pub result_of_ready : CaptureReader → PmbResult
result_of_ready reader = result_of_items (length (reader_ready reader) / record_bytes) (reader_tally reader)

-- The oldest record that is ready went to the item; or none is ready, and the item stays; or the handle holds no reader
-- of items. By the law `readers_of_items` of `pmb_capture_reader` whole records are ready, and the oldest is that of the
-- first fact that was not taken.
pub data NextItem (from : Option Held) (before : List ℕ) (after : Option Held) (item : List ℕ) (told : PmbResult)
    (returned : ℕ) : Type 0 where
  Moved : (old new : CaptureReader) → items_in from ≡ Some old → items_in after ≡ Some new
      → Takes old before new item record_bytes → told ≡ result_of_ready old → returned ≡ 1
      → NextItem from before after item told returned
  NoneReady : (reader : CaptureReader) → items_in from ≡ Some reader → items_in after ≡ Some reader
      → length (reader_ready reader) < record_bytes → item ≡ before → told ≡ result_of_ready reader → returned ≡ 0
      → NextItem from before after item told returned
  Closed : items_in from ≡ None → after ≡ from → item ≡ before → told ≡ result_of_status status.Closed
      → returned ≡ 0 → NextItem from before after item told returned

-- ---- its steps

-- what a reader of items has ready
abbrev pub LooksAt : Option Held → Option Held → Option Answer → Type 0
LooksAt from after None = (items_in from ≡ None) × (after ≡ from)
LooksAt from after (Some look) = (reader : CaptureReader) × (items_in from ≡ Some reader)
    × (items_in after ≡ Some reader) × (look.ready ≡ length (reader_ready reader)) × (look.tally ≡ reader_tally reader)

-- The oldest record of a reader of items that has one was taken.
abbrev pub TakesRecord : Option Held → List ℕ → Option Held → List ℕ → Type 0
TakesRecord from before after room = (old : CaptureReader) → items_in from ≡ Some old
    → record_bytes ≤ length (reader_ready old)
    → (new : CaptureReader) × (items_in after ≡ Some new) × Takes old before new room record_bytes

-- ---- names

-- the name of the reason with a number, as json has it, if it is that of one
abbrev pub reason_text : ℤ → Option (List ℕ)
reason_text (pos number) = option_map reason_name (reason_of number)
reason_text (negsuc number) = None
