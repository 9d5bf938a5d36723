-- What becomes of a line is what its class says, by the cases that its class is chosen by.
use Rattle.std.proofs.Common.{◌≡◌, ℕ, arith, ◌+◌, ◌==◌, ◌||◌, nat_lt, Bool, true, false, List, [], ◌∷◌, length}
use Rattle.std.proofs.Common.{Option, Some, None, if◌then◌else◌, refl, ap, inl, inr}
use Rattle.pmb_beagle.specs.Classes.{BeginsAnew, DoesAs, EachLineHasItsClass, Faulted, GivenText, Nothing, Ends, Packet}
use Rattle.pmb_beagle.specs.Classes.{TooLong, PacketTooLong, RowClass, GivesEvents, IsFault, SaysNothing, at_next_line}
use Rattle.pmb_beagle.specs.Classes.{class_by, class_of, class_of_next, class_of_numbered, class_of_said}
use Rattle.pmb_beagle.specs.Classes.{class_of_transaction, class_under, may_follow}
use Rattle.pmb_beagle.specs.Columns.{heading_of, is_remark}
use Rattle.pmb_beagle.specs.Export.{Says, OfCapture, OfOther, OfTransaction, Transaction, ends_packet, field_if}
use Rattle.pmb_beagle.specs.Export.{index_of, is_marked, is_next, is_out_of_range, says_of, start_time}
use Rattle.pmb_beagle.specs.Packets.{add, begin, end_if, fault, fault_of, follow, numbered, on, refuse, skip}
use Rattle.pmb_beagle.specs.Packets.{take_by}
use Rattle.pmb_beagle.specs.Packets.{take_content, take_next, take_numbered, take_said, take_transaction}
use Rattle.pmb_beagle.specs.Packets.{take_under, wire_of, with_bytes}
use Rattle.pmb_beagle.specs.declared.beagle.Beagle.{Beagle}
use Rattle.pmb_beagle.specs.declared.columns.Columns.{Columns}
use Rattle.pmb_csv.specs.Fields.{Record, record_of}
use Rattle.pmb_recording.specs.Content.{content}
use Rattle.pmb_recording.specs.Recording.{Step, at_heading, at_too_long, begun, first_line, given, in_line, quietly}
use Rattle.pmb_recording.specs.Told.{Reason, DoesNotFollow, IsMarked, MakesNoSense, RowsAreMissing, too_long_line}
use Rattle.pmb_recording.specs.Wire.{most_wire}
use Rattle.pmb_recording.specs.declared.recording.PacketLines.{PacketLines}
use Rattle.pmb_recording.specs.declared.recording.Recording.{Recording}

-- a fault is told, and no packet is left
faulted : (b : Beagle) (reason : Reason) → Faulted b.recording false (fault b reason)
faulted b reason = record { reason = reason; told = refl; is_counted = omega arith; is_gone = refl; skips = refl }

faulted_of : (b : Beagle) (ends : Bool) (reason : Reason) → Faulted b.recording ends (fault_of b ends reason)
faulted_of b ends reason =
    record { reason = reason; told = refl; is_counted = omega arith; is_gone = refl; skips = refl }

anew : (b : Beagle) → BeginsAnew b.recording (on b (at_heading b.recording))
anew b = record { told = refl; is_gone = refl; skips = refl }

-- ---- transactions

-- with a line more it begins in the same
first_same : (line : ℕ) (packet : Option PacketLines) → first_line (in_line line packet) ≡ first_line packet
first_same line (Some lines) = refl
first_same line None = refl

added : (b : Beagle) (time : List ℕ) (t : Transaction) (is_full ends : Bool)
    → let now = record b { recording = given b.recording } in
    GivenText b.recording time t
    (if is_full then on now (at_too_long now.recording ends) else end_if ends (with_bytes now (wire_of t))).text
added b time t true ends =
    TooLong (ap (too_long_line b.recording.line) (first_same b.recording.line b.recording.packet))
added b time t false true = Ends refl
added b time t false false = Nothing refl

begins : (b : Beagle) (time : List ℕ) (t : Transaction) (is_full ends : Bool)
    → let now = record b { recording = begun b.recording time } in
    GivenText b.recording time t
    (if is_full then on now (at_too_long now.recording ends) else end_if ends (with_bytes now (wire_of t))).text
begins b time t true ends = PacketTooLong refl
begins b time t false true = Packet refl
begins b time t false false = Nothing refl

-- a step of a row: it gives a transaction, begins anew, or is a fault
abbrev OfRow : RowClass → Recording → Step Beagle → Type 0
OfRow (GivesEvents time t) now step = GivenText now time t step.text
OfRow SaysNothing now step = BeginsAnew now step
OfRow (IsFault ends) now step = Faulted now ends step

-- a step that is taken where a test holds, and else is a fault
tested : (b : Beagle) (time : List ℕ) (t : Transaction) (holds : Bool) (step : Step Beagle)
    → GivenText b.recording time t step.text
    → OfRow (if holds then GivesEvents time t else IsFault t.marks.has_stop) b.recording
    (if holds then step else refuse b t)
tested b time t true step told = told
tested b time t false step told = faulted_of b t.marks.has_stop DoesNotFollow

skipped : (b : Beagle) (time : List ℕ) (t : Transaction) (ends : Bool)
    → GivenText b.recording time t
    (if ends then quietly (record b { recording = record b.recording { is_skipping = false } }) else quietly b).text
skipped b time t true = Nothing refl
skipped b time t false = Nothing refl

out : (b : Beagle) (time : List ℕ) (t : Transaction) (skips : Bool)
    → OfRow (if skips || t.marks.has_start then GivesEvents time t else IsFault t.marks.has_stop) b.recording
    (if skips then skip b t else begin b time t)
out b time t true = skipped b time t t.marks.has_stop
out b time t false =
    let now = record b { recording = begun b.recording time } in
    tested b time t t.marks.has_start (add now t)
    (begins b time t (nat_lt most_wire (length now.recording.wire.items + length (wire_of t))) t.marks.has_stop)

followed : (b : Beagle) (time : List ℕ) (t : Transaction) (packet : Option PacketLines)
    → OfRow (if may_follow packet b.recording t then GivesEvents time t else IsFault t.marks.has_stop) b.recording
    (follow b time t packet)
followed b time t (Some lines) =
    let now = record b { recording = given b.recording } in
    tested b time t t.marks.has_start (add now t)
    (added b time t (nat_lt most_wire (length now.recording.wire.items + length (wire_of t))) t.marks.has_stop)
followed b time t None = out b time t b.recording.is_skipping

-- what is a fault where a test holds
unless : (b : Beagle) (ends holds : Bool) (reason : Reason) (c : RowClass) (step : Step Beagle)
    → OfRow c b.recording step
    → OfRow (if holds then IsFault ends else c) b.recording (if holds then fault_of b ends reason else step)
unless b ends true reason c step does = faulted_of b ends reason
unless b ends false reason c step does = does

of_transaction : (b : Beagle) (columns : Columns) (r : Record) (t : Transaction)
    → OfRow (class_of_transaction b.recording columns r t) b.recording (take_transaction b columns r t)
of_transaction b columns r t =
    let time = start_time columns r in
    let ends = ends_packet columns r in
    let follows =
    if may_follow b.recording.packet b.recording t then GivesEvents time t else IsFault t.marks.has_stop in
    let range = is_out_of_range columns r t in
    let step = follow b time t b.recording.packet in
    unless b ends (is_marked (field_if columns.error r)) IsMarked (if range then IsFault ends else follows)
    (if range then fault_of b ends MakesNoSense else step)
    (unless b ends range MakesNoSense follows step (followed b time t b.recording.packet))

-- ---- rows

of_said : (b : Beagle) (columns : Columns) (r : Record) (says : Says)
    → OfRow (class_of_said b.recording columns r says) b.recording (take_said b columns r says)
of_said b columns r (OfTransaction t) = of_transaction b columns r t
of_said b columns r OfCapture = anew b
of_said b columns r OfOther = faulted_of b (ends_packet columns r) MakesNoSense

of_next : (b : Beagle) (columns : Columns) (r : Record) (next : Bool) (says : Option Says)
    → OfRow (class_of_next b.recording columns r next says) b.recording (take_next b columns r next says)
of_next b columns r true (Some says) = of_said b columns r says
of_next b columns r false (Some says) = faulted_of b (ends_packet columns r) RowsAreMissing
of_next b columns r next None = faulted_of b (ends_packet columns r) MakesNoSense

of_numbered : (b : Beagle) (columns : Columns) (r : Record) (index : Option ℕ)
    → OfRow (class_of_numbered b columns r index) b.recording (take_numbered b columns r index)
of_numbered b columns r (Some index) =
    of_next (numbered b (Some index)) columns r (is_next b.index index) (says_of columns r)
of_numbered b columns r None = faulted_of (numbered b None) (ends_packet columns r) MakesNoSense

of_row : (b : Beagle) (columns : Option Columns) (r : Record)
    → OfRow (class_under b columns r) b.recording (take_under b columns r)
of_row b (Some columns) r = of_numbered b columns r (index_of columns r)
of_row b None r = faulted b MakesNoSense

-- ---- lines

does : (c : RowClass) (b : Beagle) (step : Step Beagle) → OfRow c b.recording step → DoesAs c b step
does (GivesEvents time t) b step of_row = of_row
does SaysNothing b step of_row = inr of_row
does (IsFault ends) b step of_row = of_row

other : (b : Beagle) (line : List ℕ) (remark : Bool)
    → DoesAs (if remark then SaysNothing else class_under b b.columns (record_of line)) b
    (if remark then quietly b else take_under b b.columns (record_of line))
other b line true = inl refl
other b line false =
    does (class_under b b.columns (record_of line)) b (take_under b b.columns (record_of line))
    (of_row b b.columns (record_of line))

by_heading : (b : Beagle) (columns : Option Columns) (line : List ℕ)
    → DoesAs (class_by b columns line) b (take_by b columns line)
by_heading b (Some columns) line = inr (anew (record b { columns = Some columns; index = None }))
by_heading b None line = other b line (is_remark line)

of_content : (b : Beagle) (line : Option (List ℕ)) → DoesAs (class_of b line) b (take_content b line)
of_content b (Some []) = inl refl
of_content b (Some (byte ∷ line)) = by_heading b (heading_of (byte ∷ line)) (byte ∷ line)
of_content b None = faulted (numbered b None) MakesNoSense

pub each_line : EachLineHasItsClass
each_line b given = of_content (at_next_line b) (content (b.recording.line == 0) given)
