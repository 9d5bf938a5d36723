-- What a reader of wires tells is the capture of the pieces: the law `reads_all_pieces`.
--
-- The filter and the tracker turn what is read into items, piece by piece, and the packets take these.
use Rattle.std.proofs.Common.{◌≡◌, ◌∙◌, ℕ, Option, Some, None, List, [], ◌∷◌, ◌++◌}
use Rattle.std.proofs.Common.{ap, refl, sym, inl, inr, append-nil, append_assoc}
use Rattle.std.proofs.lemmas.Bool.{cases_Bool}
use Rattle.pmb_recording.specs.Recording.{Step as StepOf, quietly}
use Rattle.pmb_wire_packets.specs.Packets.{Item, Says, Breaks}
use Rattle.pmb_wire_packets.specs.Pieces.{EachRises, Read, Gives, Fails, RisesBehind, all_say, capture_of, first_piece}
use Rattle.pmb_wire_packets.specs.Pieces.{items, items_behind}
use Rattle.pmb_wire_packets.specs.declared.wire_packets.WirePackets.{WirePackets}
use Rattle.pmb_wire_packets.specs.declared.wire_reader.WireReader.{WireReader}
use Rattle.pmb_wire_packets.specs.machine.Steps as steps
use Rattle.pmb_wire_packets.specs.machine.Wired as wired
use Rattle.pmb_wires.specs.Changes.{Rises}
use Rattle.pmb_wires.specs.Signals.{put_signal, signals_of_piece}
use Rattle.pmb_wires.specs.declared.filter.Filter.{Filter}
use Rattle.pmb_wires.specs.declared.moment.Moment.{Moment}
use Rattle.pmb_wires.specs.declared.moment.Moments.{Moments}
use Rattle.pmb_wires.specs.declared.signal.Signal.{Signal}
use Rattle.pmb_wires.specs.declared.signal.Tracker.{Tracker}
use Rattle.pmb_wires.specs.machine.Tracker as trackers
use Rattle.pmb_wires.specs.machine.Waiting as filters
use Rattle.pmb_wire_packets.proofs.CaptureLaw.{tells_the_capture}

-- ---- items that are taken one after the other

abbrev feed : WirePackets → List Item → StepOf WirePackets
feed p [] = quietly p
feed p (item ∷ others) = record {
  now = (feed (steps.take_item p item).now others).now;
  text = (steps.take_item p item).text ++ (feed (steps.take_item p item).now others).text;
}

feed_text : (p : WirePackets) (a b : List Item) → (feed p (a ++ b)).text ≡ (feed p a).text ++ (feed (feed p a).now b).text
feed_text p [] b = refl
feed_text p (item ∷ a) b =
    let s = steps.take_item p item in
    ap (λ (t : List ℕ). s.text ++ t) (feed_text s.now a b)
    ∙ sym (append_assoc s.text (feed s.now a).text (feed (feed s.now a).now b).text)

feed_now : (p : WirePackets) (a b : List Item) → (feed p (a ++ b)).now ≡ (feed (feed p a).now b).now
feed_now p [] b = refl
feed_now p (item ∷ a) b = feed_now (steps.take_item p item).now a b

run_feed : (p : WirePackets) (a b : List Item) → steps.run_text p (a ++ b) ≡ (feed p a).text ++ steps.run_text (feed p a).now b
run_feed p [] b = refl
run_feed p (item ∷ a) b =
    let s = steps.take_item p item in
    ap (λ (t : List ℕ). s.text ++ t) (run_feed s.now a b)
    ∙ sym (append_assoc s.text (feed s.now a).text (steps.run_text (feed s.now a).now b))

say_append : (a b : List Signal) → all_say (a ++ b) ≡ all_say a ++ all_say b
say_append [] b = refl
say_append (signal ∷ a) b = ap (λ (l : List Item). Says signal ∷ l) (say_append a b)

-- ---- changes that are told one after the other

abbrev tracker_behind : Tracker → List Moment → Tracker
tracker_behind t [] = t
tracker_behind t (m ∷ ms) = tracker_behind (trackers.take t m).now ms

put_append : (s : Option Signal) (a b : List Signal) → put_signal s (a ++ b) ≡ put_signal s a ++ b
put_append None a b = refl
put_append (Some signal) a b = refl

told_append : (t : Tracker) (a b : List Moment)
    → trackers.told_of t (a ++ b) ≡ trackers.told_of t a ++ trackers.told_of (tracker_behind t a) b
told_append t [] b = refl
told_append t (m ∷ a) b =
    let next = trackers.take t m in
    ap (put_signal next.told) (told_append next.now a b)
    ∙ put_append next.told (trackers.told_of next.now a) (trackers.told_of (tracker_behind next.now a) b)

abbrev said : Tracker → List Moment → List Item
said t ms = all_say (trackers.told_of t ms)

said_append : (t : Tracker) (a b : List Moment) → said t (a ++ b) ≡ said t a ++ said (tracker_behind t a) b
said_append t a b =
    ap all_say (told_append t a b) ∙ say_append (trackers.told_of t a) (trackers.told_of (tracker_behind t a) b)

-- ---- a reader feeds its packets

abbrev fed : WireReader → List Moment → WireReader
fed r ms = record {
  packets = (feed r.packets (said r.tracker ms)).now;
  filter = r.filter;
  tracker = tracker_behind r.tracker ms;
}

signal_text : (r : WireReader) (s : Option Signal) → (wired.told_signal r s).text ≡ (feed r.packets (all_say (put_signal s []))).text
signal_text r None = refl
signal_text r (Some signal) = sym (append-nil (steps.take r.packets signal).text)

signal_now : (r : WireReader) (s : Option Signal)
    → (wired.told_signal r s).now ≡ record r { packets = (feed r.packets (all_say (put_signal s []))).now }
signal_now r None = refl
signal_now r (Some signal) = refl

change_text : (r : WireReader) (m : Option Moment)
    → (wired.change r m).text ≡ (feed r.packets (said r.tracker (filters.option_list m))).text
change_text r None = refl
change_text r (Some m) =
    let told = trackers.take r.tracker m in
    signal_text (record r { tracker = told.now }) told.told

change_now : (r : WireReader) (m : Option Moment) → (wired.change r m).now ≡ fed r (filters.option_list m)
change_now r None = refl
change_now r (Some m) =
    let told = trackers.take r.tracker m in
    signal_now (record r { tracker = told.now }) told.told

changes_text : (r : WireReader) (ms : Moments)
    → (wired.changes_of r ms).text ≡ (feed r.packets (said r.tracker (filters.listed ms))).text
changes_text r ms =
    let a = filters.option_list ms.first in
    let b = filters.option_list ms.second in
    let first = fed r a in
    ap (λ (t : List ℕ). t ++ (wired.change (wired.change r ms.first).now ms.second).text) (change_text r ms.first)
    ∙ ap (λ (q : WireReader). (feed r.packets (said r.tracker a)).text ++ (wired.change q ms.second).text)
    (change_now r ms.first)
    ∙ ap (λ (t : List ℕ). (feed r.packets (said r.tracker a)).text ++ t) (change_text first ms.second)
    ∙ sym (feed_text r.packets (said r.tracker a) (said first.tracker b))
    ∙ ap (λ (l : List Item). (feed r.packets l).text) (sym (said_append r.tracker a b))

tracker_append : (t : Tracker) (a b : List Moment) → tracker_behind t (a ++ b) ≡ tracker_behind (tracker_behind t a) b
tracker_append t [] b = refl
tracker_append t (m ∷ a) b = tracker_append (trackers.take t m).now a b

abbrev reader : WirePackets → Filter → Tracker → WireReader
reader p f t = record { packets = p; filter = f; tracker = t }

changes_now : (r : WireReader) (ms : Moments) → (wired.changes_of r ms).now ≡ fed r (filters.listed ms)
changes_now r ms =
    let a = filters.option_list ms.first in
    let b = filters.option_list ms.second in
    let first = fed r a in
    ap (λ (q : WireReader). (wired.change q ms.second).now) (change_now r ms.first)
    ∙ change_now first ms.second
    ∙ ap (λ (p : WirePackets). reader p r.filter (tracker_behind first.tracker b))
    (sym (feed_now r.packets (said r.tracker a) (said first.tracker b)))
    ∙ ap (λ (l : List Item). reader (feed r.packets l).now r.filter (tracker_behind first.tracker b))
    (sym (said_append r.tracker a b))
    ∙ ap (reader (feed r.packets (said r.tracker (a ++ b))).now r.filter) (sym (tracker_append r.tracker a b))

-- ---- the items of what is read

abbrev all_items : Filter → Tracker → List Read → List Item
all_items f t [] = said t (filters.listed (filters.end f).given)
all_items f t (Gives m ∷ reads) =
    said t (filters.listed (filters.take f m).given)
    ++ all_items (filters.take f m).now (tracker_behind t (filters.listed (filters.take f m).given)) reads
all_items f t (Fails line why ∷ reads) =
    said t (filters.listed (filters.end f).given)
    ++ (Breaks line why ∷ all_items (filters.end f).now trackers.unknown_yet reads)

ended : (p : WirePackets) (a : List Item) → (feed p a).text ++ (steps.end (feed p a).now).text ≡ steps.run_text p a
ended p a =
    sym (run_feed p a []) ∙ ap (steps.run_text p) (append-nil a)

abbrev Reads : WireReader → List Read → Type 0
Reads r reads = wired.run_text r reads ≡ steps.run_text r.packets (all_items r.filter r.tracker reads)

reads_end : (r : WireReader) → Reads r []
reads_end r =
    let last = filters.end r.filter in
    let with = record r { filter = last.now } in
    ap (λ (t : List ℕ). t ++ (steps.end (wired.changes_of with last.given).now.packets).text) (changes_text with last.given)
    ∙ ap (λ (q : WireReader). (feed r.packets (said r.tracker (filters.listed last.given))).text ++ (steps.end q.packets).text)
    (changes_now with last.given)
    ∙ ended r.packets (said r.tracker (filters.listed last.given))

reads_gives : (r : WireReader) (m : Moment) (reads : List Read) → ((q : WireReader) → Reads q reads)
    → Reads r (Gives m ∷ reads)
reads_gives r m reads rest =
    let next = filters.take r.filter m in
    let with = record r { filter = next.now } in
    let told = said r.tracker (filters.listed next.given) in
    let behind = fed with (filters.listed next.given) in
    ap (λ (t : List ℕ). t ++ wired.run_text (wired.changes_of with next.given).now reads) (changes_text with next.given)
    ∙ ap (λ (q : WireReader). (feed r.packets told).text ++ wired.run_text q reads) (changes_now with next.given)
    ∙ ap (λ (t : List ℕ). (feed r.packets told).text ++ t) (rest behind)
    ∙ sym (run_feed r.packets told (all_items next.now (tracker_behind r.tracker (filters.listed next.given)) reads))

reads_fails : (r : WireReader) (line : ℕ) (why : List ℕ) (reads : List Read) → ((q : WireReader) → Reads q reads)
    → Reads r (Fails line why ∷ reads)
reads_fails r line why reads rest =
    let last = filters.end r.filter in
    let with = record r { filter = last.now } in
    let told = said r.tracker (filters.listed last.given) in
    let p = (feed r.packets told).now in
    let broken = steps.broken p line why in
    let ends : (wired.break_off r line why).text ≡ (feed r.packets told).text ++ broken.text =
    ap (λ (t : List ℕ). t ++ (steps.broken (wired.changes_of with last.given).now.packets line why).text)
    (changes_text with last.given)
    ∙ ap (λ (q : WireReader). (feed r.packets told).text ++ (steps.broken q.packets line why).text)
    (changes_now with last.given) in
    let now : (wired.break_off r line why).now ≡ reader broken.now last.now trackers.unknown_yet =
    ap (λ (q : WireReader). reader (steps.broken q.packets line why).now q.filter trackers.unknown_yet)
    (changes_now with last.given) in
    let items_next = all_items last.now trackers.unknown_yet reads in
    ap (λ (t : List ℕ). t ++ wired.run_text (wired.break_off r line why).now reads) ends
    ∙ ap (λ (q : WireReader). ((feed r.packets told).text ++ broken.text) ++ wired.run_text q reads) now
    ∙ ap (λ (t : List ℕ). ((feed r.packets told).text ++ broken.text) ++ t)
    (rest (reader broken.now last.now trackers.unknown_yet))
    ∙ append_assoc (feed r.packets told).text broken.text (steps.run_text broken.now items_next)
    ∙ sym (run_feed r.packets told (Breaks line why ∷ items_next))

reads_all : (reads : List Read) (r : WireReader) → Reads r reads
reads_all [] r = reads_end r
reads_all (Gives m ∷ reads) r = reads_gives r m reads (reads_all reads)
reads_all (Fails line why ∷ reads) r = reads_fails r line why reads (reads_all reads)

-- ---- they are those of the pieces

keeps_glitch : (f : Filter) (m : Moment) → (filters.take f m).now.glitch ≡ f.glitch
keeps_glitch f m = elim (cases_Bool (filters.is_fresh f.given)) [
  | inl is ↦ rw is refl
  | inr not ↦ rw not refl
]

abbrev TellsSignals : Type 0
TellsSignals = (glitch : ℕ) (ms : List Moment) → Rises ms
    → trackers.told_of trackers.unknown_yet (filters.given_for (filters.fresh glitch) ms) ≡ signals_of_piece glitch ms

abbrev Items : Filter → Tracker → List Read → Type 0
Items f t reads = all_items f t reads
    ≡ said t (filters.given_for f (first_piece reads)) ++ items_behind f.glitch reads

items_all : TellsSignals → (reads : List Read) (f : Filter) (t : Tracker) → RisesBehind reads → Items f t reads
items_all tells [] f t rises = sym (append-nil (said t (filters.listed (filters.end f).given)))
items_all tells (Gives m ∷ reads) f t rises =
    let next = filters.take f m in
    let now = filters.listed next.given in
    let later = filters.given_for next.now (first_piece reads) in
    let behind = tracker_behind t now in
    let rest : all_items next.now behind reads ≡ said behind later ++ items_behind next.now.glitch reads =
    items_all tells reads next.now behind rises in
    ap (λ (l : List Item). said t now ++ l) rest
    ∙ ap (λ (g : ℕ). said t now ++ (said behind later ++ items_behind g reads)) (keeps_glitch f m)
    ∙ sym (append_assoc (said t now) (said behind later) (items_behind f.glitch reads))
    ∙ ap (λ (l : List Item). l ++ items_behind f.glitch reads) (sym (said_append t now later))
items_all tells (Fails line why ∷ reads) f t rises =
    let last = filters.listed (filters.end f).given in
    let rest : all_items (filters.fresh f.glitch) trackers.unknown_yet reads
    ≡ said trackers.unknown_yet (filters.given_for (filters.fresh f.glitch) (first_piece reads))
    ++ items_behind f.glitch reads =
    items_all tells reads (filters.fresh f.glitch) trackers.unknown_yet rises.1 in
    ap (λ (l : List Item). said t last ++ (Breaks line why ∷ l)) rest
    ∙ ap (λ (l : List Signal). said t last ++ (Breaks line why ∷ (all_say l ++ items_behind f.glitch reads)))
    (tells f.glitch (first_piece reads) rises.0)

pub reads_pieces : TellsSignals → (glitch timeout origin : ℕ) (reads : List Read) → EachRises reads
    → wired.run_text (wired.fresh glitch timeout origin) reads ≡ capture_of glitch timeout origin reads
reads_pieces tells glitch timeout origin reads rises =
    let all : all_items (filters.fresh glitch) trackers.unknown_yet reads ≡ items glitch reads =
    items_all tells reads (filters.fresh glitch) trackers.unknown_yet rises.1
    ∙ ap (λ (l : List Signal). all_say l ++ items_behind glitch reads) (tells glitch (first_piece reads) rises.0) in
    reads_all reads (wired.fresh glitch timeout origin)
    ∙ ap (steps.run_text (steps.start timeout origin)) all
    ∙ tells_the_capture origin timeout (items glitch reads)
