-- Steps that are put together: for the functions of `vcd`.
use Rattle.std.proofs.Common.{◌≡◌, ◌∙◌, ℕ, ◌==◌, false, Option, Some, option_map, Result, Ok, Err, OnOk, List, ◌++◌, length, ap, refl, subst}
use Rattle.pmb_io.specs.Outgoing.{PutsText}
use Rattle.pmb_vcd.specs.declared.body.Why.{Why}
use Rattle.pmb_vcd_recording.specs.Lines.{end_at, ended, faulted, given, headless, last_given, with_fault}
use Rattle.pmb_vcd_recording.specs.Source as source
use Rattle.pmb_vcd_recording.specs.declared.lines.Place.TheVariants as at
use Rattle.pmb_vcd_recording.specs.declared.lines.VcdLines.{VcdLines}
use Rattle.pmb_vcd_recording.specs.declared.vcd.Vcd.{Vcd}
use Rattle.pmb_wire_packets.specs.declared.wire_reader.WireReader.{WireReader}
use Rattle.pmb_wire_packets.specs.machine.Wired as wired
use Rattle.pmb_wires.specs.declared.moment.Moment.{Moment}

-- an equal text, and an equal state
pub puts_same : {T F : Type 0} (r : Result T F) (h0 h1 : Option (List ℕ)) (w0 w1 a b : List ℕ)
    → OnOk r (PutsText h0 w0 h1 w1 a) → a ≡ b → OnOk r (PutsText h0 w0 h1 w1 b)
puts_same {T} {F} (Ok x) h0 h1 w0 w1 a b puts same = subst (λ (t : List ℕ). PutsText h0 w0 h1 w1 t) same puts
puts_same {T} {F} (Err e) h0 h1 w0 w1 a b puts same = tt

pub now_same : {T F : Type 0} (r : Result T F) (new a b : Vcd) → OnOk r (new ≡ a) → a ≡ b → OnOk r (new ≡ b)
now_same {T} {F} (Ok x) new a b now same = now ∙ same
now_same {T} {F} (Err e) new a b now same = tt

-- ---- the head

pub ended_is : (v now : VcdLines) (scale : ℕ) (unit : Option ℕ) → unit ≡ Some scale
    → (length v.names.all.items == 0) ≡ false → now ≡ (source.begun v scale).now
    → now ≡ (source.head_ended v unit).now
ended_is v now scale unit is some now_is = rw (is, some) now_is

-- ---- faults

pub fault_is : (v : Vcd) (fault : Option Why) (why : Why) (words : List ℕ) → fault ≡ Some why
    → words ≡ source.why_text why → faulted v (Some words) ≡ faulted v (option_map source.why_text fault)
fault_is v fault why words is same = rw (is, same) refl

-- ---- the end

-- the reader's end is that of the recording
reader_now : {T F : Type 0} (r : Result T F) (v : Vcd) (reader : WireReader) → OnOk r (reader ≡ (wired.end v.reader).now)
    → OnOk r (record { lines = v.lines; reader = reader } ≡ (ended v).now)
reader_now {T} {F} (Ok x) v reader is = ap (λ (q : WireReader). record { lines = v.lines; reader = q }) is
reader_now {T} {F} (Err e) v reader is = tt

pub headless_now : {T F : Type 0} (r : Result T F) (v counted : Vcd) (reader : WireReader) → counted ≡ with_fault v
    → OnOk r (reader ≡ (wired.end counted.reader).now)
    → OnOk r (record { lines = counted.lines; reader = reader } ≡ (end_at at.Head v).now)
headless_now {T} {F} r v counted reader is now =
    now_same {T = T} {F = F} r (record { lines = counted.lines; reader = reader }) (ended counted).now (end_at at.Head v).now
    (reader_now {T = T} {F = F} r counted reader now) (ap (λ (q : Vcd). (ended q).now) is)

pub headless_text : (v counted : Vcd) → counted ≡ with_fault v
    → (headless v).text ++ (wired.end counted.reader).text ≡ (end_at at.Head v).text
headless_text v counted is = ap (λ (q : Vcd). (headless v).text ++ (ended q).text) is

-- where the wires are known
pub body_now : {T F : Type 0} (r : Result T F) (v mid : Vcd) (reader : WireReader) → mid ≡ (last_given v).now
    → OnOk r (reader ≡ (wired.end mid.reader).now)
    → OnOk r (record { lines = mid.lines; reader = reader } ≡ (end_at at.Body v).now)
body_now {T} {F} r v mid reader is now =
    now_same {T = T} {F = F} r (record { lines = mid.lines; reader = reader }) (ended mid).now (end_at at.Body v).now
    (reader_now {T = T} {F = F} r mid reader now) (ap (λ (q : Vcd). (ended q).now) is)

pub body_text : (v mid : Vcd) (text : List ℕ) → mid ≡ (last_given v).now → text ≡ (last_given v).text
    → text ++ (wired.end mid.reader).text ≡ (end_at at.Body v).text
body_text v mid text is same =
    ap (λ (t : List ℕ). t ++ (wired.end mid.reader).text) same
    ∙ ap (λ (q : Vcd). (last_given v).text ++ (ended q).text) is

-- what is given last, by what the body has given
pub last_is : (v : Vcd) (lines : VcdLines) (moment : Option Moment) → lines ≡ (source.end_at at.Body v.lines).now
    → moment ≡ (source.end_at at.Body v.lines).moment
    → given (record { lines = lines; reader = v.reader }) moment ≡ last_given v
last_is v lines moment is same =
    ap (λ (l : VcdLines). given (record { lines = l; reader = v.reader }) moment) is
    ∙ ap (given (record { lines = (source.end_at at.Body v.lines).now; reader = v.reader })) same
