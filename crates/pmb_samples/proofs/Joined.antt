-- Steps that are put together: for the functions of `samples`.
use Rattle.std.proofs.Common.{◌≡◌, ◌∙◌, ℕ, Option, Result, Ok, Err, OnOk, List, ◌++◌, ap, subst}
use Rattle.pmb_io.specs.Outgoing.{PutsText}
use Rattle.pmb_samples.specs.Lines.{end_at, ended, headless, with_fault}
use Rattle.pmb_samples.specs.declared.lines.Place.TheVariants as at
use Rattle.pmb_samples.specs.declared.samples.Samples.{Samples}
use Rattle.pmb_wire_packets.specs.declared.wire_reader.WireReader.{WireReader}
use Rattle.pmb_wire_packets.specs.machine.Wired as wired

-- an equal text, and an equal state
pub puts_same : {T F : Type 0} (r : Result T F) (h0 h1 : Option (List ℕ)) (w0 w1 a b : List ℕ)
    → OnOk r (PutsText h0 w0 h1 w1 a) → a ≡ b → OnOk r (PutsText h0 w0 h1 w1 b)
puts_same {T} {F} (Ok x) h0 h1 w0 w1 a b puts same = subst (λ (t : List ℕ). PutsText h0 w0 h1 w1 t) same puts
puts_same {T} {F} (Err e) h0 h1 w0 w1 a b puts same = tt

pub now_same : {T F : Type 0} (r : Result T F) (new a b : Samples) → OnOk r (new ≡ a) → a ≡ b → OnOk r (new ≡ b)
now_same {T} {F} (Ok x) new a b now same = now ∙ same
now_same {T} {F} (Err e) new a b now same = tt

-- ---- the end

-- the reader's end is that of the recording
reader_now : {T F : Type 0} (r : Result T F) (s : Samples) (reader : WireReader)
    → OnOk r (reader ≡ (wired.end s.reader).now) → OnOk r (record { lines = s.lines; reader = reader } ≡ (ended s).now)
reader_now {T} {F} (Ok x) s reader is = ap (λ (q : WireReader). record { lines = s.lines; reader = q }) is
reader_now {T} {F} (Err e) s reader is = tt

pub headless_now : {T F : Type 0} (r : Result T F) (s counted : Samples) (reader : WireReader)
    → counted ≡ with_fault s → OnOk r (reader ≡ (wired.end counted.reader).now)
    → OnOk r (record { lines = counted.lines; reader = reader } ≡ (end_at at.Head s).now)
headless_now {T} {F} r s counted reader is now =
    now_same {T = T} {F = F} r (record { lines = counted.lines; reader = reader }) (ended counted).now
    (end_at at.Head s).now (reader_now {T = T} {F = F} r counted reader now) (ap (λ (q : Samples). (ended q).now) is)

pub headless_text : (s counted : Samples) → counted ≡ with_fault s
    → (headless s).text ++ (wired.end counted.reader).text ≡ (end_at at.Head s).text
headless_text s counted is = ap (λ (q : Samples). (headless s).text ++ (ended q).text) is
