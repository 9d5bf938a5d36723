-- What is put out, piece by piece, and where a write fails.
use Rattle.std.proofs.Common.{◌≡◌, ◌∙◌, ℕ, Option, Some, None, Result, Ok, Err, OnErr, List, [], ◌++◌, ap, append_assoc, drop, sym, subst}
use Rattle.std.proofs.Common.{take, take-append-drop}
use Rattle.std.proofs.lemmas.Grind.{flat_map-append}
use Rattle.std.specs.Io.KnownBytes.{Appends}
use Rattle.pmb_io.specs.Calls.{AppendsFront}
use Rattle.pmb_io.specs.Outgoing.{PutsText, TextsAddUp}
use Rattle.pmb_colour.specs.declared.lines.Lines.{Lines}
use Rattle.pmb_colour.specs.Painting.{Held, held_after, pieces_of}
use Rattle.pmb_colour.specs.Pieces.{Piece, piece_shown, shown}
use Rattle.pmb_colour.proofs.Texts.{pieces_go_on}

pub shown_append : (a b : List Piece) → shown (a ++ b) ≡ shown a ++ shown b
shown_append a b = flat_map-append piece_shown a b

-- the same of equal texts
pub puts_as : (h0 h1 : Option (List ℕ)) (w0 w1 a b : List ℕ) → a ≡ b → PutsText h0 w0 h1 w1 a → PutsText h0 w0 h1 w1 b
puts_as h0 h1 w0 w1 a b same puts = subst (λ (t : List ℕ). PutsText h0 w0 h1 w1 t) same puts

-- room was made, and then a text waits
pub puts_behind : (both : TextsAddUp)
    (waits : (held : Option (List ℕ)) (waiting text : List ℕ) → PutsText held waiting held (waiting ++ text) text)
    (h0 h1 : Option (List ℕ)) (w0 w1 w2 text : List ℕ) → w2 ≡ w1 ++ text → PutsText h0 w0 h1 w1 []
    → PutsText h0 w0 h1 w2 text
puts_behind both waits h0 h1 w0 w1 w2 text is made =
    subst (λ (w : List ℕ). PutsText h0 w0 h1 w text) (sym is)
    (both h0 h1 h1 w0 w1 (w1 ++ text) [] text made (waits h1 w1 text))

-- ---- where a write fails

pub err_holds : {A F P : Type 0} (result : Result A F) → P → OnErr result P
err_holds (Ok x) holds = tt
err_holds (Err fault) holds = holds

-- appended twice
pub appends_then : (a b c : Option (List ℕ)) (x y : List ℕ) → Appends a b x → Appends b c y → Appends a c (x ++ y)
appends_then None b c x y one two = tt
appends_then (Some a) None c x y one two = absurd one
appends_then (Some a) (Some b) None x y one two = absurd two
appends_then (Some a) (Some b) (Some c) x y one two = two ∙ (ap (λ (t : List ℕ). t ++ y) one ∙ append_assoc a x y)

-- a front of what waited is one of that and a text behind it
pub front_more : (h0 h1 : Option (List ℕ)) (waiting text : List ℕ) → AppendsFront h0 h1 waiting
    → AppendsFront h0 h1 (waiting ++ text)
front_more h0 h1 waiting text front = record {
  sent = front.sent;
  rest = front.rest ++ text;
  whole = ap (λ (t : List ℕ). t ++ text) front.whole ∙ append_assoc front.sent front.rest text;
  appended = front.appended;
}

-- a text was put out, and then a front of what waited was written: a front of all was
pub front_behind : (h0 h1 h2 : Option (List ℕ)) (w0 w1 text more all : List ℕ) → text ++ more ≡ all
    → PutsText h0 w0 h1 w1 text → AppendsFront h1 h2 w1 → AppendsFront h0 h2 (w0 ++ all)
front_behind h0 h1 h2 w0 w1 text more all is puts front =
    let sent = puts.sent ++ front.sent in
    record {
      sent = sent;
      rest = front.rest ++ more;
      whole = ap (λ (t : List ℕ). w0 ++ t) (sym is)
          ∙ (sym (append_assoc w0 text more)
          ∙ (ap (λ (t : List ℕ). t ++ more)
          (puts.whole ∙ (ap (λ (t : List ℕ). puts.sent ++ t) front.whole ∙ sym (append_assoc puts.sent front.sent front.rest)))
          ∙ append_assoc sent front.rest more));
      appended = appends_then h0 h1 h2 puts.sent front.sent puts.appended front.appended;
    }

-- .. of the pieces of a text, which were put out up to a byte
pub front_of_pieces : (lines : Lines) (held : Held) (bytes : List ℕ) (i : ℕ) (h0 h1 h2 : Option (List ℕ)) (w0 w1 : List ℕ)
    → PutsText h0 w0 h1 w1 (shown (pieces_of lines held (take i bytes))) → AppendsFront h1 h2 w1
    → AppendsFront h0 h2 (w0 ++ shown (pieces_of lines held bytes))
front_of_pieces lines held bytes i h0 h1 h2 w0 w1 =
    let before = take i bytes in
    let after = drop i bytes in
    let one = pieces_of lines held before in
    let two = pieces_of lines (held_after held before) after in
    front_behind h0 h1 h2 w0 w1 (shown one) (shown two) (shown (pieces_of lines held bytes))
    (sym (shown_append one two)
    ∙ ap shown (sym (pieces_go_on lines held before after)
    ∙ ap (λ (t : List ℕ). pieces_of lines held t) (take-append-drop i bytes)))
