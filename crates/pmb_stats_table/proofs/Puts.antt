-- Texts that are put out one after the other: for the functions of `src/table.rt`.
use Rattle.std.proofs.Common.{◌≡◌, ℕ, Bool, true, false, Option, List, [], ◌++◌, refl, sym, ap, ◌∙◌, append_assoc}
use Rattle.std.proofs.Common.{append-nil}
use Rattle.std.specs.Prelude.{if◌then◌else◌}
use Rattle.pmb_io.specs.Outgoing.{PutsText}
use Rattle.pmb_io.proofs.Writing.{writes_as, writes_then}

-- a text, and another after it
pub puts_then : (a b : List ℕ) {h0 h1 h2 : Option (List ℕ)} {w0 w1 w2 : List ℕ} → PutsText h0 w0 h1 w1 a
    → PutsText h1 w1 h2 w2 b → PutsText h0 w0 h2 w2 (a ++ b)
puts_then a b {h0} {h1} {h2} {w0} {w1} {w2} first second = writes_then h0 h1 h2 w0 w1 w2 a b first second

-- the same of an equal text
pub puts_as : {a b : List ℕ} {h0 h1 : Option (List ℕ)} {w0 w1 : List ℕ} → a ≡ b → PutsText h0 w0 h1 w1 a
    → PutsText h0 w0 h1 w1 b
puts_as {a} {b} {h0} {h1} {w0} {w1} same puts = writes_as h0 h1 w0 w1 w1 a b refl same puts

-- a text that was appended to what waits
pub puts_appended : {h0 h1 : Option (List ℕ)} {w0 w1 w2 text : List ℕ} → PutsText h0 w0 h1 w1 [] → w2 ≡ w1 ++ text
    → PutsText h0 w0 h1 w2 text
puts_appended {h0} {h1} {w0} {w1} {w2} {text} room appended = record {
  sent = room.sent;
  appended = room.appended;
  whole = ap (λ (w : List ℕ). w ++ text) (sym (append-nil w0) ∙ room.whole) ∙ append_assoc room.sent w1 text
      ∙ ap (λ (w : List ℕ). room.sent ++ w) (sym appended);
}

-- a text that is told, or isn't
pub if_so : (holds : Bool) (text : List ℕ) → holds ≡ true → text ≡ (if holds then text else [])
if_so true text so = refl
if_so false text so = absurd (cc so)

pub if_not : (holds : Bool) (text : List ℕ) → holds ≡ false → [] ≡ (if holds then text else [])
if_not true text so = absurd (cc so)
if_not false text so = refl
