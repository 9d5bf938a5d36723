-- Texts put out one after the other: for all functions of `told`. Two that are put out in turn are
-- one, and an equal text is as good.
use Rattle.std.proofs.Common.{◌≡◌, ℕ, Option, Result, Ok, Err, OnOk, List, ◌++◌, subst}
use Rattle.pmb_io.specs.Outgoing.{PutsText, TextsAddUp}

-- a text, and then the last
pub then_last : TextsAddUp → {T F : Type 0} (r : Result T F) (h0 h1 h2 : Option (List ℕ)) (w0 w1 w2 a b text : List ℕ)
    → PutsText h0 w0 h1 w1 a → OnOk r (PutsText h1 w1 h2 w2 b) → a ++ b ≡ text → OnOk r (PutsText h0 w0 h2 w2 text)
then_last both {T} {F} (Ok x) h0 h1 h2 w0 w1 w2 a b text first last same =
    subst (λ (t : List ℕ). PutsText h0 w0 h2 w2 t) same (both h0 h1 h2 w0 w1 w2 a b first last)
then_last both {T} {F} (Err e) h0 h1 h2 w0 w1 w2 a b text first last same = tt
