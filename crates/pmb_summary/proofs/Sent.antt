-- A text that was put out is written, once what waited was sent. For `write_whole_table` and `write_all_objects`.
use Rattle.std.proofs.Common.{◌≡◌, ℕ, Result, Ok, Err, OnOk, Option, List, [], subst, append-nil}
use Rattle.std.specs.Io.KnownBytes.{Appends}
use Rattle.pmb_io.specs.Outgoing.{PutsText, TextsAddUp}
use Rattle.pmb_io.specs.declared.fault.RunFault.{RunFault}

pub sent : TextsAddUp → ((h0 h1 : Option (List ℕ)) (text : List ℕ) → PutsText h0 [] h1 [] text → Appends h0 h1 text)
    → (h0 h1 h2 : Option (List ℕ)) (w0 w1 w2 text : List ℕ) (result : Result (Unit {0}) RunFault)
    → w0 ≡ [] → PutsText h0 w0 h1 w1 text → OnOk result (PutsText h1 w1 h2 w2 []) → OnOk result (w2 ≡ [])
    → OnOk result (Appends h0 h2 text)
sent both written h0 h1 h2 w0 w1 w2 text (Ok done) none puts sends empty =
    written h0 h2 text (subst (λ (t : List ℕ). PutsText h0 [] h2 [] t) (append-nil text)
    (both h0 h1 h2 [] w1 [] text [] (subst (λ (w : List ℕ). PutsText h0 w h1 w1 text) none puts)
    (subst (λ (w : List ℕ). PutsText h1 w1 h2 w []) empty sends)))
sent both written h0 h1 h2 w0 w1 w2 text (Err fault) none puts sends empty = tt
