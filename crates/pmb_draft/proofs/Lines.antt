-- Texts that are appended, one after another, and the comments of the addresses that are left out.
use Rattle.std.proofs.Common.{◌≡◌, ◌∙◌, ◌+◌, ℕ, Bool, List, ◌++◌, Result, Ok, Err, OnOk, ap, sym}
use Rattle.std.proofs.Common.{append_assoc, append-nil, add-one}
use Rattle.pmb_draft.specs.Left.{line_of, lines_below}

-- two that were appended, and a third that may have been
pub three_appended : {E : Type 0} (t0 t1 t2 t3 a b c : List ℕ) (result : Result (Unit {0}) E) → t1 ≡ t0 ++ a
    → t2 ≡ t1 ++ b → OnOk result (t3 ≡ t2 ++ c) → OnOk result (t3 ≡ t0 ++ (a ++ (b ++ c)))
three_appended t0 t1 t2 t3 a b c (Ok done) first second third =
    third ∙ ap (λ (t : List ℕ). t ++ c) (second ∙ ap (λ (t : List ℕ). t ++ b) first)
    ∙ append_assoc (t0 ++ a) b c ∙ append_assoc t0 a (b ++ c)
three_appended t0 t1 t2 t3 a b c (Err fault) first second third = tt

-- no address is below 0
pub none_below : (acked : List Bool) (listed text : List ℕ) → text ≡ text ++ lines_below acked listed 0
unfolding lines_below
none_below acked listed text = sym (append-nil text)

-- that of the next address
pub next_line : (acked : List Bool) (listed old text new : List ℕ) (n : ℕ) → text ≡ old ++ lines_below acked listed n
    → new ≡ text ++ line_of acked listed n → new ≡ old ++ lines_below acked listed (n + 1)
unfolding lines_below
next_line acked listed old text new n so_far more =
    rw add-one (more ∙ ap (λ (t : List ℕ). t ++ line_of acked listed n) so_far
    ∙ append_assoc old (lines_below acked listed n) (line_of acked listed n))
