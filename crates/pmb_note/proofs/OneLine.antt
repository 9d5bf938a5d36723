-- Texts with no LF (10), by a test that is computed. For the law `notes_are_short`, and for the
-- texts of `pmb_laws`. A text end to end with another has none where neither has one.
use Rattle.std.proofs.Common.{◌≡◌, ◌≢◌, ℕ, zero, suc, Bool, true, not, ◌==◌, ◌&&◌, get_or, List, [], ◌∷◌, ◌++◌, refl}
use Rattle.std.specs.List.{All}
use Rattle.std.proofs.lemmas.Bool.{and_from, and_parts, both_ways, eq-eqb, not-true}
use Rattle.std.proofs.lemmas.List.Elements.{All-cons, All-nil}

abbrev pub no_lf : List ℕ → Bool
no_lf [] = true
no_lf (b ∷ text) = not (b == 10) && no_lf text

pub no_lf-append : (a b : List ℕ) → no_lf a ≡ true → no_lf b ≡ true → no_lf (a ++ b) ≡ true
no_lf-append [] b first second = second
no_lf-append (x ∷ a) b first second =
    let here = and_parts (not (x == 10)) (no_lf a) first in
    and_from (not (x == 10)) (no_lf (a ++ b)) here.0 (no_lf-append a b here.1 second)

-- at each place of a text, and after it
pub no_lf-at : (text : List ℕ) (i : ℕ) → no_lf text ≡ true → not (get_or text i 0 == 10) ≡ true
no_lf-at [] i none = refl
no_lf-at (b ∷ text) zero none = (and_parts (not (b == 10)) (no_lf text) none).0
no_lf-at (b ∷ text) (suc i) none = no_lf-at text i (and_parts (not (b == 10)) (no_lf text) none).1

pub no_lf-all : (text : List ℕ) → no_lf text ≡ true → All (λ b. b ≢ 10) text
no_lf-all [] none = All-nil (λ (b : ℕ). b ≢ 10)
no_lf-all (b ∷ text) none =
    let here = and_parts (not (b == 10)) (no_lf text) none in
    All-cons (λ (x : ℕ). x ≢ 10) b text (λ same. both_ways (b == 10) (not-true (b == 10) here.0) (eq-eqb b 10 same))
    (no_lf-all text here.1)
