-- Texts of the first elements of a list, with that of one more; cells after others.
use Rattle.std.proofs.Common.{◌≡◌, ℕ, zero, suc, ◌+◌, ◌<◌, List, [], ◌∷◌, ◌++◌, length, get_or, take, ap, sym, ◌∙◌}
use Rattle.std.proofs.Common.{◌≤◌, Some, slice_get, take_all, add-one, arith}
use Rattle.std.proofs.lemmas.Option.{get_or_from_slice_get, slice_get_within}
use Rattle.std.specs.List.{flat_map, range_with_len}
use Rattle.std.proofs.lemmas.Grind.{flat_map-append}
use Rattle.std.proofs.lemmas.List.{flat_map_more, take_more}
use Rattle.pmb_log_data.specs.Appends.{Appends}
use Rattle.pmb_log_data.proofs.Texts.{called, then}
use Rattle.pmb_stats_table.specs.Row.{after_gap, after_gaps}

pub texts_more : {X A : Type 0} (f : X → List A) (xs : List X) (i : ℕ) (d : X) → i < length xs
    → flat_map f (take i xs) ++ f (get_or xs i d) ≡ flat_map f (take (i + 1) xs)
texts_more {X} f xs i d within =
    flat_map_more f [] (take i xs) (get_or xs i d) ∙ ap (λ (ys : List X). flat_map f ys) (sym (take_more xs i d within))

-- what is appended to nothing
pub from_nothing : {text old new : List ℕ} {most : ℕ} → old ≡ [] → Appends text most old new → new ≡ text
from_nothing {text} none appends = appends.items ∙ ap (λ (old : List ℕ). old ++ text) none

one_number_more : (a n : ℕ) → range_with_len a (suc n) ≡ range_with_len a n ++ (a + n) ∷ []
one_number_more a zero = ap (λ (m : ℕ). m ∷ []) (omega arith)
one_number_more a (suc n) =
    ap (λ (ms : List ℕ). a ∷ ms) (one_number_more (a + 1) n
    ∙ ap (λ (m : ℕ). range_with_len (a + 1) n ++ m ∷ []) (omega arith))

-- what there is of the first numbers, with that of one more
pub numbers_more : {A : Type 0} (f : ℕ → List A) (n : ℕ)
    → flat_map f (range_with_len 0 n) ++ f n ≡ flat_map f (range_with_len 0 (n + 1))
numbers_more f n = flat_map_more f [] (range_with_len 0 n) n
    ∙ ap (flat_map f) (sym (ap (range_with_len 0) (add-one n) ∙ one_number_more 0 n
    ∙ ap (λ (m : ℕ). range_with_len 0 n ++ m ∷ []) (omega arith)))

-- what there is of the first elements, with that of one more
pub elements_more : {X A : Type 0} (f : X → List A) (xs : List X) (i : ℕ) (x : X) → slice_get xs i ≡ Some x
    → flat_map f (take i xs) ++ f x ≡ flat_map f (take (i + 1) xs)
elements_more {X} f xs i x is =
    ap (λ (y : X). flat_map f (take i xs) ++ f y) (sym (get_or_from_slice_get xs i x x is))
    ∙ texts_more f xs i x (slice_get_within xs i x is)

-- .. and of all of them
pub all_elements : {X A : Type 0} (f : X → List A) (xs : List X) (i : ℕ) → length xs ≤ i
    → flat_map f (take i xs) ≡ flat_map f xs
all_elements {X} f xs i past = ap (λ (ys : List X). flat_map f ys) (take_all i xs past)

-- cells, and others after them
pub after_cells : (xs ys : List (List ℕ)) {m n : ℕ} {a b c : List ℕ} → Appends (after_gaps xs) m a b
    → Appends (after_gaps ys) n b c → Appends (after_gaps (xs ++ ys)) (m + n) a c
after_cells xs ys first second = called (sym (flat_map-append after_gap xs ys)) (then first second)
