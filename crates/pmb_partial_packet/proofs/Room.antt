-- A byte after bytes that had room: with fewer than 258 it is kept, with 258 it is left out. For
-- `keep` of `src/legs.rt`. Either way the bytes kept are the first 258 of all.
use Rattle.std.proofs.Common.{◌≡◌, ◌≢◌, ℕ, ◌≤◌, ◌==◌, true, false, List, [], ◌∷◌, ◌++◌, length, take, sym, ◌∙◌, arith}
use Rattle.std.proofs.lemmas.List.{length-append, take-append-le, take_all}
use Rattle.std.proofs.lemmas.Bool.{eqb-true, eqb-false}

pub room : (bytes : List ℕ) (b : ℕ) → length bytes ≤ 258 → (length bytes == 258) ≡ false
    → bytes ++ b ∷ [] ≡ take 258 (bytes ++ b ∷ [])
room bytes b few not_full =
    let other : length bytes ≢ 258 = eqb-false (length bytes) 258 not_full in
    sym (take_all 258 (bytes ++ b ∷ []) (omega (arith, few, length-append bytes (b ∷ []), other)))

pub no_room : (bytes : List ℕ) (b : ℕ) → (length bytes == 258) ≡ true → bytes ≡ take 258 (bytes ++ b ∷ [])
no_room bytes b full =
    let all : length bytes ≡ 258 = eqb-true (length bytes) 258 full in
    sym (take_all 258 bytes (omega (arith, all))) ∙ sym (take-append-le 258 bytes (b ∷ []) (omega (arith, all)))
