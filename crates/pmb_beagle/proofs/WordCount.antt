-- A text has no more words than bytes, so that the count of its bytes stays below that of a slice.
use Rattle.std.proofs.Common.{◌≤◌, ℕ, ◌+◌, ◌==◌, Bool, List, [], ◌∷◌, length}
use Rattle.std.proofs.Common.{arith, if◌then◌else◌, true, false}
use Rattle.pmb_words.specs.Parts.{blank, longer, pieces, with_bytes, words}

longer_few : (byte : ℕ) (texts : List (List ℕ))
    → length (with_bytes (longer byte texts)) ≤ 1 + length (with_bytes texts)
longer_few byte [] = omega arith
longer_few byte ([] ∷ texts) = omega arith
longer_few byte ((other ∷ text) ∷ texts) = omega arith

few_if : (is_blank : Bool) (byte : ℕ) (texts : List (List ℕ)) (most : ℕ) → length (with_bytes texts) ≤ most
    → length (with_bytes (if is_blank then [] ∷ texts else longer byte texts)) ≤ 1 + most
few_if true byte texts most few = omega arith
few_if false byte texts most few =
    let more = longer_few byte texts in
    omega arith

pub few_words : (text : List ℕ) → length (words text) ≤ length text
few_words [] = omega arith
few_words (byte ∷ text) =
    let few = few_if (byte == blank) byte (pieces blank text) (length text) (few_words text) in
    omega arith
