-- Texts that are appended one after the other, each with a bound on how long it is (`Appends`): for nearly all
-- functions of this crate. Two texts appended are one, and their bounds add up.
use Rattle.std.proofs.Common.{◌≡◌, ℕ, ◌+◌, ◌*◌, ◌≤◌, List, [], ◌∷◌, ◌++◌, length, get_or, sym, ap, ◌∙◌, subst}
use Rattle.std.proofs.Common.{append_assoc, arith}
use Rattle.std.proofs.lemmas.List.{append-nil}
use Rattle.pmb_log_data.specs.Appends.{Appends}
use Rattle.pmb_log_data.specs.Data.{of_word}

-- one text, and another after it
pub then : {x y : List ℕ} {m n : ℕ} {a b c : List ℕ} → Appends x m a b → Appends y n b c → Appends (x ++ y) (m + n) a c
then {x} {y} {m} {n} {a} {b} {c} first second = record {
  items = second.items ∙ ap (λ (zs : List ℕ). zs ++ y) first.items ∙ append_assoc a x y;
  longer = omega (arith, first.longer, second.longer);
}

-- a bound that is greater
pub at_most : {x : List ℕ} {m : ℕ} {a b : List ℕ} (n : ℕ) → m ≤ n → Appends x m a b → Appends x n a b
at_most n more all = record { items = all.items; longer = omega (arith, all.longer) }

-- nothing is appended
pub nothing : (n : ℕ) (a : List ℕ) → Appends [] n a a
nothing n a = record { items = sym (append-nil a); longer = omega arith }

-- a text under another name
pub called : {x y : List ℕ} {m : ℕ} {a b : List ℕ} → x ≡ y → Appends x m a b → Appends y m a b
called {x} {y} {m} {a} {b} same all = subst (λ (z : List ℕ). Appends z m a b) same all

-- two bytes are one word
pub two_bytes : (says : ℕ → List ℕ) (word : ℕ) (bytes : List ℕ) → length bytes ≡ 2
    → word ≡ get_or bytes 0 0 + 256 * get_or bytes 1 0 → says word ≡ of_word says bytes
two_bytes says word [] two is = absurd (omega (arith, two))
two_bytes says word (a ∷ []) two is = absurd (omega (arith, two))
two_bytes says word (low ∷ high ∷ []) two is = ap says is
two_bytes says word (a ∷ b ∷ c ∷ bytes) two is = absurd (omega (arith, two))
