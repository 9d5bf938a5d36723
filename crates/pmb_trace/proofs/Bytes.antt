-- Bytes of two digits, one after the other: for `read_up_to_closing`.
use Rattle.std.proofs.Common.{◌≡◌, ◌∙◌, ◌==◌, ℕ, true, false, Option, Some, None, List, [], ◌∷◌, ◌++◌}
use Rattle.std.proofs.Common.{refl, ap, append_assoc, arith}
use Rattle.std.proofs.Common.{◌≤◌, ◌+◌, ◌-◌, inl, inr, length, length-drop, slice_index, take, drop}
use Rattle.std.proofs.Math.Seq.{take-length}
use Rattle.std.proofs.lemmas.Bool.{eq-eqb}
use Rattle.std.proofs.lemmas.List.{length-take}
use Rattle.std.proofs.lemmas.Bool.Decides.{eqb_tells}
use Rattle.pmb_words.specs.Numbers.{byte_of}
use Rattle.pmb_trace.specs.Fields.{bytes_up_to_closing, closing, dash, with_byte}

-- bytes behind others
abbrev pub behind : List ℕ → Option (List ℕ) → Option (List ℕ)
behind front (Some bytes) = Some (front ++ bytes)
behind front None = None

pub behind_nothing : (bytes : Option (List ℕ)) → behind [] bytes ≡ bytes
behind_nothing (Some bytes) = refl
behind_nothing None = refl

-- one of them is read
behind_more : (front : List ℕ) (byte : ℕ) (bytes : Option (List ℕ))
    → behind front (with_byte (Some byte) bytes) ≡ behind (front ++ byte ∷ []) bytes
behind_more front byte (Some bytes) = ap Some (simp append_assoc)
behind_more front byte None = refl

-- digits that are none
pub no_byte : (front : List ℕ) (a b c : ℕ) (rest : List ℕ) → byte_of a b ≡ None
    → behind front (bytes_up_to_closing (a ∷ b ∷ c ∷ rest)) ≡ None
no_byte front a b c [] none = elim (eqb_tells c closing) [ inl same ↦ simp (same.0, none) | inr other ↦ simp other.0 ]
no_byte front a b c (d ∷ rest) none =
    elim (eqb_tells c dash) [ inl same ↦ simp (same.0, none) | inr other ↦ simp other.0 ]

-- the last byte
pub last_byte : (front : List ℕ) (a b c byte : ℕ) → byte_of a b ≡ Some byte → (c == closing) ≡ true
    → behind front (bytes_up_to_closing (a ∷ b ∷ c ∷ [])) ≡ Some (front ++ byte ∷ [])
last_byte front a b c byte is closes = simp (closes, is)

pub not_last : (front : List ℕ) (a b c : ℕ) → (c == closing) ≡ false
    → behind front (bytes_up_to_closing (a ∷ b ∷ c ∷ [])) ≡ None
not_last front a b c other = simp other

-- a byte that others follow
next_byte : (front : List ℕ) (a b c d byte : ℕ) (rest : List ℕ) → byte_of a b ≡ Some byte → c ≡ dash
    → behind front (bytes_up_to_closing (a ∷ b ∷ c ∷ d ∷ rest))
    ≡ behind (front ++ byte ∷ []) (bytes_up_to_closing (d ∷ rest))
next_byte front a b c d byte rest is dashes =
    let same : (c == dash) ≡ true = eq-eqb c dash dashes in
    let more = behind_more front byte (bytes_up_to_closing (d ∷ rest)) in
    simp (same, is, more)

-- the same where what follows is part of a slice
next : (front : List ℕ) (a b c byte : ℕ) (more others : List ℕ) → others ≡ more → byte_of a b ≡ Some byte → c ≡ dash
    → (length others == 0) ≡ false
    → behind front (bytes_up_to_closing (a ∷ b ∷ c ∷ more)) ≡ behind (front ++ byte ∷ []) (bytes_up_to_closing others)
next front a b c byte [] [] same is dashes some = cc
next front a b c byte [] (e ∷ others) same is dashes some = cc
next front a b c byte (d ∷ more) others same is dashes some = rw same (next_byte front a b c d byte more is dashes)

pub bytes_more : (front rest : List ℕ) (byte : ℕ) → 3 ≤ length rest
    → byte_of (slice_index rest 0) (slice_index rest 1) ≡ Some byte → slice_index rest 2 ≡ dash
    → (length (take (length rest - 3) (drop 3 rest)) == 0) ≡ false
    → behind front (bytes_up_to_closing rest)
    ≡ behind (front ++ byte ∷ []) (bytes_up_to_closing (take (length rest - 3) (drop 3 rest)))
bytes_more front [] byte long is dashes some = absurd (omega arith)
bytes_more front (a ∷ []) byte long is dashes some = absurd (omega arith)
bytes_more front (a ∷ b ∷ []) byte long is dashes some = absurd (omega arith)
bytes_more front (a ∷ b ∷ c ∷ more) byte long is dashes some =
    let count : length (a ∷ b ∷ c ∷ more) - 3 ≡ length more = omega arith in
    next front a b c byte more (take (length (a ∷ b ∷ c ∷ more) - 3) more)
    (ap (λ (n : ℕ). take n more) count ∙ take-length more) is dashes some

-- what is left of them is shorter
pub short_rest : (rest : List ℕ) → 3 ≤ length rest → length (take (length rest - 3) (drop 3 rest)) + 3 ≤ length rest
short_rest rest long = omega (arith, length-take (length rest - 3) (drop 3 rest), length-drop 3 rest)
