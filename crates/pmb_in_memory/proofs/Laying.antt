-- A text laid into a room, piece by piece: for `write_all` of a room. What fits of a piece goes
-- after the pieces before it; the room stays as large as it was, and its end as it is.
use Rattle.std.proofs.Common.{◌≡◌, ◌∙◌, ℕ, suc, ◌-◌, min, List, [], ◌∷◌, ◌++◌, take, drop, length, refl, sym, ap, subst}
use Rattle.std.proofs.Common.{arith}
use Rattle.std.proofs.Math.Seq.{take-nil, drop-nil}
use Rattle.pmb_in_memory.specs.Laid.{laid}

-- the first piece
laid_first : (piece room : List ℕ) (fits : ℕ) → fits ≡ min (length piece) (length room)
    → take fits piece ++ drop fits room ≡ laid piece room
laid_first [] room fits is =
    let none : fits ≡ 0 = omega (arith, is) in
    subst (λ n. take n [] ++ drop n room ≡ laid [] room) (sym none)
    (ap (λ (l : List ℕ). l ++ room) (sym (take-nil (length room))))
laid_first (byte ∷ piece) [] fits is =
    let none : fits ≡ 0 = omega (arith, is) in
    subst (λ n. take n (byte ∷ piece) ++ drop n [] ≡ laid (byte ∷ piece) []) (sym none) refl
laid_first (byte ∷ piece) (other ∷ room) fits is =
    let one_more : fits ≡ suc (min (length piece) (length room)) = omega (arith, is) in
    subst (λ n. take n (byte ∷ piece) ++ drop n (other ∷ room) ≡ laid (byte ∷ piece) (other ∷ room)) (sym one_more)
    (ap (λ (l : List ℕ). byte ∷ l) (laid_first piece room (min (length piece) (length room)) refl))

-- A piece more goes after those before it.
pub laid_more : (text piece room : List ℕ) (kept fits : ℕ) → kept ≡ min (length text) (length room)
    → fits ≡ min (length piece) (length room - kept)
    → take kept (laid text room) ++ (take fits piece ++ drop fits (drop kept (laid text room)))
    ≡ laid (text ++ piece) room
laid_more text piece [] kept fits is_kept is_fits =
    let none_kept : kept ≡ 0 = omega (arith, is_kept) in
    let none_fits : fits ≡ 0 = omega (arith, is_fits) in
    subst (λ k. take k (laid text []) ++ (take fits piece ++ drop fits (drop k (laid text [])))
    ≡ laid (text ++ piece) []) (sym none_kept)
    (subst (λ f. take f piece ++ drop f (laid text []) ≡ laid (text ++ piece) []) (sym none_fits)
    (drop-nil (length text) ∙ sym (drop-nil (length (text ++ piece)))))
laid_more [] piece (byte ∷ room) kept fits is_kept is_fits =
    let none_kept : kept ≡ 0 = omega (arith, is_kept) in
    subst (λ k. take k (laid [] (byte ∷ room)) ++ (take fits piece ++ drop fits (drop k (laid [] (byte ∷ room))))
    ≡ laid piece (byte ∷ room)) (sym none_kept)
    (laid_first piece (byte ∷ room) fits (omega (arith, is_kept, is_fits)))
laid_more (byte ∷ text) piece (other ∷ room) kept fits is_kept is_fits =
    let one_more : kept ≡ suc (min (length text) (length room)) = omega (arith, is_kept) in
    subst (λ k. take k (laid (byte ∷ text) (other ∷ room))
    ++ (take fits piece ++ drop fits (drop k (laid (byte ∷ text) (other ∷ room))))
    ≡ laid (byte ∷ (text ++ piece)) (other ∷ room)) (sym one_more)
    (ap (λ (l : List ℕ). byte ∷ l) (laid_more text piece room (min (length text) (length room)) fits refl
    (omega (arith, is_kept, is_fits))))

-- The room stays as large as it was.
pub laid_length : (text room : List ℕ) → length (laid text room) ≡ length room
laid_length [] room = ap (λ (l : List ℕ). length (l ++ room)) (take-nil (length room))
laid_length (byte ∷ text) [] = refl
laid_length (byte ∷ text) (other ∷ room) = ap suc (laid_length text room)
