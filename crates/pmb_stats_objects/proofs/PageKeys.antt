-- The page at an index among those of a device.
use Rattle.std.proofs.Common.{◌≡◌, ◌∙◌, ◌<◌, ◌+◌, ℕ, zero, suc, List, ◌++◌, [], ◌∷◌, Some, ap, arith, length}
use Rattle.std.proofs.Common.{length-append, map}
use Rattle.std.specs.List.{range_with_len, slice_get}
use Rattle.std.proofs.lemmas.List.FromFn.{length-map-range_with_len}
use Rattle.pmb_observed.specs.declared.spot.PageKey.{PageKey}
use Rattle.pmb_observed.specs.declared.spot.PageKey.TheVariants.{AllPages, OnPage, Unpaged, UnknownPage}
use Rattle.pmb_observed.specs.Spot.{page_keys}

-- a page that is counted
pub counted_page : (start n i : ℕ) (others : List PageKey) → i < n
    → slice_get (map OnPage (range_with_len start n) ++ others) i ≡ Some (OnPage (start + i))
counted_page start zero i others within = absurd (omega (arith, within))
counted_page start (suc n) zero others within = ap (λ (page : ℕ). Some (OnPage page)) (omega arith)
counted_page start (suc n) (suc i) others within =
    let next : (start + 1) + i ≡ start + suc i = omega arith in
    counted_page (start + 1) n i others (omega (arith, within)) ∙ ap (λ (page : ℕ). Some (OnPage page)) next

-- .. and one of the others
pub other_page : (start n i k : ℕ) (others : List PageKey) → i ≡ n + k
    → slice_get (map OnPage (range_with_len start n) ++ others) i ≡ slice_get others k
other_page start zero i k others is = let here : i ≡ k = omega (arith, is) in ap (slice_get others) here
other_page start (suc n) zero k others is = absurd (omega (arith, is))
other_page start (suc n) (suc i) k others is = other_page (start + 1) n i k others (omega (arith, is))

pub page_count : (n : ℕ) → length (page_keys n) ≡ n + 3
page_count n =
    let counted : List PageKey = map OnPage (range_with_len 0 n) in
    let all = length-append counted (AllPages ∷ UnknownPage ∷ Unpaged ∷ []) in
    let some = length-map-range_with_len OnPage 0 n in
    omega (arith, all, some)
