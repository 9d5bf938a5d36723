-- The page at an index: for `page_at`.
use Rattle.std.proofs.Common.{◌≡◌, ℕ, zero, suc, ◌+◌, ◌<◌, Some, List, ◌++◌, length, map, ap, arith}
use Rattle.std.specs.List.{range_with_len, slice_get}
use Rattle.pmb_observed.specs.declared.spot.PageKey.{PageKey}
use Rattle.pmb_observed.specs.declared.spot.PageKey.TheVariants.{OnPage}

-- one of the device's own
pub own_page : (a n i page : ℕ) (others : List PageKey) → i < n → page ≡ a + i
    → slice_get (map OnPage (range_with_len a n) ++ others) i ≡ Some (OnPage page)
own_page a zero i page others within is = absurd (omega (arith, within))
own_page a (suc n) zero page others within is = ap (λ (p : ℕ). Some (OnPage p)) (omega (arith, is))
own_page a (suc n) (suc i) page others within is =
    own_page (a + 1) n i page others (omega (arith, within)) (omega (arith, is))

-- one of those after them
pub later_page : (a n i k : ℕ) (others : List PageKey) → i ≡ n + k
    → slice_get (map OnPage (range_with_len a n) ++ others) i ≡ slice_get others k
later_page a zero i k others is = ap (slice_get others) (omega (arith, is))
later_page a (suc n) zero k others is = absurd (omega (arith, is))
later_page a (suc n) (suc i) k others is = later_page (a + 1) n i k others (omega (arith, is))

-- how many there are
pub count_of_pages : (a n : ℕ) (others : List PageKey)
    → length (map OnPage (range_with_len a n) ++ others) ≡ n + length others
count_of_pages a zero others = omega arith
count_of_pages a (suc n) others = let more = count_of_pages (a + 1) n others in omega (arith, more)
