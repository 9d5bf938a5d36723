-- The page that data belong to is one of the device's pages in the order of output, and comes there once.
use Rattle.std.proofs.Common.{◌≡◌, ℕ, ◌+◌, ◌<◌, Bool, true, false, cond, Option, Some, None, []}
use Rattle.std.proofs.Common.{◌∷◌, arith, eqb, ltb, map, refl, subst, sym, ◌∙◌}
use Rattle.std.proofs.lemmas.Bool.{ltb-true}
use Rattle.std.proofs.lemmas.List.Sums.{sum_by-append}
use Rattle.std.specs.List.{count_by, range_with_len}
use Rattle.pmb_observed.specs.Spot.{page_key, page_keys, same_page}
use Rattle.pmb_observed.specs.declared.spot.PageKey.{PageKey}
use Rattle.pmb_observed.specs.declared.spot.PageKey.TheVariants.{OnPage, AllPages, UnknownPage, Unpaged}
use Rattle.pmb_stats.proofs.Numbered.{absent, within}

-- a page that a device with so many may have
pub data IsPage (pages : ℕ) (key : PageKey) : Type 0 where
  on_page : (page : ℕ) → page < pages → key ≡ OnPage page → IsPage pages key
  all_pages : key ≡ AllPages → IsPage pages key
  unknown_page : key ≡ UnknownPage → IsPage pages key
  unpaged : key ≡ Unpaged → IsPage pages key

pub chosen : {X : Type 0} (P : X → Type 0) (b : Bool) (x y : X) → (b ≡ true → P x) → (b ≡ false → P y)
    → P (cond b x y)
chosen P true x y here other = here refl
chosen P false x y here other = other refl

pub key_is_page : (pages : ℕ) (paged : Bool) (selected : Option ℕ) → IsPage pages (page_key pages paged selected)
key_is_page pages false selected = unpaged refl
key_is_page pages true None = unknown_page refl
key_is_page pages true (Some page) =
    chosen (IsPage pages) (eqb page 255) AllPages _ (λ _. all_pages refl)
    (λ _. chosen (IsPage pages) (ltb page pages) (OnPage page) UnknownPage
    (λ is. on_page page (ltb-true page pages is) refl) (λ _. unknown_page refl))

count_keys : (p : PageKey → Bool) (pages : ℕ)
    → count_by p (page_keys pages)
    ≡ count_by p (map OnPage (range_with_len 0 pages)) + count_by p (AllPages ∷ UnknownPage ∷ Unpaged ∷ [])
count_keys p pages =
    sum_by-append (λ k. cond (p k) 1 0) (map OnPage (range_with_len 0 pages)) (AllPages ∷ UnknownPage ∷ Unpaged ∷ [])

pub comes_once : (pages : ℕ) (key : PageKey) → IsPage pages key → count_by (same_page key) (page_keys pages) ≡ 1
comes_once pages key (on_page page less is) =
    subst (λ k. count_by (same_page k) (page_keys pages) ≡ 1) (sym is)
    (count_keys (same_page (OnPage page)) pages
    ∙ omega (arith, within (same_page (OnPage page)) OnPage page 0 pages (λ other. refl) (omega arith) (omega arith)))
comes_once pages key (all_pages is) =
    subst (λ k. count_by (same_page k) (page_keys pages) ≡ 1) (sym is)
    (count_keys (same_page AllPages) pages
    ∙ omega (arith, absent (same_page AllPages) OnPage (λ page. refl) 0 pages))
comes_once pages key (unknown_page is) =
    subst (λ k. count_by (same_page k) (page_keys pages) ≡ 1) (sym is)
    (count_keys (same_page UnknownPage) pages
    ∙ omega (arith, absent (same_page UnknownPage) OnPage (λ page. refl) 0 pages))
comes_once pages key (unpaged is) =
    subst (λ k. count_by (same_page k) (page_keys pages) ≡ 1) (sym is)
    (count_keys (same_page Unpaged) pages
    ∙ omega (arith, absent (same_page Unpaged) OnPage (λ page. refl) 0 pages))
