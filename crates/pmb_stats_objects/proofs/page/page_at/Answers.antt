use Rattle.std.proofs.Common.{[], ◌∷◌, ◌∙◌, ◌≡◌, ◌+◌, List, Some, ap, arith, ℕ}
use Rattle.pmb_observed.specs.declared.spot.PageKey.{PageKey}
use Rattle.pmb_observed.specs.declared.spot.PageKey.TheVariants.{AllPages, OnPage, Unpaged, UnknownPage}
use Rattle.pmb_stats_objects.proofs.PageKeys.{counted_page, other_page}
use Rattle.pmb_stats_objects.proofs.page.page_at.Goals as goal

others : List PageKey
others = AllPages ∷ UnknownPage ∷ Unpaged ∷ []

pub returns-then-index-counted : goal.returns-then-index-counted
unfolding others
returns-then-index-counted c =
    let here : 0 + c.args.index ≡ c.args.index = omega arith in
    counted_page 0 c.args.pages c.args.index others (omega (arith, c.if-index-counted.true, c.from-counted.ensures))
    ∙ ap (λ (page : ℕ). Some (OnPage page)) here

pub returns-then-index-counted-2 : goal.returns-then-index-counted-2
unfolding others
returns-then-index-counted-2 c =
    other_page 0 c.args.pages c.args.index 0 others (omega (arith, c.if-index-counted-2.true, c.from-counted.ensures))

pub returns-then-index-counted-3 : goal.returns-then-index-counted-3
unfolding others
returns-then-index-counted-3 c =
    other_page 0 c.args.pages c.args.index 1 others (omega (arith, c.if-index-counted-3.true, c.from-counted.ensures))

pub returns-else-index-counted-3 : goal.returns-else-index-counted-3
unfolding others
returns-else-index-counted-3 c =
    other_page 0 c.args.pages c.args.index 2 others (omega (
      arith,
      c.if-index-counted.false,
      c.if-index-counted-2.false,
      c.if-index-counted-3.false,
      c.requires,
      c.from-counted.ensures,
    ))
