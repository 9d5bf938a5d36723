use Rattle.std.proofs.Common.{◌∷◌, [], arith}
use Rattle.pmb_observed.specs.declared.spot.PageKey.TheVariants.{AllPages, UnknownPage, Unpaged}
use Rattle.pmb_stats_table.proofs.PageKeys.{later_page, own_page}
use Rattle.pmb_stats_table.proofs.pages.page_at.Goals as goal

pub returns-then-index-pages : goal.returns-then-index-pages
returns-then-index-pages c =
    own_page 0 c.args.pages c.args.index c.args.index (AllPages ∷ UnknownPage ∷ Unpaged ∷ []) c.if-index-pages.true
    (omega arith)

pub returns-then-index-pages-2 : goal.returns-then-index-pages-2
returns-then-index-pages-2 c =
    later_page 0 c.args.pages c.args.index 0 (AllPages ∷ UnknownPage ∷ Unpaged ∷ [])
    (omega (arith, c.if-index-pages-2.true))

pub returns-then-index-pages-3 : goal.returns-then-index-pages-3
returns-then-index-pages-3 c =
    later_page 0 c.args.pages c.args.index 1 (AllPages ∷ UnknownPage ∷ Unpaged ∷ [])
    (omega (arith, c.if-index-pages-3.true))

pub returns-else-index-pages-3 : goal.returns-else-index-pages-3
returns-else-index-pages-3 c =
    later_page 0 c.args.pages c.args.index 2 (AllPages ∷ UnknownPage ∷ Unpaged ∷ [])
    (omega (arith, c.requires.within, c.if-index-pages.false, c.if-index-pages-2.false, c.if-index-pages-3.false))
