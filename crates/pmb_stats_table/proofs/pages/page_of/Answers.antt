use Rattle.std.proofs.Common.{◌<◌, Option, ◌∷◌, [], length, sym, subst, arith}
use Rattle.pmb_command.specs.Parts.{DeviceParts}
use Rattle.pmb_observed.specs.declared.spot.PageKey.TheVariants.{AllPages, UnknownPage, Unpaged}
use Rattle.pmb_observed.specs.Spot.{page_keys}
use Rattle.pmb_observed.specs.Told.{pages_of}
use Rattle.pmb_stats_table.proofs.PageKeys.{count_of_pages}
use Rattle.pmb_stats_table.proofs.pages.page_of.Goals as goal

-- the index is one of those pages
pub page_at-requires-clause-within : goal.page_at-requires-clause-within
page_at-requires-clause-within c =
    let within : c.args.index < length (page_keys c.in-Some.device.now.pages) =
    subst (λ (device : Option DeviceParts). c.args.index < length (pages_of device)) (sym c.in-Some.ensures.device)
    c.requires.within in
    omega (
      arith,
      within,
      c.pages.ensures,
      count_of_pages 0 c.in-Some.device.now.pages (AllPages ∷ UnknownPage ∷ Unpaged ∷ []),
    )
