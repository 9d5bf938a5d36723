use Rattle.std.proofs.Common.{◌∷◌, [], arith}
use Rattle.pmb_observed.specs.declared.spot.PageKey.TheVariants.{AllPages, UnknownPage, Unpaged}
use Rattle.pmb_stats_table.proofs.PageKeys.{count_of_pages}
use Rattle.pmb_stats_table.proofs.pages.device_pages.Goals as goal

pub returns-clause-count : goal.returns-clause-count
returns-clause-count c =
    omega (arith, c.pages.ensures, count_of_pages 0 c.args.device.now.pages (AllPages ∷ UnknownPage ∷ Unpaged ∷ []))
