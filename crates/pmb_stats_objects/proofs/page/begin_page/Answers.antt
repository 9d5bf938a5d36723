use Rattle.pmb_stats_objects.specs.Pages.{page_member}
use Rattle.pmb_stats_objects.proofs.Pieces.{braced}
use Rattle.pmb_stats_objects.proofs.page.begin_page.Goals as goal

pub returns-clause-begun : goal.returns-clause-begun
returns-clause-begun g c =
    braced c.args.place (page_member c.args.page) c.args.out.now.items c.append_comma.ensures.text c.begin.ensures.begun
    c.append_page.ensures.member
