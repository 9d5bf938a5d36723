use Rattle.std.proofs.Common.{ap, ◌∙◌, None, Some}
use Rattle.pmb_unknown_start.specs.Known.{KnownPaging}
use Rattle.pmb_unknown_start.proofs.Keeping.{page_at}
use Rattle.pmb_unknown_start.proofs.late.Late.page.Goals as goal

pub returns-in-Some : goal.returns-in-Some
returns-in-Some c = λ profile start past seen.
    c.page.ensures ∙ ap (λ (k : KnownPaging). k.page) c.known.ensures
    ∙ page_at profile start past c.args.addr (Some c.in-Some.kept.now) (c.in-Some.ensures profile start past seen)

pub returns-in-None : goal.returns-in-None
returns-in-None c = λ profile start past seen.
    page_at profile start past c.args.addr None (c.in-None.ensures profile start past seen)
