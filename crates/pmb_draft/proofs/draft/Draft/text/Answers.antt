use Rattle.pmb_draft.proofs.Texts.{is_draft}
use Rattle.pmb_draft.proofs.draft.Draft.text.Goals as goal

pub returns-clause-drafts : goal.returns-clause-drafts
returns-clause-drafts c events seen =
    let parts = c.in-Ok.ensures in
    is_draft events c.args.self.now.seen c.args.self.now.bad c.in-Ok.text.bytes.items parts.0 parts.1 seen parts.2
    c.bytes.result.now c.bytes.ensures c.in_ok-check.ensures.ok
