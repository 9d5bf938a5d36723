use Rattle.std.proofs.Common.{◌∙◌, ap, is_some}
use Rattle.pmb_beagle.proofs.RowLemmas.{begins, copied}
use Rattle.pmb_beagle.proofs.row.begins_with.Goals as goal

pub returns : goal.returns
returns c =
    c.is_some.ensures ∙ copied c.behind.result ∙ ap is_some c.behind.ensures
    ∙ begins c.args.front.now c.args.field.now.is_quoted c.args.field.now.raw.now c.requires
