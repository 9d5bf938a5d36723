use Rattle.std.proofs.Common.{sym, ◌∙◌}
use Rattle.pmb_csv.proofs.TextLemmas.{eq_text}
use Rattle.pmb_csv.proofs.fields.Field.is.Goals as goal

pub returns : goal.returns
returns c =
    let found = c.args.self.now in
    c.eq.ensures ∙ sym (eq_text found.is_quoted found.raw.now c.args.text.now c.requires)
