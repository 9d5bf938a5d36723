use Rattle.std.proofs.Common.{sym, ◌∙◌, ap, Some}
use Rattle.pmb_sample_fields.proofs.TextLemmas.{plain_text, quoted_text}
use Rattle.pmb_sample_fields.proofs.fields.Field.plain.Goals as goal

pub returns-then-contains_quote : goal.returns-then-contains_quote
returns-then-contains_quote c =
    let found = c.args.self.now in
    sym (quoted_text found.is_quoted found.raw.now (sym c.contains_quote.ensures ∙ c.if-contains_quote.true))

pub returns : goal.returns
returns c =
    let found = c.args.self.now in
    ap Some c.trimmed.ensures
    ∙ sym (plain_text found.is_quoted found.raw.now (sym c.contains_quote.ensures ∙ c.if-contains_quote.false))
