use Rattle.std.proofs.Common.{◌∙◌}
use Rattle.pmb_samples.proofs.NameLemmas.{name_is}
use Rattle.pmb_samples.proofs.name.field_name.Goals as goal

pub returns : goal.returns
returns c = c.name_bytes.ensures ∙ name_is c.args.field.now.is_quoted c.args.field.now.raw.now
