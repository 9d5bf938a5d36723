use Rattle.std.proofs.Common.{[], ◌∙◌, arith, ap}
use Rattle.pmb_wire_names.specs.Kept.{vec_of}
use Rattle.pmb_wire_names.proofs.NameLemmas.{kept_is}
use Rattle.pmb_wire_names.proofs.names.wanted_name.Goals as goal

pub returns : goal.returns
returns c = ap vec_of (c.kept_bytes.ensures ∙ kept_is [] c.args.name.now (omega arith))
