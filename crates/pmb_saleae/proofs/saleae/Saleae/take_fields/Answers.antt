use Rattle.std.proofs.Common.{arith, ap, length}
use Rattle.pmb_saleae.proofs.FieldLengths.{short_value}
use Rattle.pmb_saleae.proofs.saleae.Saleae.take_fields.Goals as goal

pub take_named-requires-clause-name : goal.take_named-requires-clause-name
take_named-requires-clause-name g c =
    let row = c.args.row.now in
    omega (arith, ap length c.name.ensures, short_value row.columns.name row.line.now, c.requires.short)
