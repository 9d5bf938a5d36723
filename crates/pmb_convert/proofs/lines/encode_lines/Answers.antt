use Rattle.pmb_convert.proofs.lines.encode_lines.Goals as goal

pub returns : goal.returns
returns g c = c.convert_lines.ensures
