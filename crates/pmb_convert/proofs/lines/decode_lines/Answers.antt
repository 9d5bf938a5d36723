use Rattle.pmb_convert.proofs.lines.decode_lines.Goals as goal

pub returns : goal.returns
returns g c = c.convert_lines.ensures
