use Rattle.std.proofs.Common.{sym, ap, ◌∙◌}
use Rattle.std.specs.Option.{option_to_list}
use Rattle.pmb_writer.specs.machine.Legs.{code_on}
use Rattle.pmb_writer.proofs.LegTexts.{code_of_none}
use Rattle.pmb_writer.proofs.text.append_some.Goals as goal

pub returns-in-None-clause-code : goal.returns-in-None-clause-code
returns-in-None-clause-code g c = sym (ap (λ byte. code_on c.args.crc (option_to_list byte)) c.in-None.is
    ∙ code_of_none c.args.crc)
