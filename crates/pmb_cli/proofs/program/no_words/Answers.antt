use Rattle.std.proofs.Common.{◌∙◌, ap}
use Rattle.pmb_args.specs.ExitStatus.{code_of}
use Rattle.pmb_cli.proofs.program.no_words.Goals as goal

-- The number is that of the status.
pub returns-clause-memory : goal.returns-clause-memory
returns-clause-memory g c memory = c.code.ensures ∙ ap code_of (c.no_words.ensures.memory memory)

pub returns-clause-others : goal.returns-clause-others
returns-clause-others g c other = c.code.ensures ∙ ap code_of (c.no_words.ensures.others other)
