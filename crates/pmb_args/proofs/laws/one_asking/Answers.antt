use Rattle.clap.specs.Words.{subcommand_of}
use Rattle.pmb_args.specs.Words.{pmb_app}
use Rattle.pmb_args.proofs.AskedOnce.{bad_format, names_none, no_telling, one_asking}
use Rattle.pmb_args.proofs.laws.one_asking.Goals as goal

pub returns-clause-one : goal.returns-clause-one
returns-clause-one c words a b ask also = one_asking c.one_recorder.ensures.one (subcommand_of pmb_app words) a b ask.asks also.asks

pub returns-clause-something : goal.returns-clause-something
returns-clause-something c words asking ask none = none.nothing asking ask.asks

pub returns-clause-not_refused : goal.returns-clause-not_refused
returns-clause-not_refused c words asking ask refused = refused.some ask.no_fault

pub returns-clause-not_told : goal.returns-clause-not_told
returns-clause-not_told c words asking ask telling = no_telling words ask.no_fault telling

pub returns-clause-bad_format : goal.returns-clause-bad_format
returns-clause-bad_format c = bad_format c.one_recorder.ensures.one

pub returns-clause-names_none : goal.returns-clause-names_none
returns-clause-names_none c = names_none
