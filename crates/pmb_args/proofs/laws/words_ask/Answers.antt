use Rattle.pmb_args.proofs.AskedWords.{asks_for_help, asks_for_version, asks_sampled, asks_to_convert, asks_to_scan, asks_unsampled}
use Rattle.pmb_args.proofs.AskedWords.{has_help_fault}
use Rattle.pmb_args.proofs.laws.words_ask.Goals as goal

pub returns-clause-sampled : goal.returns-clause-sampled
returns-clause-sampled c = asks_sampled

pub returns-clause-unsampled : goal.returns-clause-unsampled
returns-clause-unsampled c = asks_unsampled

pub returns-clause-converts : goal.returns-clause-converts
returns-clause-converts c = asks_to_convert

pub returns-clause-scans : goal.returns-clause-scans
returns-clause-scans c = asks_to_scan

pub returns-clause-help : goal.returns-clause-help
returns-clause-help c = asks_for_help

pub returns-clause-version : goal.returns-clause-version
returns-clause-version c = asks_for_version

pub returns-clause-help_words : goal.returns-clause-help_words
returns-clause-help_words c = has_help_fault
