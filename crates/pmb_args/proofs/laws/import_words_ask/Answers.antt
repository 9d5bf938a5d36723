use Rattle.pmb_args.proofs.ImportWords.{asks_bus, asks_rate, asks_source, asks_unshifted, bad_rate_asks_nothing}
use Rattle.pmb_args.proofs.ImportWords.{bad_source_asks_nothing, beagle_bus_asks_nothing, unshifted_kernel_asks_nothing}
use Rattle.pmb_args.proofs.laws.import_words_ask.Goals as goal

pub returns-clause-source : goal.returns-clause-source
returns-clause-source c = asks_source

pub returns-clause-bus : goal.returns-clause-bus
returns-clause-bus c = asks_bus

pub returns-clause-unshifted : goal.returns-clause-unshifted
returns-clause-unshifted c = asks_unshifted

pub returns-clause-rate : goal.returns-clause-rate
returns-clause-rate c = asks_rate

pub returns-clause-bad_source : goal.returns-clause-bad_source
returns-clause-bad_source c = bad_source_asks_nothing c.one_recorder.ensures.no_fault

pub returns-clause-bad_rate : goal.returns-clause-bad_rate
returns-clause-bad_rate c = bad_rate_asks_nothing c.one_recorder.ensures.no_fault

pub returns-clause-beagle_bus : goal.returns-clause-beagle_bus
returns-clause-beagle_bus c = beagle_bus_asks_nothing c.one_recorder.ensures.no_fault

pub returns-clause-kernel_unshifted : goal.returns-clause-kernel_unshifted
returns-clause-kernel_unshifted c = unshifted_kernel_asks_nothing c.one_recorder.ensures.no_fault
