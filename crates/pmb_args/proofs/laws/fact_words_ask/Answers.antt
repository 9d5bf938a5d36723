use Rattle.pmb_args.proofs.FactWords.{alone_is_nothing, asks_device, asks_digits, asks_late, asks_late_fixed}
use Rattle.pmb_args.proofs.FactWords.{asks_to_go_on, asks_two, bad_device_asks_nothing, bad_digits_ask_nothing}
use Rattle.pmb_args.proofs.laws.fact_words_ask.Goals as goal

pub returns-clause-late : goal.returns-clause-late
returns-clause-late c = asks_late

pub returns-clause-late_fixed : goal.returns-clause-late_fixed
returns-clause-late_fixed c = asks_late_fixed

pub returns-clause-keep_going : goal.returns-clause-keep_going
returns-clause-keep_going c = asks_to_go_on

pub returns-clause-two : goal.returns-clause-two
returns-clause-two c = asks_two

pub returns-clause-digits : goal.returns-clause-digits
returns-clause-digits c = asks_digits

pub returns-clause-device : goal.returns-clause-device
returns-clause-device c = asks_device

pub returns-clause-fixed_alone : goal.returns-clause-fixed_alone
returns-clause-fixed_alone c = alone_is_nothing

pub returns-clause-bad_digits : goal.returns-clause-bad_digits
returns-clause-bad_digits c = bad_digits_ask_nothing

pub returns-clause-bad_device : goal.returns-clause-bad_device
returns-clause-bad_device c = bad_device_asks_nothing
