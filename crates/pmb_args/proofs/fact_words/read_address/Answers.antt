use Rattle.pmb_args.proofs.Addresses.{address_spelled, large_is_no_address, other_is_no_address}
use Rattle.pmb_args.proofs.fact_words.read_address.Goals as goal

pub returns-in-Ok : goal.returns-in-Ok
returns-in-Ok c = address_spelled c.args.word.now c.decode_to_slice.new.out c.decode_to_slice.result
    c.decode_to_slice.ensures.value c.in-Ok.is c.if-bytes-lt128.true

pub returns-in_default : goal.returns-in_default
returns-in_default c = large_is_no_address c.args.word.now c.decode_to_slice.new.out c.decode_to_slice.result
    c.decode_to_slice.ensures.value c.if-bytes-lt128.false

pub returns-in_default-2 : goal.returns-in_default-2
returns-in_default-2 c = other_is_no_address c.args.word.now c.decode_to_slice.new.out c.decode_to_slice.result
    c.decode_to_slice.ensures.value _ c.in_default.is
