use Rattle.pmb_convert.proofs.Modes.{reads_mode, reads_no_mode}
use Rattle.pmb_convert.proofs.spelling.byte.Goals as goal

pub returns-in-Ok : goal.returns-in-Ok
returns-in-Ok c = reads_mode c.args.text.now c.decode_to_slice.new.out c.decode_to_slice.result
    c.decode_to_slice.ensures.value c.in-Ok.is

pub returns-in-Err : goal.returns-in-Err
returns-in-Err c = reads_no_mode c.args.text.now c.decode_to_slice.new.out c.decode_to_slice.result _
    c.decode_to_slice.ensures.value c.in-Err.is
