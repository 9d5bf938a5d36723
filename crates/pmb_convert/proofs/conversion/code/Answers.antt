use Rattle.std.proofs.Common.{ap, Some, ◌∙◌}
use Rattle.pmb_convert.proofs.Codes.{reads_word, reads_no_word}
use Rattle.pmb_convert.proofs.conversion.code.Goals as goal

pub returns-in-Ok : goal.returns-in-Ok
returns-in-Ok c =
    ap Some c.from_be_bytes.ensures ∙ reads_word c.args.text.now c.decode_to_slice.new.out c.decode_to_slice.result
    c.decode_to_slice.ensures.value c.in-Ok.is

pub returns-in-Err : goal.returns-in-Err
returns-in-Err c = reads_no_word c.args.text.now c.decode_to_slice.new.out c.decode_to_slice.result _
    c.decode_to_slice.ensures.value c.in-Err.is
