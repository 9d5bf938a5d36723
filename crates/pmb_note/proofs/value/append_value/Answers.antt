use Rattle.std.proofs.Common.{◌++◌, List, ℕ, ap, arith}
use Rattle.pmb_note.specs.Note.{data_text}
use Rattle.pmb_note.proofs.Texts.{at_most, called, then}
use Rattle.pmb_note.proofs.value.append_value.Goals as goal

pub returns : goal.returns
returns g c =
    let said = data_text c.args.device.now.vout_direct c.args.mode c.args.entry.now.code c.args.entry.now.kind
    c.args.bytes.now in
    called (ap (λ (name : List ℕ). name ++ said) c.as_str.ensures.value)
    (at_most 320 (omega (arith, c.as_str.ensures.fits)) (then {n = 288} c.append.ensures c.append_data.ensures))
