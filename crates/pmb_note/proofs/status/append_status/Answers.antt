use Rattle.std.proofs.Common.{◌≡◌, length, rules, sym}
use Rattle.pmb_note.proofs.StatusLemmas.{no_register}
use Rattle.pmb_note.proofs.Texts.{called, nothing}
use Rattle.pmb_note.proofs.status.append_status.Goals as goal

pub returns-else-bytes-eq2 : goal.returns-else-bytes-eq2
returns-else-bytes-eq2 g c =
    called (sym (no_register c.args.code c.args.bytes.now (λ (one : length c.args.bytes.now ≡ 1). search rules)
    (λ (two : length c.args.bytes.now ≡ 2). search rules)))
    (nothing 288 c.args.out.now.items)
