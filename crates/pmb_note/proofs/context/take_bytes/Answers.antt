use Rattle.std.proofs.Common.{List, ℕ, subst, sym}
use Rattle.pmb_transaction.proofs.ByAddress.{one_byte}
use Rattle.pmb_note.specs.Paging.{after_told}
use Rattle.pmb_note.specs.machine.Standing.{Keeps}
use Rattle.pmb_note.proofs.context.take_bytes.Goals as goal

pub returns-then-is_paging : goal.returns-then-is_paging
returns-then-is_paging c = λ now keeps.
    subst (λ (bytes : List ℕ). Keeps c.take_value.new.pagings c.args.profile.now
    (λ device. after_told device (now device) (record { addr = c.args.addr; code = c.args.code; bytes = bytes })))
    (sym (one_byte c.args.bytes.now c.in-len1.len_at_least c.in-len1.len_below)) (c.take_value.ensures now keeps)
