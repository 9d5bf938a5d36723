use Rattle.std.proofs.Common.{◌≡◌, ◌∙◌, ◌+◌, length, ap, arith, length-append}
use Rattle.pmb_kernel.proofs.WireLemmas.{length_read, put_last, put_there}
use Rattle.pmb_kernel.specs.Transfers.{read_bytes}
use Rattle.pmb_kernel.proofs.wire.put_read.Goals as goal

pub turn-requires : goal.turn-requires
turn-requires c =
    let all : length c.as_mut_slice.result.now ≡ length c.args.wire.now.items + length (read_bytes c.args.bytes.now) =
    ap length c.as_mut_slice.ensures.value ∙ ap length c.push_read.ensures ∙ length-append _ _ in
    omega (arith, length_read c.args.bytes.now)

pub returns-then-at-before : goal.returns-then-at-before
returns-then-at-before c =
    put_there c.args.at (length c.args.bytes.now) (read_bytes c.args.bytes.now) c.args.wire.now.items
    c.push_read.new.wire.items c.as_mut_slice.result.now c.turn.new.wire (omega arith) (length_read c.args.bytes.now)
    c.push_read.ensures c.as_mut_slice.ensures.value c.turn.ensures

pub returns-else-at-before : goal.returns-else-at-before
returns-else-at-before c =
    c.push_read.ensures
    ∙ put_last c.args.at (read_bytes c.args.bytes.now) c.args.wire.now.items (omega arith)
