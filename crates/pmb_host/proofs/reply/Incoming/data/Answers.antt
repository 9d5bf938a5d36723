use Rattle.std.proofs.Common.{◌≡◌, ◌-◌, ◌∙◌, ℕ, take, ap, sym, arith}
use Rattle.pmb_command.specs.Wire.{wire_length}
use Rattle.pmb_host.proofs.Replies.{front_is_wire}
use Rattle.pmb_host.proofs.reply.Incoming.data.Goals as goal

pub data_within-requires : goal.data_within-requires
data_within-requires c =
    let found = c.in-Some.ensures.lookup.0 in
    let bytes_are = c.as_slice.ensures.value in
    let length_is = c.wire_length.ensures.length ∙ ap (wire_length c.args.self.now.form) (sym bytes_are) in
    let front = front_is_wire c.args.self.now.form c.as_slice.result.now c.wire_length.result length_is found.1 in
    let none : c.wire_length.result - 0 ≡ c.wire_length.result = omega arith in
    (front.0, found.2 ∙ ap (λ (n : ℕ). take n c.as_slice.result.now) none ∙ front.1)
