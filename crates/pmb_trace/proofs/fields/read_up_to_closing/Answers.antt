use Rattle.std.proofs.Common.{◌≡◌, ◌∙◌, ◌+◌, ◌-◌, ◌*◌, ◌≤◌, List, ℕ, ap, arith, drop, length, sym, take}
use Rattle.pmb_trace.specs.Fields.{bytes_up_to_closing}
use Rattle.pmb_trace.proofs.Bytes.{behind, behind_nothing, bytes_more, short_rest}
use Rattle.pmb_trace.proofs.fields.read_up_to_closing.Goals as goal

pub loop-rest-init : goal.loop-rest-init
loop-rest-init c = record {
  bytes = sym (ap (λ (b : List ℕ). behind b (bytes_up_to_closing c.args.text.now)) c.requires.none
      ∙ behind_nothing (bytes_up_to_closing c.args.text.now));
  room =
      let none : length c.args.bytes.now.items ≡ 0 = ap length c.requires.none in
      let short : length c.args.text.now ≤ 65540 = c.requires.short in
      omega arith;
}

-- a byte is read, and others follow
pub loop-rest-preserved : goal.loop-rest-preserved
loop-rest-preserved c =
    let rest = c.loop-rest.rest.now in
    let room : 3 * length c.loop-rest.bytes.items + length rest ≤ 65540 = c.loop-rest.invariant.room in
    let len : length c.push.new.self.items ≡ length c.loop-rest.bytes.items + 1 = c.push.ensures.len in
    record {
      bytes = c.loop-rest.invariant.bytes
          ∙ (bytes_more c.loop-rest.bytes.items rest c.in-Some.value c.in-len3-up.len_at_least
          (sym c.in-Some.ensures.value) c.if-separator-ne45.false (sym c.is_empty.ensures ∙ c.if-is_empty.false)
          ∙ ap (λ (b : List ℕ). behind b (bytes_up_to_closing (take (length rest - 3) (drop 3 rest))))
          (sym c.push.ensures.items));
      room = omega (arith, short_rest rest c.in-len3-up.len_at_least);
    }
