use Rattle.std.proofs.Common.{◌++◌, ◌∷◌, [], List, ℕ, sym, ap, ◌∙◌, append-nil, get_or, take, arith}
use Rattle.std.proofs.lemmas.List.{take_more}
use Rattle.pmb_bus.specs.Event.{canonical_text}
use Rattle.pmb_writer.specs.machine.Legs.{behind_acks, code_on}
use Rattle.pmb_writer.proofs.LegTexts.{acks_behind, code_of_none, code_on-append}
use Rattle.pmb_writer.proofs.text.append_each.Goals as goal

pub loop-byte-init : goal.loop-byte-init
loop-byte-init g c = record {
  text_is = sym (append-nil c.args.text.now.items);
  code_is =
      sym (code_of_none c.args.crc);
  longer = omega arith;
}

pub loop-byte-preserved : goal.loop-byte-preserved
loop-byte-preserved g c =
    let so_far = c.loop-byte.invariant in
    let front : List ℕ = take c.loop-byte.byte-index c.args.bytes.now in
    let next : List ℕ = get_or c.args.bytes.now c.loop-byte.byte-index 0 ∷ [] in
    let more = sym (take_more c.args.bytes.now c.loop-byte.byte-index 0 c.loop-byte-test.true) in record {
      text_is = c.append_next-code.ensures.text
          ∙ (ap (λ (t : List ℕ). t ++ canonical_text (behind_acks next)) so_far.text_is
          ∙ (acks_behind c.args.text.now.items front next
          ∙ ap (λ (bytes : List ℕ). c.args.text.now.items ++ canonical_text (behind_acks bytes)) more));
      code_is = c.append_next-code.ensures.code
          ∙ (ap (λ (code : ℕ). code_on code next) so_far.code_is
          ∙ (sym (code_on-append c.args.crc front next) ∙ ap (code_on c.args.crc) more));
      longer = omega (arith, c.append_next-code.ensures.longer, so_far.longer);
    }
