use Rattle.std.proofs.Common.{◌≡◌, ◌∙◌, ◌+◌, ◌∷◌, List, ap, drop, map, sym}
use Rattle.std.proofs.lemmas.List.{drop_more}
use Rattle.pmb_command.specs.Parts.{DeviceParts}
use Rattle.pmb_transaction.specs.Transaction.{part_data}
use Rattle.pmb_transaction.specs.declared.part.Part.{Part}
use Rattle.pmb_registers.specs.Apply.{after_part, after_parts}
use Rattle.pmb_registers.specs.State.{InState}
use Rattle.pmb_registers.proofs.registers.Registers.apply_parts.Goals as goal

-- one more part has acted, and the others are left
pub loop-part-preserved : goal.loop-part-preserved
loop-part-preserved c =
    let parts = c.args.parts.now in
    let i = c.loop-part.part-index in
    let part = c.part-item.result in
    let device = c.args.self.now.device in
    let before = c.loop-part.self.state in
    let here : drop i parts ≡ part ∷ drop (i + 1) parts =
    drop_more parts i part c.loop-part-test.true ∙ ap (λ (p : Part). p ∷ drop (i + 1) parts) (sym c.part-item.is) in
    record {
      same_device = ap (λ (s : InState). s.device) c.apply_part.ensures ∙ c.loop-part.invariant.same_device;
      left =
          ap (λ (s : InState). after_parts device (map part_data (drop (i + 1) parts)) s.state) c.apply_part.ensures
          ∙ ap (λ (d : DeviceParts). after_parts device (map part_data (drop (i + 1) parts))
          (after_part d (part_data part) before)) c.loop-part.invariant.same_device
          ∙ ap (λ (ps : List Part). after_parts device (map part_data ps) before) (sym here)
          ∙ c.loop-part.invariant.left;
    }
