use Rattle.std.proofs.Common.{Ok, IsSome, List, arith, inl, inr, subst}
use Rattle.std.specs.List.{AllByRecursion}
use Rattle.pmb_command.specs.Parts.{DeviceParts, device_with}
use Rattle.pmb_table.specs.Profile.{SaysBus}
use Rattle.pmb_parts.proofs.boards.check.Goals as goal

-- what is read of the text is what it has
pub returns-then-has_devices : goal.returns-then-has_devices
returns-then-has_devices c = record {
  bus = c.in-Ok.bus;
  accepted = elim c.in-Ok.ensures.says as (λ _. SaysBus c.args.text.now (Ok c.in-Ok.bus)) [
    | inl memory ↦ absurd (cc)
    | inr says ↦ says
  ];
  short = omega arith;
  each = subst (λ (devices : List DeviceParts). AllByRecursion (λ part. IsSome (device_with part.address devices))
      c.args.parts.now) c.profile.ensures.profile (c.has_devices.ensures c.if-has_devices.true);
}
