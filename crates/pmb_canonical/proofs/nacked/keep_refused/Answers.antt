use Rattle.std.proofs.Common.{◌≡◌, false, [], ◌∷◌, sym, ◌∙◌, arith}
use Rattle.pmb_bus.specs.Address.{write_address}
use Rattle.pmb_canonical.proofs.Beginnings.{not_there}
use Rattle.pmb_canonical.proofs.RefusedLegs.{address_leg, byte_leg, byte_says, not_known, refused_sent}
use Rattle.pmb_canonical.proofs.Wires.{small_items}
use Rattle.pmb_canonical.proofs.nacked.keep_refused.Goals as goal

pub returns-then-before-gt-PARTS-clause-found : goal.returns-then-before-gt-PARTS-clause-found
returns-then-before-gt-PARTS-clause-found c says =
    absurd (omega (arith, says.few, c.part_count-before.ensures, c.if-before-gt-PARTS.true))

-- ---- an address

pub returns-then-has_part_at-clause-found : goal.returns-then-has_part_at-clause-found
returns-then-has_part_at-clause-found c says =
    absurd (not_known c.args.profile.now c.args.kept.now.parts c.args.bytes.now c.in-Some.address [] says
    c.in-Some.ensures.says.1
    (sym c.has_part_at.ensures ∙ c.if-has_part_at.true))

pub returns-in-Some-clause-keeps : goal.returns-in-Some-clause-keeps
returns-in-Some-clause-keeps c is = record {
  address = c.in-Some.address;
  sent = [];
  is = c.end_refused.ensures ∙ refused_sent c.args.kept.now.parts c.in-Some.address [] false;
  few = omega (arith, c.part_count-before.ensures, c.if-before-gt-PARTS.false);
  another = sym c.has_part_at.ensures ∙ c.if-has_part_at.false;
  refused = address_leg c.args.profile.now c.args.kept.now.parts c.in-Some.address c.args.bytes.now
      c.in-Some.ensures.says.0 c.in-Some.ensures.says.1;
}

-- ---- a byte

pub returns-in_default-refused_byte-clause-found : goal.returns-in_default-refused_byte-clause-found
returns-in_default-refused_byte-clause-found c says =
    let none : c.args.bytes.now ≡ write_address says.address ∷ [] → ⊥ =
    λ is. not_there c.refused_address.result (c.refused_address.ensures.found says.address is) c.in_default.not-Some in
    let byte = byte_says c.args.profile.now c.args.kept.now.parts says.address c.args.bytes.now none says.refused in
    absurd (not_there c.refused_byte.result (c.refused_byte.ensures.found c.args.kept.now.parts says.address byte.0
    (sym c.part_count-before.ensures) byte.1) c.in_default-refused_byte.not-Some)

pub returns-then-has_part_at-2-clause-found : goal.returns-then-has_part_at-2-clause-found
returns-then-has_part_at-2-clause-found c says =
    let sent = c.in-Some-refused_byte.sent in
    let own = c.in-Some-refused_byte.ensures.says c.args.kept.now.parts (sym c.part_count-before.ensures) in
    absurd (not_known c.args.profile.now c.args.kept.now.parts c.args.bytes.now sent.address sent.bytes.now says
    own.spelled
    (sym c.has_part_at-2.ensures ∙ c.if-has_part_at-2.true))

pub returns-clause-keeps : goal.returns-clause-keeps
returns-clause-keeps c is =
    let sent = c.in-Some-refused_byte.sent in
    let own = c.in-Some-refused_byte.ensures.says c.args.kept.now.parts (sym c.part_count-before.ensures) in
    record {
      address = sent.address;
      sent = sent.bytes.now;
      is = c.end_refused-2.ensures ∙ refused_sent c.args.kept.now.parts sent.address sent.bytes.now false;
      few = omega (arith, c.part_count-before.ensures, c.if-before-gt-PARTS.false);
      another = sym c.has_part_at-2.ensures ∙ c.if-has_part_at-2.false;
      refused = byte_leg c.args.profile.now c.args.kept.now.parts sent.address sent.bytes.now c.args.bytes.now
          (small_items c.args.bytes.now (λ k. omega (arith, c.type_inv.bytes k))) own;
    }
