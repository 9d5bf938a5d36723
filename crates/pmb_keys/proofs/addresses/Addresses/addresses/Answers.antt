use Rattle.std.proofs.Common.{◌≡◌, ◌≤◌, ◌∙◌, ◌++◌, ◌∷◌, [], ap, arith, length, lit<}
use Rattle.pmb_keys.proofs.AddressFlags.{few_marked, marked_to_end, set_next, unset_next}
use Rattle.pmb_keys.specs.machine.Addresses.{marked_below}
use Rattle.pmb_keys.proofs.addresses.Addresses.addresses.Goals as goal
use Rattle.pmb_keys.proofs.addresses.Addresses.addresses.Goals.{then-self-address, else-self-address}

pub push-requires : goal.push-requires
push-requires c =
    let flags = c.self.inside.flags in
    let few : length (marked_below c.loop-address.address flags) ≤ c.loop-address.address =
    few_marked c.loop-address.address flags in
    let count = ap length c.loop-address.invariant in
    (lit< tt, omega arith)

pub loop-address-preserved : goal.loop-address-preserved
loop-address-preserved c =
    let flags = c.self.inside.flags in
    let n = c.loop-address.address in
    elim c.if-self-address.branch [
      | then-self-address w ↦
          ap (λ addresses. addresses.items) w.addresses-is ∙ w.push.ensures.items
          ∙ ap (λ before. before ++ n ∷ []) c.loop-address.invariant ∙ set_next n flags w.if-self-address.true
      | else-self-address w ↦
          ap (λ addresses. addresses.items) w.addresses-is ∙ c.loop-address.invariant
          ∙ unset_next n flags w.if-self-address.false
    ]

pub returns : goal.returns
returns c =
    let all : c.loop-address.address ≡ 128 = omega arith in
    c.loop-address.invariant ∙ marked_to_end c.loop-address.address c.self.inside.flags all ∙ c.self.view_is
