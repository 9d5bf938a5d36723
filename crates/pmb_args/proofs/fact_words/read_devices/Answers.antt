use Rattle.std.proofs.Common.{List, lit<, ap, sym, ◌∙◌, subst}
use Rattle.arrayvec.specs.ArrayVec.{ArrayVec}
use Rattle.std.proofs.Common.{ℕ, map, take, ◌+◌}
use Rattle.pmb_args.specs.Facts.{SpellDevices}
use Rattle.pmb_args.proofs.Addresses.{new_at, none_at, room_at, seen_at, told_of}
use Rattle.pmb_args.proofs.fact_words.read_devices.Goals as goal
use Rattle.pmb_args.proofs.fact_words.read_devices.Goals.{then-not-contains, else-not-contains}

-- A word that spells no address ends it.
pub returns-in_err-address : goal.returns-in_err-address
returns-in_err-address c = rw c.from_residual.ensures
    (none_at c.args.words.now c.loop-word.word-index _ c.loop-word-test.true c.in_err-address.ensures)

-- There is room for one that is new.
pub push-requires : goal.push-requires
push-requires c =
    let new = told_of c.contains.result _ c.in_ok-address.address c.deref.result.now c.loop-word.devices.items
    c.contains.ensures.value c.deref.ensures.0 c.if-not-contains.true in (
      lit< tt,
      room_at c.args.words.now c.loop-word.word-index _ c.loop-word-test.true c.loop-word.devices.items
          c.in_ok-address.address c.loop-word.invariant c.in_ok-address.ensures new,
    )

-- Each word adds its address, if it is new.
pub loop-word-preserved : goal.loop-word-preserved
loop-word-preserved c = elim c.if-not-contains.branch [
  | then-not-contains w ↦
      let new = told_of c.contains.result _ c.in_ok-address.address c.deref.result.now c.loop-word.devices.items
      c.contains.ensures.value c.deref.ensures.0 w.if-not-contains.true in
      let added = new_at c.args.words.now c.loop-word.word-index _ c.loop-word-test.true c.loop-word.devices.items
      c.in_ok-address.address c.loop-word.invariant c.in_ok-address.ensures new in
      subst (λ (items : List ℕ). SpellDevices (map (λ word. word.now)
      (take (c.loop-word.word-index + 1) c.args.words.now)) items)
      (sym (ap (λ (devices : ArrayVec ℕ). devices.items) w.devices-is ∙ w.push.ensures.items)) added
  | else-not-contains w ↦
      let seen = told_of c.contains.result _ c.in_ok-address.address c.deref.result.now c.loop-word.devices.items
      c.contains.ensures.value c.deref.ensures.0 w.if-not-contains.false in
      let kept = seen_at c.args.words.now c.loop-word.word-index _ c.loop-word-test.true c.loop-word.devices.items
      c.in_ok-address.address c.loop-word.invariant c.in_ok-address.ensures seen in
      subst (λ (items : List ℕ). SpellDevices (map (λ word. word.now)
      (take (c.loop-word.word-index + 1) c.args.words.now)) items)
      (sym (ap (λ (devices : ArrayVec ℕ). devices.items) w.devices-is)) kept
]
