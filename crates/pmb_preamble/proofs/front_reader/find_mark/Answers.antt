use Rattle.std.proofs.Common.{◌≤◌, ◌++◌, ◌∷◌, [], ℕ, List, subst, take, get_or, sym, arith}
use Rattle.std.proofs.lemmas.List.{length-take}
use Rattle.pmb_preamble.specs.Front.{HasMark}
use Rattle.pmb_preamble.proofs.Marks.{first_at, none_one_further, ends_in_lf}
use Rattle.pmb_preamble.proofs.front_reader.find_mark.Goals.{then-bytes-i-eq10+in_default, else-bytes-i-eq10}
use Rattle.pmb_preamble.proofs.front_reader.find_mark.Goals as goal

pub returns-in-Some-clause-first : goal.returns-in-Some-clause-first
returns-in-Some-clause-first c =
    let within : c.in-Some.start ≤ c.loop-i.i =
    omega (arith, length-take c.loop-i.i c.args.bytes.now, c.in-Some.ensures.within) in
    first_at c.args.bytes.now c.loop-i.i c.in-Some.start c.loop-i-test.true c.if-bytes-i-eq10.true c.loop-i.invariant
    within c.in-Some.ensures.found

pub loop-i-preserved : goal.loop-i-preserved
loop-i-preserved c =
    let bytes = c.args.bytes.now in
    none_one_further bytes c.loop-i.i c.loop-i-test.true c.loop-i.invariant (elim c.if-bytes-i-eq10.branch [
      | then-bytes-i-eq10+in_default w ↦ subst (λ (byte : ℕ). (before line : List ℕ)
          → HasMark (take c.loop-i.i bytes ++ byte ∷ []) before line [] → ⊥)
          (sym w.if-bytes-i-eq10.true) w.in_default.ensures.none
      | else-bytes-i-eq10 w ↦ λ before line mark. w.if-bytes-i-eq10.false
          (ends_in_lf (take c.loop-i.i bytes) before line (get_or bytes c.loop-i.i 0) mark)
    ])
