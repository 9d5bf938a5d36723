use Rattle.std.proofs.Common.{pos, ◌<ℤ◌, ◌≤ℤ◌, SFits, rules, arith}
use Rattle.std.specs.Int.{w16}
use Rattle.std.proofs.lemmas.Int.{ints, to_z-of_z}
use Rattle.pmb_format.proofs.DirectRows.{ends_of_rising, ends_of_falling}
use Rattle.pmb_format.proofs.direct.DirectCodes.greatest.Goals as goal
use Rattle.pmb_format.proofs.direct.DirectCodes.greatest.Goals.{then-m-lt0, else-m-lt0}

pub returns : goal.returns
returns c =
    let m_fits : SFits w16 c.m.result = search rules in
    elim c.if-m-lt0.branch [
      | then-m-lt0 w ↦
          let test = simp to_z-of_z at w.if-m-lt0.true in
          let falling : c.m.result <ℤ pos 0 = grind (arith, ints) in
          let ends = ends_of_falling c.args.self.now (rw (← c.m.ensures.value) falling) in
          rw (c.word_at.ensures, w.index-is) ends.is_greatest
      | else-m-lt0 w ↦
          let test = simp to_z-of_z at w.if-m-lt0.false in
          let rising : pos 0 ≤ℤ c.m.result = grind (arith, ints) in
          let ends = ends_of_rising c.args.self.now c.m.ensures.kept.slope (rw (← c.m.ensures.value) rising) in
          rw (c.word_at.ensures, w.index-is) ends.is_greatest
    ]
