use Rattle.std.proofs.Common.{◌+◌, map, take, drop, subst}
use Rattle.std.specs.List.{All}
use Rattle.std.proofs.lemmas.List.{take_all}
use Rattle.pmb_files.specs.Program.{MayBeFine}
use Rattle.pmb_files.proofs.Lists.{cut_at}
use Rattle.pmb_files.proofs.Reading.{looked_bad}
use Rattle.pmb_files.proofs.program.look_at.Goals as goal

-- This is the first.
pub returns-in-Err : goal.returns-in-Err
returns-in-Err g c =
    let names = c.args.names.now in
    let i = c.loop-name.name-index in
    record {
      before = map (λ name. name.now) (take i names);
      after = map (λ name. name.now) (drop (i + 1) names);
      whole = cut_at (λ name. name.now) names i _ c.loop-name-test.true;
      fine = c.loop-name.invariant;
      bad = looked_bad _ _ c.in-Err.fault c.in-Err.ensures;
    }

-- There is none.
pub returns : goal.returns
returns g c =
    subst (λ names. All (λ name. MayBeFine (g.F.Opener.known c.args.files.now name)) (map (λ name. name.now) names))
    (take_all c.loop-name.name-index c.args.names.now c.loop-name-test.false) c.loop-name.invariant
