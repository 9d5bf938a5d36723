use Rattle.std.proofs.Common.{MatchResult, map, subst}
use Rattle.std.specs.List.{All}
use Rattle.pmb_files.specs.Contradictions.{names_of}
use Rattle.pmb_files.specs.Program.{FirstFault, MayBeFine}
use Rattle.pmb_files.specs.machine.Words.{file_words_of}
use Rattle.pmb_files.proofs.Reading.{looked_at_all}
use Rattle.pmb_files.proofs.program.look_at_all.Goals as goal

-- The profile may be fine, and the files were looked at.
pub returns-in-Ok : goal.returns-in-Ok
returns-in-Ok g c =
    let known = g.F.Opener.known c.args.files.now in
    let said = file_words_of c.args.said.now in
    looked_at_all (λ name. name.now) known said.profiles (names_of said) c.look_at-in-Ok.result
    (subst (λ profiles. All (λ name. MayBeFine (known name)) (map (λ name. name.now) profiles))
    c.as_slice.ensures.value c.in-Ok.ensures)
    (subst (λ names. MatchResult c.look_at-in-Ok.result (λ _. All (λ name. MayBeFine (known name)) names)
    (λ found. FirstFault known names found.0.now found.1)) c.names.ensures c.look_at-in-Ok.ensures)
