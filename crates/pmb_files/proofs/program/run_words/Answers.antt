use Rattle.std.proofs.Common.{◌≡◌, [], map, refl, subst}
use Rattle.pmb_args.specs.Found.{ComeTo}
use Rattle.pmb_args.specs.Words.{faults_of}
use Rattle.pmb_files.specs.machine.Words.{file_words_of}
use Rattle.pmb_files.proofs.Ran.{contradicted}
use Rattle.pmb_files.proofs.program.run_words.Goals as goal

-- The words ask for nothing, and contradict each other.
pub returns-in-Some : goal.returns-in-Some
returns-in-Some g c =
    let come = subst (ComeTo (map (λ word. word.now) c.as_slice.result.now)) c.in-Ok-Nothing.field-0-is
    c.in-Ok-Nothing.ensures in
    let sound : faults_of (file_words_of c.args.said.now).tool ≡ [] =
    subst (λ words. faults_of (map (λ word. word.now) words) ≡ []) c.as_slice.ensures.value come.no_fault in
    record {
      ran = (
        c.report_contradiction.result,
        c.code.ensures,
        contradicted _ _ _ _ _ _ _ _ _ _ c.in-Some.found sound c.in-Some.ensures c.report_contradiction.ensures refl,
      );
    }

-- They ask for something, and contradict each other.
pub returns-in-Some-find_contradiction : goal.returns-in-Some-find_contradiction
returns-in-Some-find_contradiction g c =
    let come = subst (ComeTo (map (λ word. word.now) c.as_slice.result.now)) c.in-Ok-Task.field-0-is
    c.in-Ok-Task.ensures in
    let sound : faults_of (file_words_of c.args.said.now).tool ≡ [] =
    subst (λ words. faults_of (map (λ word. word.now) words) ≡ []) c.as_slice.ensures.value come.1.no_fault in
    record {
      ran = (
        c.report_contradiction-in-Some-find_contradiction.result,
        c.code-in-Some-find_contradiction.ensures,
        contradicted _ _ _ _ _ _ _ _ _ _ c.in-Some-find_contradiction.found sound
            c.in-Some-find_contradiction.ensures c.report_contradiction-in-Some-find_contradiction.ensures refl,
      );
    }
