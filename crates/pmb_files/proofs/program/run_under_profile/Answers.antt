use Rattle.std.proofs.Common.{◌∙◌, ap, map, refl, sym}
use Rattle.pmb_files.specs.machine.Words.{file_words_of}
use Rattle.pmb_files.proofs.Lists.{cut_at}
use Rattle.pmb_files.proofs.Ran.{headless, only_profile}
use Rattle.pmb_files.proofs.program.run_under_profile.Goals as goal

-- The profile makes no head.
pub returns-in-Err : goal.returns-in-Err
returns-in-Err g c =
    let profiles = c.as_slice.result.now in
    record {
      ran = (
        c.in-Err.status,
        c.code.ensures,
        headless _ _ _ _ _ _ _ _ _ _ c.requires.asks _
            (only_profile (file_words_of c.args.said.now) _ _
            (ap (map (λ name. name.now)) (sym c.as_slice.ensures.value)
            ∙ cut_at (λ name. name.now) profiles 0 _ c.in-len1-up.len_at_least) c.requires.asks.asks.one_profile)
            c.in-Err.ensures.fault refl,
      );
    }
