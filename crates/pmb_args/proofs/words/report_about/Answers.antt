use Rattle.std.proofs.Common.{inl, refl}
use Rattle.pmb_args.proofs.words.report_about.Goals as goal

-- It is done once it is told.
pub returns-in-Ok-clause-told : goal.returns-in-Ok-clause-told
returns-in-Ok-clause-told g c = inl refl
