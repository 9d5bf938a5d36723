use Rattle.std.proofs.Common.{subst}
use Rattle.pmb_command.specs.Parts.{DeviceParts}
use Rattle.pmb_transaction.proofs.ByAddress.{observed}
use Rattle.pmb_unknown_start.specs.declared.start.Start.{Start}
use Rattle.pmb_unknown_start.specs.declared.start.Start.TheVariants.{Late}
use Rattle.pmb_unknown_start.specs.Past.{Dropped}
use Rattle.pmb_unknown_start.specs.machine.Keeping.{Keeps, KeptData, first_kept, kept_dropped, kept_past}
use Rattle.pmb_unknown_start.proofs.late.Late.drop_line.Goals as goal

pub returns : goal.returns
returns c = λ profile start past seen.
    let own = c.args.self.now.profile.now in
    record {
      profile_is = seen.profile_is;
      start_is = seen.start_is;
      known = observed (kept_past start) c.args.self.now.known.items c.as_mut_slice.result.now
          c.forget_each.new.kept own profile (first_kept start) past Dropped seen.profile_is seen.known
          c.as_mut_slice.ensures.value
          (subst (λ (s : Start). (now : DeviceParts → KeptData) → Keeps c.as_mut_slice.result.now own now
          → Keeps c.forget_each.new.kept own (λ device. kept_dropped s (now device)))
          seen.start_is (c.forget_each.ensures own));
      told = observed (kept_past Late) c.args.self.now.told.items c.as_mut_slice-2.result.now
          c.forget_each-2.new.kept own profile (first_kept Late) past Dropped seen.profile_is seen.told
          c.as_mut_slice-2.ensures.value (c.forget_each-2.ensures own);
    }
