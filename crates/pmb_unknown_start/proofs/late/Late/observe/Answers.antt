use Rattle.std.proofs.Common.{subst}
use Rattle.pmb_command.specs.Parts.{DeviceParts}
use Rattle.pmb_transaction.specs.Transaction.{transaction_data}
use Rattle.pmb_transaction.proofs.ByAddress.{observed}
use Rattle.pmb_unknown_start.specs.declared.start.Start.{Start}
use Rattle.pmb_unknown_start.specs.declared.start.Start.TheVariants.{Late}
use Rattle.pmb_unknown_start.specs.Past.{Said}
use Rattle.pmb_unknown_start.specs.machine.Keeping.{Keeps, KeptData, first_kept, kept_after, kept_past}
use Rattle.pmb_unknown_start.proofs.late.Late.observe.Goals as goal

pub returns : goal.returns
returns c = λ profile start past seen.
    let own = c.args.self.now.profile.now in
    let t = transaction_data c.args.transaction.now in
    record {
      profile_is = seen.profile_is;
      start_is = seen.start_is;
      known = observed (kept_past start) c.args.self.now.known.items c.as_mut_slice-known.result.now
          c.take_transaction.new.kept own profile (first_kept start) past (Said t) seen.profile_is seen.known
          c.as_mut_slice-known.ensures.value
          (subst (λ (s : Start). (now : DeviceParts → KeptData) → Keeps c.as_mut_slice-known.result.now own now
          → Keeps c.take_transaction.new.kept own (λ device. kept_after s device (now device) t))
          seen.start_is c.take_transaction.ensures);
      told = observed (kept_past Late) c.args.self.now.told.items c.as_mut_slice-told.result.now
          c.take_transaction-2.new.kept own profile (first_kept Late) past (Said t) seen.profile_is seen.told
          c.as_mut_slice-told.ensures.value c.take_transaction-2.ensures;
    }
