use Rattle.pmb_transaction.specs.Transaction.{transaction_data}
use Rattle.pmb_transaction.proofs.ByAddress.{observed}
use Rattle.pmb_note.specs.Paging.{after_transaction, first_paging}
use Rattle.pmb_note.proofs.context.Context.observe.Goals as goal

pub returns : goal.returns
returns c = λ profile ts seen. record {
  profile_is = seen.profile_is;
  kept = observed after_transaction c.args.self.now.pagings.items c.as_mut_slice.result.now
      c.take_transaction.new.pagings c.args.self.now.profile.now profile first_paging ts
      (transaction_data c.args.transaction.now)
      seen.profile_is seen.kept c.as_mut_slice.ensures.value c.take_transaction.ensures;
}
