use Rattle.std.proofs.Common.{Some, ap, sym, ◌∙◌}
use Rattle.pmb_c.specs.Handle.{Under}
use Rattle.pmb_c.proofs.profile.answer_under.Goals as goal

-- the work is done under the profile that is lent
pub returns-in-Ok-clause-wrote : goal.returns-in-Ok-clause-wrote
returns-in-Ok-clause-wrote c =
    Under c.deref.result.now c.put_whole_under.result (c.in-Ok.ensures.lends ∙ ap Some (sym c.deref.ensures))
    c.put_whole_under.ensures c.of.ensures
