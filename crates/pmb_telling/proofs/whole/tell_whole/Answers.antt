-- What an engine over a whole input says of a `Teller`, in the words of `tell`.
use Rattle.std.proofs.Common.{◌∙◌, ap}
use Rattle.pmb_keeper.specs.Setting.{IsNothing}
use Rattle.pmb_telling.specs.machine.Standing.{teller_bad_words, teller_choice, teller_profile}
use Rattle.pmb_telling.proofs.Running.{whole_told}
use Rattle.pmb_telling.proofs.whole.tell_whole.Goals as goal

pub returns-in-Ok : goal.returns-in-Ok
returns-in-Ok g c =
    let began = c.in-Some.ensures in
    let lent = c.deref_mut-teller.ensures.value in
    whole_told g.W.Sink.told IsNothing c.deref_mut-teller.result.now c.whole_input.new.engine _ _ _
    (ap (λ e. teller_choice e) lent ∙ began.choice) (ap (λ e. teller_profile e) lent ∙ began.profile)
    (ap (λ e. teller_bad_words e) lent ∙ began.bad_words) c.args.capture.now c.args.writer.now
    c.whole_input.new.writer c.tally.result c.tally.ensures c.in-Ok.ensures
