-- What the loop over pieces says of a `Teller`, in the words of `tell_kept`.
use Rattle.std.proofs.Common.{Err, [], subst, sym}
use Rattle.pmb_io.proofs.RunLemmas.{tool_ran_into}
use Rattle.pmb_fact_stream.specs.Choice.{choice_data}
use Rattle.pmb_fact_stream.specs.Keeping.{setting_under}
use Rattle.pmb_telling.proofs.Running.{tell_failed, tell_ran}
use Rattle.pmb_telling.proofs.run.tell_kept.Goals as goal

pub returns-in-Ok : goal.returns-in-Ok
returns-in-Ok g c =
    let began = c.new-engine.ensures in
    tell_ran g.R.Source.told g.W.Sink.told g.K.Keeper.Keeps c.new-engine.result c.each_piece.new.engine _ _ _
    began.choice began.profile began.bad_words _ _ _ c.into_keeper.result c.into_keeper.ensures c.tally-tally.result
    c.tally-tally.ensures (subst (λ k. g.K.Keeper.Keeps k
    (setting_under (choice_data c.args.choice) c.args.profile.now) []) (sym began.keeper)
    c.requires.begins) c.in-Ok.ensures

pub returns-in-Err : goal.returns-in-Err
returns-in-Err g c =
    let began = c.new-engine.ensures in
    tool_ran_into g.R.Source.told g.W.Sink.told _ _ _ _ (Err c.from.result) c.in-Err.fault c.from.ensures
    (tell_failed g.R.Source.told g.W.Sink.told g.K.Keeper.Keeps c.new-engine.result c.each_piece.new.engine _ _ _
    began.choice began.profile began.bad_words _ _ _ c.into_keeper-in-Err.result c.into_keeper-in-Err.ensures
    c.in-Err.fault c.accepted_bus.ensures c.fronts_are_written.ensures
    c.in-Err.ensures)
