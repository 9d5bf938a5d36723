use Rattle.std.proofs.Common.{ap, sym, ◌∙◌, List, ℕ, ◌++◌}
use Rattle.pmb_recording.proofs.Puts.{then_last}
use Rattle.pmb_recording.specs.declared.recording.Recording.{Recording}
use Rattle.pmb_beagle.specs.Packets.{add}
use Rattle.pmb_beagle.specs.Views.{transaction_from}
use Rattle.pmb_beagle.proofs.StepLemmas.{begin_is, begins_now, begins_quietly}
use Rattle.pmb_recording.specs.Recording.{with_unit}
use Rattle.std.proofs.Common.{[]}
use Rattle.pmb_beagle.proofs.beagle.Beagle.begin.Goals as goal

-- Nothing is cut, and then the transaction is added.
pub returns-clause-puts : goal.returns-clause-puts
returns-clause-puts g c =
    let b = c.args.self.now in
    let time = c.args.time.now in
    let t = transaction_from c.args.t.now in
    let more = (add (record b { recording = c.begin.new.self }) t).text in
    then_last c.texts_add_up.ensures.both c.add.result _ _ _ _ _ _ _ _ _ c.in_ok-begin.ensures.puts c.add.ensures.puts
    (ap (λ (text : List ℕ). text ++ more) (begins_quietly b.recording (with_unit time []) c.requires.none)
    ∙ ap (λ (r : Recording). (add (record b { recording = r }) t).text)
    (c.begin.ensures.now ∙ begins_now b.recording time c.requires.none)
    ∙ sym (begin_is b time t c.if-not-t.false))
