use Rattle.std.proofs.Common.{ℕ, List, [], subst, append-nil}
use Rattle.pmb_io.specs.Outgoing.{PutsText}
use Rattle.pmb_profile_text.specs.Table.{bus_text}
use Rattle.pmb_profile_text.proofs.Texts.{on_ok_both, puts_as}
use Rattle.pmb_profile_text.proofs.bus.describe.Goals as goal

-- nothing waits before, and nothing after
pub returns-clause-written : goal.returns-clause-written
returns-clause-written g c =
    let text = bus_text c.args.profile.now.ignored c.args.profile.now.devices in
    let held = (g.W.Sink.told c.args.writer.now).held in
    let put = subst (λ (waiting : List ℕ). PutsText held waiting (g.W.Sink.told c.put_bus.new.writer).held
    c.put_bus.new.waiting.items text) c.new-waiting.ensures c.in_ok-put_bus.ensures.puts in
    let waits = (g.W.Sink.told c.send.new.writer).held in
    on_ok_both c.send.result (λ sent empty.
    c.texts_add_up.ensures.written held waits text
    (subst (λ (waiting : List ℕ). PutsText held [] waits waiting text) empty
    (puts_as _ _ _ _ _ _ (append-nil text) (c.texts_add_up.ensures.both held _ _ [] _ _ text [] put sent))))
    c.send.ensures.ok c.send.ensures.empty
