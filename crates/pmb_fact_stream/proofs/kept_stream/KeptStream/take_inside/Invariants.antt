use Rattle.std.proofs.Common.{◌≡◌, ℕ, List, [], ◌∷◌, ◌++◌, length}
use Rattle.pmb_bus.specs.declared.event.Event.{Event}
use Rattle.pmb_bus.specs.declared.event.Event.TheVariants.{Stop}
use Rattle.pmb_bus.specs.Event.{canonical_text}
use Rattle.pmb_bus.specs.Text.{EndsBetween, Spells}
use Rattle.pmb_canonical.specs.Inside.{AreInside}
use Rattle.pmb_io.specs.Engines.{PutsOut}
use Rattle.pmb_reader.specs.Reader.{Open}
use Rattle.pmb_scan.specs.Reached.{Reached}
use Rattle.pmb_fact_stream.specs.declared.kept_stream.KeptStream.{KeptStream}
use Rattle.pmb_fact_stream.specs.Stream.{StreamStands}
use Rattle.pmb_fact_stream.specs.machine.Inside.{WalksOn}
use Rattle.pmb_fact_stream.proofs.kept_stream.KeptStream.take_inside.Given as goal

-- some of the events were taken, the others stand in front, and no write has failed
abbrev pub invariant-loop-event : goal.invariant-loop-event
invariant-loop-event g l = record {
  failures : (g.W.Sink.told l.writer).failures ≡ (g.W.Sink.told l.fn.writer).failures;
  walks : (start : KeptStream g.row.K.Denot) (reached : Reached) (put : List ℕ) (n : ℕ) (inside : List Event)
      → StreamStands g.K.Keeper.Keeps start l.fn.self reached put
      → EndsBetween reached.text → Spells reached.text reached.events → reached.standing ≡ Open n [] → AreInside inside
      → l.fn.text ≡ canonical_text (inside ++ Stop ∷ [])
      → PutsOut (λ more. WalksOn g.K.Keeper.Keeps start l.self reached (put ++ more) n inside l.rest)
      (g.W.Sink.told l.fn.writer).held l.fn.waiting.items (g.W.Sink.told l.writer).held l.waiting.items;
}

abbrev pub decreases-loop-event : goal.decreases-loop-event
decreases-loop-event g l = length l.rest
