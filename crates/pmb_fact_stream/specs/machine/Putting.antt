-- What a stream puts out, as far as what it was given is known.
use Rattle.std.specs.Prelude.{ℕ, Option, List}
use Rattle.pmb_facts.specs.Fact.{FactData}
use Rattle.pmb_io.specs.Engines.{PutsOut}
use Rattle.pmb_keeper.specs.Setting.{Setting}
use Rattle.pmb_fact_stream.specs.declared.stream.Stream.{Stream}
use Rattle.pmb_fact_stream.specs.Before.{Before}
use Rattle.pmb_fact_stream.specs.Stream.{StreamKnows, TellsFacts}

-- Facts are told, by whatever it was given: one text is put out, and a keeper has become another.
abbrev pub PutsFacts : {K : Type 0} → (K → Setting → List FactData → Type 0) → Stream → K → K
    → (Before → List FactData) → Option (List ℕ) → List ℕ → Option (List ℕ) → List ℕ → Type 0
PutsFacts Keeps stream old new facts held_old waiting_old held_new waiting_new =
    PutsOut (λ text. (b : Before) → StreamKnows b stream → TellsFacts Keeps stream old new text (facts b))
    held_old waiting_old held_new waiting_new
