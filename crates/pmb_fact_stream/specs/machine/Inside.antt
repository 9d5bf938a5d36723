-- How far the events inside a packet were taken, one by one.
use Rattle.std.specs.Prelude.{◌≡◌, ◌≤◌, ℕ, ⊤, List, [], ◌∷◌, ◌++◌, length}
use Rattle.pmb_bus.specs.declared.event.Event.{Event}
use Rattle.pmb_bus.specs.declared.event.Event.TheVariants.{Stop}
use Rattle.pmb_bus.specs.Event.{canonical_text}
use Rattle.pmb_canonical.specs.Inside.{AreInside}
use Rattle.pmb_reader.specs.Reader.{Open}
use Rattle.pmb_scan.specs.Reached.{Reached}
use Rattle.pmb_transaction.specs.Transaction.{TransactionData, Write, Read, Call, Refused, Alert, NoAlert}
use Rattle.pmb_facts.specs.Fact.{FactData}
use Rattle.pmb_keeper.specs.Setting.{Setting}
use Rattle.pmb_fact_stream.specs.declared.kept_stream.KeptStream.{KeptStream}
use Rattle.pmb_fact_stream.specs.Stream.{StreamStands}

-- one START says all of its packet's place: no part of a group comes before another leg
abbrev pub HasOneStart : TransactionData → Type 0
HasOneStart (Write parts) = length parts ≤ 1
HasOneStart (Read t) = ⊤
HasOneStart (Call t) = ⊤
HasOneStart (Refused t) = length t.parts ≡ 0
HasOneStart (Alert t) = ⊤
HasOneStart NoAlert = ⊤

-- after these events of a packet that began after n events, and their canonical text
abbrev pub behind_inside : Reached → ℕ → List Event → Reached
behind_inside reached n inside =
    record reached {
      text = reached.text ++ canonical_text inside;
      events = reached.events ++ inside;
      standing =
          Open n inside;
    }

module _ {K : Type 0} (Keeps : K → Setting → List FactData → Type 0) (start now : KeptStream K) (reached : Reached)
    (put : List ℕ) (n : ℕ) (inside : List Event) (rest : List ℕ) where
  -- Some of them were taken, and the others stand in front, with STOP.
  pub record WalksOn : Type 0 where
    pub front : List Event
    pub back : List Event
    pub split : inside ≡ front ++ back
    pub is_inside : AreInside back
    pub is_rest : rest ≡ canonical_text (back ++ Stop ∷ [])
    pub stands : StreamStands Keeps start now (behind_inside reached n front) put

  -- All were taken, and STOP is left.
  pub record TakenInside : Type 0 where
    pub is_stop : rest ≡ canonical_text (Stop ∷ [])
    pub stands : StreamStands Keeps start now (behind_inside reached n inside) put
