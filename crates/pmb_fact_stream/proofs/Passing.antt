-- An event that ends no packet and is not refused: while events are passed over, and in a packet. For `take_event`.
-- With the first write in what is passed over something is lost (`passes_knows`, `passes_loses`); in a packet nothing
-- is (`keeps_knows`, `keeps_loses`).
use Rattle.std.proofs.Common.{◌≡◌, ℕ, true, false, not, ◌&&◌, Option, List, [], ◌∷◌, ◌++◌}
use Rattle.std.proofs.Common.{refl, sym, ap, ◌∙◌, subst}
use Rattle.std.proofs.lemmas.Bool.{false≢true}
use Rattle.pmb_bus.specs.declared.event.Event.{Event}
use Rattle.pmb_command.specs.Parts.{DeviceParts}
use Rattle.pmb_reader.specs.Reader.{Standing, Open, Held, Passing}
use Rattle.pmb_scan.specs.Reached.{MayGoOn, Reached, behind_event, standing_after}
use Rattle.pmb_fact_stream.specs.declared.stream.Stream.{Stream}
use Rattle.pmb_fact_stream.specs.declared.writes.Writes.{Writes}
use Rattle.pmb_fact_stream.specs.Before.{Before, past_of, with_reached}
use Rattle.pmb_fact_stream.specs.Lost.{dropped_if, has_write}
use Rattle.pmb_fact_stream.specs.Stream.{StreamAt, StreamKnows, stream_profile}
use Rattle.pmb_fact_stream.specs.machine.Knowing.{KeepsUnderWay}
use Rattle.pmb_fact_stream.specs.machine.Losing.{KnowsLost, MayLose, WritesBehind, WritesStandAt}
use Rattle.pmb_fact_stream.proofs.Losing.{keeps_lost, passed_then, passes_lost, past_stays}
use Rattle.pmb_fact_stream.proofs.Standing.{knows_as}

module _ (b : Before) (old : Stream) (reached : Reached) (event : Event) (stands : StreamAt b old reached)
    (may : MayGoOn reached.standing event) where
  -- where it stands while events are passed over
  pub record Passes (standing : Standing) : Type 0 where
    pub loses : MayLose old.writes reached
    pub at : ℕ
    pub is : standing ≡ Passing at

  pub passes_at : (standing : Standing) → KeepsUnderWay b old reached.text standing → MayGoOn standing event
      → KnowsLost old.writes reached standing → old.passing ≡ true → Passes standing
  passes_at (Open n front) keeps may knows passing = absurd (false≢true (sym keeps.reading ∙ passing))
  passes_at (Held n refusal) keeps may knows passing = absurd may
  passes_at (Passing n) keeps may knows passing = record { loses = knows; at = n; is = refl }

  -- .. and in a packet, or between two
  record Keeps (standing : Standing) : Type 0 where
    at : ℕ
    front : List Event
    is : standing ≡ Open at front

  keeps_at : (standing : Standing) → KeepsUnderWay b old reached.text standing → MayGoOn standing event
      → old.passing ≡ false → Keeps standing
  keeps_at (Open n front) keeps may passing = record { at = n; front = front; is = refl }
  keeps_at (Held n refusal) keeps may passing = absurd may
  keeps_at (Passing n) keeps may passing = absurd (false≢true (sym passing ∙ keeps.0))

  -- ---- events are passed over

  module _ (passing : old.passing ≡ true) where
    abbrev pub passes : Passes reached.standing
    passes = passes_at reached.standing stands.packet may stands.loses passing

    abbrev pub taken_so_far : List Event
    taken_so_far = passes.loses.taken

    pub stands_so_far : WritesStandAt (stream_profile old) old.writes taken_so_far
    stands_so_far = subst (λ p. WritesStandAt p old.writes taken_so_far) stands.profile passes.loses.stands

    pub passes_knows : (ignored : Option (List ℕ)) (new : Stream)
        → StreamKnows (record (with_reached ignored b reached) {
          past = (b.past ++ past_of reached)
              ++ dropped_if (not (has_write (stream_profile old) taken_so_far)
              && has_write (stream_profile old) (taken_so_far ++ event ∷ []));
        }) new
        → StreamKnows (record (with_reached ignored b reached) { past = b.past ++ past_of (behind_event reached event) })
        new
    passes_knows ignored new knows =
        knows_as _ _ new refl refl
        (ap (λ (p : List DeviceParts). (b.past ++ past_of reached)
        ++ dropped_if (not (has_write p taken_so_far) && has_write p (taken_so_far ++ event ∷ []))) (sym stands.profile)
        ∙ passed_then old.writes reached b.past event passes.loses) refl knows

    pub passes_loses : (new : Writes) → WritesBehind (stream_profile old) new (taken_so_far ++ event ∷ []) event
        → KnowsLost new (behind_event reached event) (standing_after reached.standing event)
    passes_loses new behind =
        subst (λ (s : Standing). KnowsLost new (behind_event reached event) (standing_after s event)) (sym passes.is)
        (passes_lost old.writes new reached event passes.at passes.loses
        (subst (λ p. WritesBehind p new (taken_so_far ++ event ∷ []) event) (sym stands.profile) behind))

  -- ---- it is one of a packet

  module _ (passing : old.passing ≡ false) where
    abbrev keeps : Keeps reached.standing
    keeps = keeps_at reached.standing stands.packet may passing

    abbrev knows_lost : KnowsLost old.writes reached (Open keeps.at keeps.front)
    knows_lost = subst (λ (s : Standing). KnowsLost old.writes reached s) keeps.is stands.loses

    pub keeps_knows : (ignored : Option (List ℕ)) (new : Stream) → StreamKnows (with_reached ignored b reached) new
        → StreamKnows (record (with_reached ignored b reached) { past = b.past ++ past_of (behind_event reached event) })
        new
    keeps_knows ignored new knows =
        knows_as _ _ new refl refl (past_stays old.writes old.writes reached event b.past keeps.at keeps.front knows_lost)
        refl knows

    pub keeps_loses : (new : Writes)
        → ((events : List Event) → WritesStandAt (stream_profile old) old.writes events
        → WritesStandAt (stream_profile old) new (events ++ event ∷ []))
        → KnowsLost new (behind_event reached event) (standing_after reached.standing event)
    keeps_loses new writes =
        subst (λ (s : Standing). KnowsLost new (behind_event reached event) (standing_after s event)) (sym keeps.is)
        (keeps_lost old.writes new reached event keeps.at keeps.front knows_lost
        (subst (λ p. (events : List Event) → WritesStandAt p old.writes events
        → WritesStandAt p new (events ++ event ∷ [])) (sym stands.profile) writes))
