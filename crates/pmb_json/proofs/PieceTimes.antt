-- The times of a piece of a capture beside those of the whole, where the capture is cut behind a STOP:
-- the same where the cut is at a line's end, and else they may be others. For the law
-- `texts_of_pieces_say_no_more`. A gap of the piece is that of the whole with as many words more before
-- it, and what is under way in the piece is under way in the whole, since STOP ends what came before.
use Rattle.std.proofs.Common.{◌≡◌, ℕ, ◌+◌, ◌-◌, ◌≤◌, Option, Some, None, inr, List, [], ◌∷◌, ◌++◌, fold, length}
use Rattle.std.proofs.Common.{sym, ◌∙◌, ap, subst, arith, length-append}
use Rattle.std.proofs.lemmas.List.{length-map}
use Rattle.std.proofs.lemmas.List.Sums.{fold-append}
use Rattle.pmb_bus.specs.declared.event.Event.{Event}
use Rattle.pmb_bus.specs.declared.event.Event.TheVariants.{Start, Byte, Ack, Nack, Stop}
use Rattle.pmb_bus.specs.Event.{event_of}
use Rattle.pmb_bus.specs.Text.{Spells, words}
use Rattle.pmb_transaction.specs.Cut.{EndsWithStop}
use Rattle.pmb_times.specs.Times.{time_at}
use Rattle.pmb_fact_stream.specs.Spans.{event_time}
use Rattle.pmb_fact_stream.specs.UnderWay.{more_under_way, open_time, time_of_some, under_way, up_to_stop}
use Rattle.pmb_json.specs.Pieces.{Timing, TellsNoMore}
use Rattle.pmb_json.proofs.PieceMembers.{TellEach, Tells}

-- one time tells no more than itself
tells_itself : (piece whole : Option (List ℕ)) → whole ≡ piece → TellsNoMore piece whole
tells_itself None whole is = tt
tells_itself (Some time) whole is = is

pub tells_same : (timing : Timing) (piece whole : Option (List ℕ)) → whole ≡ piece → Tells timing piece whole
tells_same timing piece whole is = inr (tells_itself piece whole is)

-- a text has as many words as it spells events
pub as_many_words : (text : List ℕ) (events : List Event) → Spells text events → length (words text) ≡ length events
as_many_words text events spells = omega (
  arith,
  ap length spells,
  length-map (words text) event_of,
  length-map events (λ (e : Event). Some e),
)

-- ---- what is under way

-- at most all events
few_under_way : (own events : List Event) → length (fold more_under_way own events) ≤ length own + length events
few_under_way own [] = omega arith
few_under_way own (Start ∷ events) =
    omega (arith, few_under_way (own ++ Start ∷ []) events, length-append own (Start ∷ []))
few_under_way own (Byte b ∷ events) =
    omega (arith, few_under_way (own ++ Byte b ∷ []) events, length-append own (Byte b ∷ []))
few_under_way own (Ack ∷ events) =
    omega (arith, few_under_way (own ++ Ack ∷ []) events, length-append own (Ack ∷ []))
few_under_way own (Nack ∷ events) =
    omega (arith, few_under_way (own ++ Nack ∷ []) events, length-append own (Nack ∷ []))
few_under_way own (Stop ∷ events) = omega (arith, few_under_way [] events)

module _ (first events : List Event) (stop : EndsWithStop first) where
  -- STOP ends what came before
  none_under_way : under_way first ≡ []
  none_under_way = ap under_way stop.split ∙ fold-append more_under_way [] stop.front (Stop ∷ [])

  same_under_way : under_way (first ++ events) ≡ under_way events
  same_under_way = fold-append more_under_way [] first events
      ∙ ap (λ (own : List Event). fold more_under_way own events) none_under_way

  moved_stop : up_to_stop (first ++ events) ≡ length first + up_to_stop events
  moved_stop = omega (
    arith,
    ap length same_under_way,
    few_under_way [] events,
    length-append first events,
  )

-- ---- a piece

-- of some events, and of none
tells_of_some : (timing : Timing) (events : List Event) (piece whole : Option (List ℕ)) → Tells timing piece whole
    → Tells timing (time_of_some events piece) (time_of_some events whole)
tells_of_some timing [] piece whole tells = inr tt
tells_of_some timing (event ∷ events) piece whole tells = tells

module _ (timing : Timing) (front : List ℕ) (first : List Event) (stop : EndsWithStop first)
    (tells : (back : List ℕ) (k : ℕ) → Tells timing (time_at back k) (time_at (front ++ back) (length first + k))) where
  -- the times of packets
  pub piece_tells : (back : List ℕ) → TellEach timing (length first) (event_time 0 back) (event_time 0 (front ++ back))
  piece_tells back at =
      let near : at - 0 ≡ at = omega arith in
      let far : (length first + at) - 0 ≡ length first + at = omega arith in
      subst (λ (k : ℕ). Tells timing (time_at back k) (time_at (front ++ back) ((length first + at) - 0))) (sym near)
      (subst (λ (k : ℕ). Tells timing (time_at back at) (time_at (front ++ back) k)) (sym far) (tells back at))

  -- that of what is under way
  pub open_tells : (back : List ℕ) (events : List Event)
      → Tells timing (open_time back events) (open_time (front ++ back) (first ++ events))
  open_tells back events =
      let at = up_to_stop events in
      subst (λ (own : List Event). Tells timing (open_time back events)
      (time_of_some own (time_at (front ++ back) (up_to_stop (first ++ events)))))
      (sym (same_under_way first events stop))
      (subst (λ (k : ℕ). Tells timing (open_time back events)
      (time_of_some (under_way events) (time_at (front ++ back) k))) (sym (moved_stop first events stop))
      (tells_of_some timing (under_way events) (time_at back at) (time_at (front ++ back) (length first + at))
      (tells back at)))
