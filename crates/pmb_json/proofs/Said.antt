-- What the facts of spans say, wherever these stand: places, times, numbers of events and what came before
-- them are nothing to it. For the law `pieces_say_the_same`.
use Rattle.std.proofs.Common.{◌≡◌, ℕ, ◌+◌, Option, Some, None, List, [], ◌∷◌, ◌++◌, drop, take, length, map}
use Rattle.std.proofs.Common.{refl, sym, ap, ◌∙◌, arith}
use Rattle.std.proofs.lemmas.List.{map-append}
use Rattle.pmb_bus.specs.declared.event.Event.{Event}
use Rattle.pmb_facts.specs.Fact.{FactData, WhatData}
use Rattle.pmb_facts.specs.Fact as fact
use Rattle.pmb_facts.specs.Packets.{packet_facts, refused_fact, refused_facts, write_facts}
use Rattle.pmb_json_objects.specs.Packets.{starts}
use Rattle.pmb_places.specs.declared.places.Place.{Place}
use Rattle.pmb_spans.specs.Spans.{Span, ReadSpan, RefusedSpan, TruncatedSpan, moved_spans}
use Rattle.pmb_transaction.specs.Transaction.{PartData, RefusedData, TransactionData}
use Rattle.pmb_transaction.specs.Transaction.{Write, Read, Call, Refused, Alert, NoAlert}
use Rattle.pmb_fact_stream.specs.Others.{other_address}
use Rattle.pmb_fact_stream.specs.Spans.{other_or, refused_span, span_facts}
use Rattle.pmb_unknown_start.specs.Past.{PastData, Said}
use Rattle.pmb_json.specs.Cut.{said_in}
use Rattle.pmb_json.specs.Pieces.{Timing}
use Rattle.pmb_json.proofs.Cut.{HoldsAcross}
use Rattle.pmb_json.proofs.Pieces.{as_many_starts, one_of_each}

-- ---- lists

pub said_in_both : (a b : List FactData) → said_in (a ++ b) ≡ said_in a ++ said_in b
said_in_both a b = map-append (λ (fact : FactData). fact.what) a b

pub both_say_the_same : (a b c d : List FactData) → said_in a ≡ said_in b → said_in c ≡ said_in d
    → said_in (a ++ c) ≡ said_in (b ++ d)
both_say_the_same a b c d first second =
    said_in_both a c
    ∙ ap (λ (l : List WhatData). l ++ said_in c) first
    ∙ ap (λ (l : List WhatData). said_in b ++ l) second
    ∙ sym (said_in_both b d)

-- ---- packets

module _ (x y : List PastData) (place there : ℕ → Place) (time theirs : Option (List ℕ)) where
  parts_say : (part parts : ℕ) (ats bts : List ℕ) (ps : List PartData) → length ats ≡ length bts
      → said_in (write_facts x place time part parts ats ps) ≡ said_in (write_facts y there theirs part parts bts ps)
  parts_say part parts ats bts [] long = refl
  parts_say part parts [] [] (p ∷ ps) long = refl
  parts_say part parts [] (v ∷ bts) (p ∷ ps) long = absurd (omega arith)
  parts_say part parts (u ∷ ats) [] (p ∷ ps) long = absurd (omega arith)
  parts_say part parts (u ∷ ats) (v ∷ bts) (p ∷ ps) long =
      ap (λ (l : List WhatData). fact.Write part parts p ∷ l) (parts_say (part + 1) parts ats bts ps (omega arith))

  legs_say : (t : RefusedData) (ats bts : List ℕ) → length ats ≡ length bts
      → said_in (map (refused_fact x place time t) ats) ≡ said_in (map (refused_fact y there theirs t) bts)
  legs_say t [] [] long = refl
  legs_say t [] (v ∷ bts) long = absurd (omega arith)
  legs_say t (u ∷ ats) [] long = absurd (omega arith)
  legs_say t (u ∷ ats) (v ∷ bts) long =
      ap (λ (l : List WhatData). fact.Refused (length t.parts + 1) t.addr t.sent t.at_read ∷ l)
      (legs_say t ats bts (omega arith))

  refused_say : (ats bts : List ℕ) (t : RefusedData) → length ats ≡ length bts
      → said_in (refused_facts x place time ats t) ≡ said_in (refused_facts y there theirs bts t)
  refused_say ats bts t long =
      both_say_the_same (write_facts x place time 1 (length t.parts + 1) ats t.parts)
      (write_facts y there theirs 1 (length t.parts + 1) bts t.parts)
      (map (refused_fact x place time t) (take 1 (drop (length t.parts) ats)))
      (map (refused_fact y there theirs t) (take 1 (drop (length t.parts) bts)))
      (parts_say 1 (length t.parts + 1) ats bts t.parts long)
      (legs_say t (take 1 (drop (length t.parts) ats)) (take 1 (drop (length t.parts) bts))
      (one_of_each (length t.parts) ats bts long))

  packet_says : (m n : ℕ) (events : List Event) (t : TransactionData)
      → said_in (packet_facts x place time m events t) ≡ said_in (packet_facts y there theirs n events t)
  packet_says m n events (Write ps) =
      parts_say 1 (length ps) (starts m events) (starts n events) ps (as_many_starts m n events)
  packet_says m n events (Read t) = refl
  packet_says m n events (Call t) = refl
  packet_says m n events (Refused t) = refused_say (starts m events) (starts n events) t (as_many_starts m n events)
  packet_says m n events (Alert t) = refl
  packet_says m n events NoAlert = refl

-- ---- spans

module _ (ignored : Option (List ℕ)) (place there : ℕ → Place) (times theirs : ℕ → Option (List ℕ))
    (lost gone : ℕ → List Event → List PastData) where
  -- an other, or these facts
  either_says : (m n : ℕ) (addr : Option ℕ) (own beside : List FactData) → said_in own ≡ said_in beside
      → said_in (other_or place times m addr own) ≡ said_in (other_or there theirs n addr beside)
  either_says m n None own beside same = same
  either_says m n (Some addr) own beside same = refl

  -- those of spans that are moved
  pub spans_say : (n : ℕ) (spans : List Span) (x y : List PastData)
      → said_in (span_facts ignored place times lost x spans)
      ≡ said_in (span_facts ignored there theirs gone y (moved_spans n spans))
  spans_say n [] x y = refl
  spans_say n (ReadSpan m events t ∷ spans) x y =
      let addr = other_address ignored events in
      let own = packet_facts x place (times m) m events t in
      let beside = packet_facts y there (theirs (n + m)) (n + m) events t in
      both_say_the_same (other_or place times m addr own) (other_or there theirs (n + m) addr beside)
      (span_facts ignored place times lost (x ++ Said t ∷ []) spans)
      (span_facts ignored there theirs gone (y ++ Said t ∷ []) (moved_spans n spans))
      (either_says m (n + m) addr own beside
      (packet_says x y place there (times m) (theirs (n + m)) m (n + m) events t))
      (spans_say n spans (x ++ Said t ∷ []) (y ++ Said t ∷ []))
  spans_say n (RefusedSpan m front event refusal ∷ spans) x y =
      let addr = other_address ignored (front ++ event ∷ []) in
      let own = refused_span place times x m front (Some event) refusal ∷ [] in
      let beside = refused_span there theirs y (n + m) front (Some event) refusal ∷ [] in
      both_say_the_same (other_or place times m addr own) (other_or there theirs (n + m) addr beside)
      (span_facts ignored place times lost (x ++ lost m front) spans)
      (span_facts ignored there theirs gone (y ++ gone (n + m) front) (moved_spans n spans))
      (either_says m (n + m) addr own beside refl)
      (spans_say n spans (x ++ lost m front) (y ++ gone (n + m) front))
  spans_say n (TruncatedSpan m front refusal ∷ spans) x y =
      let addr = other_address ignored front in
      let own = refused_span place times x m front None refusal ∷ [] in
      let beside = refused_span there theirs y (n + m) front None refusal ∷ [] in
      both_say_the_same (other_or place times m addr own) (other_or there theirs (n + m) addr beside)
      (span_facts ignored place times lost x spans) (span_facts ignored there theirs gone y (moved_spans n spans))
      (either_says m (n + m) addr own beside refl) (spans_say n spans x y)

-- those of the same spans, elsewhere
pub spans_say_anywhere : (ignored : Option (List ℕ)) (place there : ℕ → Place) (times theirs : ℕ → Option (List ℕ))
    (lost gone : ℕ → List Event → List PastData) (spans : List Span) (x y : List PastData)
    → said_in (span_facts ignored place times lost x spans) ≡ said_in (span_facts ignored there theirs gone y spans)
spans_say_anywhere ignored place there times theirs lost gone spans x y =
    spans_say ignored place place times times lost lost 0 spans x x
    ∙ sym (spans_say ignored there place theirs times gone lost 0 spans y x)

-- ---- across a cut

abbrev pub SayTheSame : List FactData → List FactData → Type 0
SayTheSame facts others = said_in facts ≡ said_in others

pub same_across : (ignored : Option (List ℕ)) (timing : Timing) (m : ℕ) (before : List PastData)
    → HoldsAcross ignored timing m before SayTheSame
same_across ignored timing m before = record {
  none = refl;
  both = both_say_the_same;
  spans = λ place there times theirs lost gone one same x y is tells spans.
      spans_say ignored place there times theirs lost gone m spans x y;
  word = λ head there tells word. refl;
}
