-- The facts of a packet are those that are made of what is kept of its STARTs. For `put_packet`
-- and `put_parts`. At most 17 STARTs are kept, one for each of 16 parts and a refused leg; each
-- fact has the place of its START.
use Rattle.std.proofs.Common.{◌≡◌, ℕ, zero, suc, ◌+◌, ◌<◌, ◌≤◌, Bool, Option, List, [], ◌∷◌, ◌++◌, length, map, take}
use Rattle.std.proofs.Common.{drop}
use Rattle.std.proofs.Common.{get_or, append-nil, refl, sym, ap, ◌∙◌, arith}
use Rattle.std.proofs.lemmas.List.{drop-map, length-map, map-append}
use Rattle.pmb_bus.specs.declared.event.Event.{Event}
use Rattle.pmb_bus.specs.declared.event.Event.TheVariants.{Start, Byte, Ack, Nack, Stop}
use Rattle.pmb_command.specs.Parts.{DeviceParts}
use Rattle.pmb_io.specs.Count.{capped}
use Rattle.pmb_facts.specs.Fact.{FactData, WhatData}
use Rattle.pmb_facts.specs.Fact as fact
use Rattle.pmb_facts.specs.Packets.{fact_at, packet_facts, write_facts}
use Rattle.pmb_json_objects.specs.Packets.{starts}
use Rattle.pmb_places.specs.declared.places.Place.{Place}
use Rattle.pmb_transaction.specs.Capture.{EndsAtFirstStop}
use Rattle.pmb_transaction.specs.Packet.{Packet}
use Rattle.pmb_transaction.specs.declared.part.Part.{Part}
use Rattle.pmb_transaction.specs.Transaction.{part_data, PartData, TransactionData, Write, Read, Call, Refused, Alert}
use Rattle.pmb_transaction.specs.Transaction.{NoAlert}
use Rattle.pmb_unknown_start.specs.Past.{PastData}
use Rattle.pmb_fact_stream.specs.declared.stream.Begun.{Begun}
use Rattle.pmb_fact_stream.specs.machine.Begun.{begun_at, begun_behind, begun_legs}
use Rattle.pmb_fact_stream.specs.machine.Begun.{kept_at, kept_fact, kept_facts, kept_writes}
use Rattle.pmb_fact_stream.proofs.Lists.{same_last, take_behind, take_drop_take}

-- ---- STARTs

behind_one : (n : ℕ) (a : List Event) → (n + 1) + length a ≡ n + suc (length a)
behind_one n a = omega arith

pub starts_append : (n : ℕ) (a b : List Event) → starts n (a ++ b) ≡ starts n a ++ starts (n + length a) b
starts_append n [] b =
    let none : n ≡ n + length {A = Event} [] = omega arith in
    ap (λ (k : ℕ). starts k b) none
starts_append n (Start ∷ a) b = ap (λ (l : List ℕ). n ∷ l)
    (starts_append (n + 1) a b ∙ ap (λ (k : ℕ). starts (n + 1) a ++ starts k b) (behind_one n a))
starts_append n (Byte c ∷ a) b = starts_append (n + 1) a b ∙ ap (λ (k : ℕ). starts (n + 1) a ++ starts k b)
    (behind_one n a)
starts_append n (Ack ∷ a) b = starts_append (n + 1) a b ∙ ap (λ (k : ℕ). starts (n + 1) a ++ starts k b)
    (behind_one n a)
starts_append n (Nack ∷ a) b = starts_append (n + 1) a b ∙ ap (λ (k : ℕ). starts (n + 1) a ++ starts k b)
    (behind_one n a)
starts_append n (Stop ∷ a) b = starts_append (n + 1) a b ∙ ap (λ (k : ℕ). starts (n + 1) a ++ starts k b)
    (behind_one n a)

-- none is the STOP after events
stop_starts_none : (n : ℕ) (front : List Event) (event : Event) → event ≡ Stop
    → starts n (front ++ event ∷ []) ≡ starts n front
stop_starts_none n front event is =
    ap (λ (e : Event). starts n (front ++ e ∷ [])) is ∙ starts_append n front (Stop ∷ []) ∙ append-nil (starts n front)

-- what is kept of one event more
more_kept : (place : ℕ → Place) (n : ℕ) (kept : List ℕ) (event : Event)
    → take 17 (map (begun_at place) (kept ++ starts n (event ∷ [])))
    ≡ begun_behind (take 17 (map (begun_at place) kept)) (capped n) (place n) event
more_kept place n kept Start =
    ap (take 17) (map-append (begun_at place) kept (n ∷ []))
    ∙ sym (take_behind 17 (map (begun_at place) kept) (begun_at place n ∷ []))
more_kept place n kept (Byte b) = ap (λ (l : List ℕ). take 17 (map (begun_at place) l)) (append-nil kept)
more_kept place n kept Ack = ap (λ (l : List ℕ). take 17 (map (begun_at place) l)) (append-nil kept)
more_kept place n kept Nack = ap (λ (l : List ℕ). take 17 (map (begun_at place) l)) (append-nil kept)
more_kept place n kept Stop = ap (λ (l : List ℕ). take 17 (map (begun_at place) l)) (append-nil kept)

pub one_more_kept : (place : ℕ → Place) (n : ℕ) (events : List Event) (event : Event)
    → begun_legs place n (events ++ event ∷ []) ≡ begun_behind (begun_legs place n events) (capped (n + length events))
    (place (n + length events)) event
one_more_kept place n events event =
    ap (λ (l : List ℕ). take 17 (map (begun_at place) l)) (starts_append n events (event ∷ []))
    ∙ more_kept place (n + length events) (starts n events) event

-- ---- parts

module _ (before : List PastData) (time : Option (List ℕ)) where
  -- one part more
  pub one_more_write : (part count i : ℕ) (begun : List Begun) (ps : List PartData) (p : PartData) → i < length ps
      → get_or ps i p ≡ p
      → kept_writes before time part count (take (suc i) begun) (take (suc i) ps)
      ≡ kept_writes before time part count (take i begun) (take i ps) ++ kept_writes before time (part + i) count
      (take 1 (drop i begun)) (p ∷ [])
  one_more_write part count i begun [] p within is = absurd (omega (arith, within))
  one_more_write part count zero [] (q ∷ ps) p within is = refl
  one_more_write part count zero (first ∷ begun) (q ∷ ps) p within is =
      let here : part ≡ part + 0 = omega arith in
      ap (λ (r : PartData). kept_fact before time (fact.Write part count r) first ∷ []) is
      ∙ ap (λ (k : ℕ). kept_fact before time (fact.Write k count p) first ∷ []) here
  one_more_write part count (suc i) [] (q ∷ ps) p within is = refl
  one_more_write part count (suc i) (first ∷ begun) (q ∷ ps) p within is =
      let there : (part + 1) + i ≡ part + suc i = omega arith in
      ap (λ (os : List FactData). kept_fact before time (fact.Write part count q) first ∷ os)
      (one_more_write (part + 1) count i begun ps p (omega (arith, within)) is
      ∙ ap (λ (k : ℕ). kept_writes before time (part + 1) count (take i begun) (take i ps)
      ++ kept_writes before time k count (take 1 (drop i begun)) (p ∷ [])) there)

  -- all of them
  pub all_writes : (part count n : ℕ) (begun : List Begun) (ps : List PartData) → length ps ≤ n
      → kept_writes before time part count (take n begun) (take n ps) ≡ kept_writes before time part count begun ps
  all_writes part count n begun [] few = ap (kept_writes before time part count (take n begun)) (none n)
    where
      none : (n : ℕ) → take {A = PartData} n [] ≡ []
      none zero = refl
      none (suc n) = refl
  all_writes part count zero begun (p ∷ ps) few = absurd (omega (arith, few))
  all_writes part count (suc n) [] (p ∷ ps) few = refl
  all_writes part count (suc n) (first ∷ begun) (p ∷ ps) few =
      ap (λ (os : List FactData). kept_fact before time (fact.Write part count p) first ∷ os)
      (all_writes (part + 1) count n begun ps (omega (arith, few)))

-- one part, at its START
pub one_write : (before : List PastData) (time : Option (List ℕ)) (part count i : ℕ) (begun : List Begun)
    (p : PartData) → kept_at before time i begun (fact.Write part count p)
    ≡ kept_writes before time part count (take 1 (drop i begun)) (p ∷ [])
one_write before time part count i begun p = at_one (drop i begun)
  where
    at_one : (l : List Begun) → map (kept_fact before time (fact.Write part count p)) (take 1 l)
        ≡ kept_writes before time part count (take 1 l) (p ∷ [])
    at_one [] = refl
    at_one (first ∷ l) = refl

-- what is put out of a refused leg after parts
pub refused_kept : (before : List PastData) (time : Option (List ℕ)) (begun : List Begun)
    (parts slice : List Part) (sent told : List ℕ) (n m addr : ℕ) (at_read : Bool) → slice ≡ parts → n ≡ length parts
    → m ≡ length parts → told ≡ sent
    → kept_writes before time 1 (n + 1) begun (map part_data slice)
    ++ kept_at before time m begun (fact.Refused (n + 1) addr told at_read)
    ≡ kept_facts before time begun (Refused (record {
      parts = map part_data parts;
      addr = addr;
      sent = sent;
      at_read =
          at_read;
    }))
refused_kept before time begun parts slice sent told n m addr at_read same count counted said =
    let of = λ (ps : List Part) (i j : ℕ) (bytes : List ℕ).
    kept_writes before time 1 (i + 1) begun (map part_data ps)
    ++ kept_at before time j begun (fact.Refused (i + 1) addr bytes at_read) in
    let all : length parts ≡ length (map part_data parts) = sym (length-map parts part_data) in
    ap (λ (ps : List Part). of ps n m told) same ∙ ap (λ (i : ℕ). of parts i m told) (count ∙ all)
    ∙ ap (λ (j : ℕ). of parts (length (map part_data parts)) j told) (counted ∙ all)
    ∙ ap (of parts (length (map part_data parts)) (length (map part_data parts))) said

module _ (before : List PastData) (place : ℕ → Place) (time : Option (List ℕ)) where
  writes_are : (most part parts : ℕ) (ats : List ℕ) (ps : List PartData) → length ps ≤ most
      → kept_writes before time part parts (take most (map (begun_at place) ats)) ps
      ≡ write_facts before place time part parts ats ps
  writes_are most part parts ats [] few = refl
  writes_are zero part parts ats (p ∷ ps) few = absurd (omega (arith, few))
  writes_are (suc most) part parts [] (p ∷ ps) few = refl
  writes_are (suc most) part parts (at ∷ ats) (p ∷ ps) few =
      ap (λ (os : List FactData). fact_at before place time at (fact.Write part parts p) ∷ os)
      (writes_are most (part + 1) parts ats ps (omega (arith, few)))

  -- the leg after some parts
  leg_is : (index : ℕ) (ats : List ℕ) (what : WhatData) → index + 1 ≤ 17
      → kept_at before time index (take 17 (map (begun_at place) ats)) what
      ≡ map (λ (at : ℕ). fact_at before place time at what) (take 1 (drop index ats))
  leg_is index ats what few =
      ap (map (kept_fact before time what)) (take_drop_take index 1 17 (map (begun_at place) ats) few
      ∙ ap (take 1) (drop-map (begun_at place) index ats))
      ∙ one_is (drop index ats)
    where
      one_is : (l : List ℕ) → map (kept_fact before time what) (take 1 (map (begun_at place) l))
          ≡ map (λ (at : ℕ). fact_at before place time at what) (take 1 l)
      one_is [] = refl
      one_is (at ∷ l) = refl

  -- the first one
  first_is : (n : ℕ) (front rest : List Event) (event : Event) (what : WhatData) → event ≡ Stop
      → front ++ event ∷ [] ≡ Start ∷ rest
      → kept_at before time 0 (begun_legs place n front) what ≡ fact_at before place time n what ∷ []
  first_is n [] rest event what stop begins = absurd (cc (stop, begins))
  first_is n (Start ∷ front) rest event what stop begins = refl
  first_is n (Byte b ∷ front) rest event what stop begins = absurd (cc begins)
  first_is n (Ack ∷ front) rest event what stop begins = absurd (cc begins)
  first_is n (Nack ∷ front) rest event what stop begins = absurd (cc begins)
  first_is n (Stop ∷ front) rest event what stop begins = absurd (cc begins)

  -- ---- packets

  facts_by_kept : (profile : List DeviceParts) (n : ℕ) (front : List Event) (event : Event) (t : TransactionData)
      → event ≡ Stop → Packet profile t (front ++ event ∷ [])
      → kept_facts before time (begun_legs place n front) t ≡ packet_facts before place time n (front ++ event ∷ []) t
  facts_by_kept profile n front event (Write parts) stop packet =
      ap (λ (ats : List ℕ). kept_writes before time 1 (length parts) (take 17 (map (begun_at place) ats)) parts)
      (sym (stop_starts_none n front event stop))
      ∙ writes_are 17 1 (length parts) (starts n (front ++ event ∷ [])) parts (omega (arith, packet.few))
  facts_by_kept profile n front event (Read t) stop packet =
      first_is n front _ event (fact.Read t) stop packet.spelled
  facts_by_kept profile n front event (Call t) stop packet =
      first_is n front _ event (fact.Call t) stop packet.spelled
  facts_by_kept profile n front event (Refused t) stop packet =
      let ats = starts n (front ++ event ∷ []) in
      let refused = fact.Refused (length t.parts + 1) t.addr t.sent t.at_read in
      ap (λ (l : List ℕ). kept_facts before time (take 17 (map (begun_at place) l)) (Refused t))
      (sym (stop_starts_none n front event stop))
      ∙ ap (λ (os : List FactData). os
      ++ kept_at before time (length t.parts) (take 17 (map (begun_at place) ats)) refused)
      (writes_are 17 1 (length t.parts + 1) ats t.parts (omega (arith, packet.few)))
      ∙ ap (λ (os : List FactData). write_facts before place time 1 (length t.parts + 1) ats t.parts ++ os)
      (leg_is (length t.parts) ats refused (omega (arith, packet.few)))
  facts_by_kept profile n front event (Alert t) stop packet =
      first_is n front _ event (fact.Alert t) stop packet.spelled
  facts_by_kept profile n front event NoAlert stop packet =
      first_is n front _ event fact.NoAlert stop packet

  pub packet_by_kept : (profile : List DeviceParts) (n : ℕ) (front : List Event) (event : Event) (t : TransactionData)
      → EndsAtFirstStop (front ++ event ∷ []) → Packet profile t (front ++ event ∷ [])
      → kept_facts before time (begun_legs place n front) t ≡ packet_facts before place time n (front ++ event ∷ []) t
  packet_by_kept profile n front event t ends packet = facts_by_kept profile n front event t
      (same_last front ends.front event Stop ends.split) packet
