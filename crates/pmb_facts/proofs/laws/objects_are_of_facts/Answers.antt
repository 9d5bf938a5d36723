-- By the transaction; parts one after the other, each at the number of its START.
use Rattle.std.proofs.Common.{◌≡◌, ℕ, ◌+◌, Option, List, [], ◌∷◌, ◌++◌, drop, length, map, take, refl, ap, ◌∙◌}
use Rattle.std.proofs.lemmas.List.{map-append}
use Rattle.pmb_bus.specs.declared.event.Event.{Event}
use Rattle.pmb_json_objects.specs.Head.{head_at}
use Rattle.pmb_json_objects.specs.Object.{Object}
use Rattle.pmb_json_objects.specs.Packets.{packet_objects, refused_object, starts, write_object, write_objects}
use Rattle.pmb_json_objects.specs.Seen.{SeenData}
use Rattle.pmb_places.specs.declared.places.Place.{Place}
use Rattle.pmb_transaction.specs.Transaction.{PartData, RefusedData, TransactionData}
use Rattle.pmb_transaction.specs.Transaction.{Write, Read, Call, Refused, Alert, NoAlert}
use Rattle.pmb_facts.specs.Object.{object_in}
use Rattle.pmb_facts.specs.Packets.{packet_facts, refused_fact, write_facts}
use Rattle.pmb_facts.proofs.laws.objects_are_of_facts.Goals as goal

of_parts : (seen : SeenData) (place : ℕ → Place) (time : Option (List ℕ)) (part parts : ℕ) (ats : List ℕ)
    (ps : List PartData) → map (object_in seen) (write_facts seen.before place time part parts ats ps)
    ≡ write_objects seen place time part parts ats ps
of_parts seen place time part parts ats [] = refl
of_parts seen place time part parts [] (p ∷ more) = refl
of_parts seen place time part parts (at ∷ ats) (p ∷ more) =
    ap (λ (objects : List Object). write_object seen (head_at place time at) part parts p ∷ objects)
    (of_parts seen place time (part + 1) parts ats more)

-- the leg that was refused, at the number of its START
of_refused : (seen : SeenData) (place : ℕ → Place) (time : Option (List ℕ)) (t : RefusedData) (ats : List ℕ)
    → map (object_in seen) (map (refused_fact seen.before place time t) ats)
    ≡ map (λ at. refused_object seen (head_at place time at) (length t.parts + 1) t.addr t.sent t.at_read) ats
of_refused seen place time t [] = refl
of_refused seen place time t (at ∷ ats) =
    ap (λ (objects : List Object). refused_object seen (head_at place time at) (length t.parts + 1) t.addr t.sent
    t.at_read ∷ objects) (of_refused seen place time t ats)

of_packet : (seen : SeenData) (place : ℕ → Place) (time : Option (List ℕ)) (n : ℕ) (events : List Event)
    (t : TransactionData) → map (object_in seen) (packet_facts seen.before place time n events t)
    ≡ packet_objects seen place time n events t
of_packet seen place time n events (Write parts) =
    of_parts seen place time 1 (length parts) (starts n events) parts
of_packet seen place time n events (Read t) = refl
of_packet seen place time n events (Call t) = refl
of_packet seen place time n events (Refused t) =
    let ats : List ℕ = starts n events in
    let leg : List ℕ = take 1 (drop (length t.parts) ats) in
    map-append (object_in seen) (write_facts seen.before place time 1 (length t.parts + 1) ats t.parts)
    (map (refused_fact seen.before place time t) leg)
    ∙ ap (λ (objects : List Object). objects ++ map (object_in seen) (map (refused_fact seen.before place time t) leg))
    (of_parts seen place time 1 (length t.parts + 1) ats t.parts)
    ∙ ap (λ (objects : List Object). write_objects seen place time 1 (length t.parts + 1) ats t.parts ++ objects)
    (of_refused seen place time t leg)
of_packet seen place time n events (Alert t) = refl
of_packet seen place time n events NoAlert = refl

pub returns : goal.returns
returns c seen place time n events t = of_packet seen place time n events t
