-- The objects of facts: of two lists, of a packet, and their lines. For the law `json_is_the_objects`,
-- and for JsonSpans and Pieces, which go from objects of packets to those of facts. Facts of one packet
-- have the same before them, so what is known where it begins is known to each.
use Rattle.std.proofs.Common.{◌≡◌, ℕ, ◌+◌, Bool, true, false, cond, Option, List, [], ◌∷◌, ◌++◌, filter, flat_map}
use Rattle.std.proofs.Common.{length, map, take, drop, refl, sym, ap, ◌∙◌}
use Rattle.std.specs.List.{AllByRecursion}
use Rattle.std.proofs.lemmas.Grind.{flat_map-append}
use Rattle.std.proofs.lemmas.List.{map-append}
use Rattle.std.proofs.lemmas.List.Elements.{filter-append}
use Rattle.pmb_bus.specs.declared.event.Event.{Event}
use Rattle.pmb_command.specs.Parts.{DeviceParts}
use Rattle.pmb_facts.specs.Fact.{FactData, WhatData, fact_device}
use Rattle.pmb_facts.specs.Fact as kinds
use Rattle.pmb_facts.specs.Object.{object_in, object_of}
use Rattle.pmb_facts.specs.Packets.{fact_at, packet_facts, refused_fact, write_facts}
use Rattle.pmb_fact_stream.specs.Choice.{ChoiceData, gives_others}
use Rattle.pmb_fact_stream.specs.Lines.{fact_line, fact_lines, is_wanted_fact, last_lines, last_lines_of, seen_behind}
use Rattle.pmb_fact_stream.specs.Lines.{told_line}
use Rattle.pmb_fact_stream.specs.declared.telling.Telling.{Telling}
use Rattle.pmb_fact_stream.specs.declared.telling.Telling.TheVariants.{Objects}
use Rattle.pmb_json_objects.specs.Counts.{CountsData, end_objects}
use Rattle.pmb_json_objects.specs.Head.{Head}
use Rattle.pmb_json_objects.specs.Object.{Object, is_wanted, object_lines}
use Rattle.pmb_json_objects.specs.Packets.{packet_objects, starts}
use Rattle.pmb_json_objects.specs.Seen.{SeenData}
use Rattle.pmb_json_text.specs.Member.{object_line}
use Rattle.pmb_places.specs.declared.places.Place.{Place}
use Rattle.pmb_transaction.specs.Transaction.{PartData, RefusedData, TransactionData}
use Rattle.pmb_transaction.specs.Transaction.{Write, Read, Call, Refused, Alert, NoAlert}
use Rattle.pmb_unknown_start.specs.Past.{PastData}
use Rattle.pmb_json.specs.Objects.{objects_of}

-- ---- lists

module _ (choice : ChoiceData) (profile : List DeviceParts) where
  -- that of one fact
  abbrev pub own_object : FactData → Object
  own_object fact = object_in (seen_behind choice profile fact.before) fact

  -- what holds of the objects of two lists holds of those of both
  pub each_of_both_facts : (P : Object → Type 0) (a b : List FactData) → AllByRecursion P (objects_of choice profile a)
      → AllByRecursion P (objects_of choice profile b) → AllByRecursion P (objects_of choice profile (a ++ b))
  each_of_both_facts P [] b first second = second
  each_of_both_facts P (fact ∷ a) b first second = (first.0, each_of_both_facts P a b first.1 second)

-- ---- packets

-- what the law `objects_are_of_facts` says
abbrev pub PacketsHaveObjects : Type 0
PacketsHaveObjects = (seen : SeenData) (place : ℕ → Place) (time : Option (List ℕ)) (n : ℕ) (events : List Event)
    (t : TransactionData) → map (object_in seen) (packet_facts seen.before place time n events t)
    ≡ packet_objects seen place time n events t

module _ (choice : ChoiceData) (profile : List DeviceParts) (before : List PastData) (place : ℕ → Place)
    (time : Option (List ℕ)) where
  abbrev here : FactData → Object
  here = object_in (seen_behind choice profile before)

  writes_here : (part parts : ℕ) (ats : List ℕ) (ps : List PartData)
      → objects_of choice profile (write_facts before place time part parts ats ps)
      ≡ map here (write_facts before place time part parts ats ps)
  writes_here part parts ats [] = refl
  writes_here part parts [] (p ∷ ps) = refl
  writes_here part parts (at ∷ ats) (p ∷ ps) =
      ap (λ (os : List Object). here (fact_at before place time at (kinds.Write part parts p)) ∷ os)
      (writes_here (part + 1) parts ats ps)

  legs_here : (t : RefusedData) (ats : List ℕ)
      → objects_of choice profile (map (refused_fact before place time t) ats)
      ≡ map here (map (refused_fact before place time t) ats)
  legs_here t [] = refl
  legs_here t (at ∷ ats) = ap (λ (os : List Object). here (refused_fact before place time t at) ∷ os) (legs_here t ats)

  refused_here : (t : RefusedData) (ats legs : List ℕ)
      → objects_of choice profile (write_facts before place time 1 (length t.parts + 1) ats t.parts
      ++ map (refused_fact before place time t) legs)
      ≡ map here (write_facts before place time 1 (length t.parts + 1) ats t.parts
      ++ map (refused_fact before place time t) legs)
  refused_here t ats legs =
      let parts = write_facts before place time 1 (length t.parts + 1) ats t.parts in
      let leg = map (refused_fact before place time t) legs in
      map-append (own_object choice profile) parts leg
      ∙ ap (λ (os : List Object). os ++ objects_of choice profile leg) (writes_here 1 (length t.parts + 1) ats t.parts)
      ∙ ap (λ (os : List Object). map here parts ++ os) (legs_here t legs)
      ∙ sym (map-append here parts leg)

  packet_here : (n : ℕ) (events : List Event) (t : TransactionData)
      → objects_of choice profile (packet_facts before place time n events t)
      ≡ map here (packet_facts before place time n events t)
  packet_here n events (Write parts) = writes_here 1 (length parts) (starts n events) parts
  packet_here n events (Read t) = refl
  packet_here n events (Call t) = refl
  packet_here n events (Refused t) =
      refused_here t (starts n events) (take 1 (drop (length t.parts) (starts n events)))
  packet_here n events (Alert t) = refl
  packet_here n events NoAlert = refl

  -- the objects of a packet's facts are those of the packet
  pub packet_is : PacketsHaveObjects → (n : ℕ) (events : List Event) (t : TransactionData)
      → objects_of choice profile (packet_facts before place time n events t)
      ≡ packet_objects (seen_behind choice profile before) place time n events t
  packet_is have n events t =
      packet_here n events t ∙ have (seen_behind choice profile before) place time n events t

-- ---- lines

-- what the law `objects_name_the_device` says
abbrev pub ObjectsNameTheDevice : Type 0
ObjectsNameTheDevice = (seen : SeenData) (head : Head) (what : WhatData)
    → (object_of seen head what).device ≡ fact_device what

-- a line that goes out or doesn't, and those after it
line_then : {A B : Type 0} (wanted : Bool) (f : A → List ℕ) (g : B → List ℕ) (x : A) (y : B) (xs : List A) (ys : List B)
    → f x ≡ g y → flat_map f xs ≡ flat_map g ys
    → flat_map f (cond wanted (x ∷ xs) xs) ≡ flat_map g (cond wanted (y ∷ ys) ys)
line_then true f g x y xs ys first rest =
    ap (λ (l : List ℕ). l ++ flat_map f xs) first ∙ ap (λ (l : List ℕ). g y ++ l) rest
line_then false f g x y xs ys first rest = rest

objects_append : (devices : List ℕ) (a b : List Object)
    → object_lines devices (a ++ b) ≡ object_lines devices a ++ object_lines devices b
objects_append devices a b =
    ap (flat_map (λ (object : Object). object_line object.members))
    (filter-append (λ (object : Object). is_wanted devices object.device) a b)
    ∙ flat_map-append (λ (object : Object). object_line object.members)
    (filter (λ (object : Object). is_wanted devices object.device) a)
    (filter (λ (object : Object). is_wanted devices object.device) b)

module _ (name : ObjectsNameTheDevice) (choice : ChoiceData) (profile : List DeviceParts)
    (is : choice.telling ≡ Objects) where
  abbrev wanted : Object → Bool
  wanted object = is_wanted choice.devices object.device

  abbrev line : Object → List ℕ
  line object = object_line object.members

  pub lines_are : (facts : List FactData)
      → fact_lines choice profile facts ≡ object_lines choice.devices (objects_of choice profile facts)
  lines_are [] = refl
  lines_are (fact ∷ facts) =
      let seen = seen_behind choice profile fact.before in
      let object = own_object choice profile fact in
      let others = filter wanted (objects_of choice profile facts) in
      line_then (is_wanted choice.devices (fact_device fact.what)) (fact_line choice profile) line fact object
      (filter (is_wanted_fact choice profile) facts) others
      (ap (λ (t : Telling). told_line t seen fact.head fact.what) is) (lines_are facts)
      ∙ ap (λ (device : Option ℕ). flat_map line (cond (is_wanted choice.devices device) (object ∷ others) others))
      (sym (name seen fact.head fact.what))

  -- and the last ones
  pub lines_with_last : (facts : List FactData) (counts : CountsData)
      → fact_lines choice profile facts ++ last_lines choice profile counts
      ≡ object_lines choice.devices (objects_of choice profile facts ++ end_objects profile
      (gives_others choice) counts)
  lines_with_last facts counts =
      let objects = objects_of choice profile facts in
      let last = end_objects profile (gives_others choice) counts in
      ap (λ (l : List ℕ). l ++ last_lines choice profile counts) (lines_are facts)
      ∙ ap (λ (t : Telling). object_lines choice.devices objects ++ last_lines_of choice profile t counts) is
      ∙ sym (objects_append choice.devices objects last)
