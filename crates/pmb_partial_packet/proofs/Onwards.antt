-- The bytes of legs after one event more, and what is kept of them. For `PartialPacket::start`,
-- `begin`, `take` and `take_byte`, by Stands. START begins a leg, a byte makes the last one longer,
-- other events change nothing; legs are in a list with the last one first. 258 bytes of a leg are
-- kept, a body's most.
use Rattle.std.proofs.Common.{◌≡◌, ℕ, ◌%◌, ◌==◌, not, Bool, true, false, Option, Some, None, inl, inr, cond, List, []}
use Rattle.std.proofs.Common.{◌∷◌, ◌++◌, length, reverse, refl, sym, ap, subst, ◌∙◌, arith}
use Rattle.std.specs.List.{find}
use Rattle.std.specs.Option.{option_and_then}
use Rattle.std.proofs.lemmas.List.{length-take-le, reverse-append, take-append-le, take_all}
use Rattle.std.proofs.lemmas.Bool.{cases_lt}
use Rattle.pmb_bus.specs.declared.event.Event.{Event}
use Rattle.pmb_bus.specs.declared.event.Event.TheVariants.{Start, Byte, Ack, Nack, Stop}
use Rattle.pmb_partial_packet.specs.declared.legs.LastLeg.{LastLeg}
use Rattle.pmb_partial_packet.specs.declared.legs.LastLeg.TheVariants.{Written, Read}
use Rattle.pmb_partial_packet.specs.PartialPacket.{behind_address, bytes_of_leg, is_written, leg_or_none, legs}
use Rattle.pmb_partial_packet.specs.machine.KeptLegs.{KeepsLegs, LegsData, address_byte, after_address, after_byte}
use Rattle.pmb_partial_packet.specs.machine.KeptLegs.{after_byte_in, after_start, kept, last_of}

-- ---- what is no byte

leg_goes_on : (event : Event) → bytes_of_leg (event ∷ []) ≡ [] → (events : List Event)
    → bytes_of_leg (events ++ event ∷ []) ≡ bytes_of_leg events
leg_goes_on event none [] = none
leg_goes_on event none (Start ∷ events) = refl
leg_goes_on event none (Byte b ∷ events) = ap (λ (bs : List ℕ). b ∷ bs) (leg_goes_on event none events)
leg_goes_on event none (Ack ∷ events) = leg_goes_on event none events
leg_goes_on event none (Nack ∷ events) = leg_goes_on event none events
leg_goes_on event none (Stop ∷ events) = leg_goes_on event none events

legs_go_on : (event : Event) → bytes_of_leg (event ∷ []) ≡ [] → (events : List Event)
    → legs (events ++ event ∷ []) ≡ legs events ++ legs (event ∷ [])
legs_go_on event none [] = refl
legs_go_on event none (Start ∷ events) =
    let leg : bytes_of_leg (events ++ event ∷ []) ≡ bytes_of_leg events = leg_goes_on event none events in
    let rest : legs (events ++ event ∷ []) ≡ legs events ++ legs (event ∷ []) = legs_go_on event none events in
    cc (leg, rest)
legs_go_on event none (Byte b ∷ events) = legs_go_on event none events
legs_go_on event none (Ack ∷ events) = legs_go_on event none events
legs_go_on event none (Nack ∷ events) = legs_go_on event none events
legs_go_on event none (Stop ∷ events) = legs_go_on event none events

pub backwards : (event : Event) → bytes_of_leg (event ∷ []) ≡ [] → (events : List Event)
    → reverse (legs (events ++ event ∷ [])) ≡ reverse (legs (event ∷ [])) ++ reverse (legs events)
backwards event none events =
    ap (λ (all : List (List ℕ)). reverse all) (legs_go_on event none events)
    ∙ reverse-append (legs events) (legs (event ∷ []))

-- one leg more, the last one first
pub one_leg_more : (events : List Event) → reverse (legs (events ++ Start ∷ [])) ≡ [] ∷ reverse (legs events)
one_leg_more events = backwards Start refl events

-- ---- a byte

-- a leg, before some other ones, with a byte that is the last of all
longer : List (List ℕ) → List ℕ → ℕ → List ℕ
longer [] leg b = leg ++ b ∷ []
longer (next ∷ all) leg b = leg

longer_all : ℕ → List (List ℕ) → List (List ℕ)
longer_all b [] = []
longer_all b (leg ∷ all) = longer all leg b ∷ longer_all b all

longer_behind : (all : List (List ℕ)) (c : ℕ) (leg : List ℕ) (b : ℕ) → c ∷ longer all leg b ≡ longer all (c ∷ leg) b
unfolding longer
longer_behind [] c leg b = refl
longer_behind (next ∷ all) c leg b = refl

leg_at_byte : (events : List Event) (b : ℕ) → bytes_of_leg (events ++ Byte b ∷ [])
    ≡ longer (legs events) (bytes_of_leg events) b
unfolding longer
leg_at_byte [] b = refl
leg_at_byte (Start ∷ events) b = refl
leg_at_byte (Byte c ∷ events) b =
    ap (λ (bs : List ℕ). c ∷ bs) (leg_at_byte events b) ∙ longer_behind (legs events) c (bytes_of_leg events) b
leg_at_byte (Ack ∷ events) b = leg_at_byte events b
leg_at_byte (Nack ∷ events) b = leg_at_byte events b
leg_at_byte (Stop ∷ events) b = leg_at_byte events b

legs_at_byte : (events : List Event) (b : ℕ) → legs (events ++ Byte b ∷ []) ≡ longer_all b (legs events)
unfolding longer_all
legs_at_byte [] b = refl
legs_at_byte (Start ∷ events) b =
    let leg : bytes_of_leg (events ++ Byte b ∷ []) ≡ longer (legs events) (bytes_of_leg events) b =
    leg_at_byte events b in
    let rest : legs (events ++ Byte b ∷ []) ≡ longer_all b (legs events) = legs_at_byte events b in
    cc (leg, rest)
legs_at_byte (Byte c ∷ events) b = legs_at_byte events b
legs_at_byte (Ack ∷ events) b = legs_at_byte events b
legs_at_byte (Nack ∷ events) b = legs_at_byte events b
legs_at_byte (Stop ∷ events) b = legs_at_byte events b

-- the last leg, which stands first, with a byte after it
abbrev pub next_legs : ℕ → List (List ℕ) → List (List ℕ)
next_legs b [] = []
next_legs b (leg ∷ before) = (leg ++ b ∷ []) ∷ before

next_in_front : (b : ℕ) (all : List (List ℕ)) (leg : List ℕ) (before : List (List ℕ))
    → next_legs b ((all ++ leg ∷ []) ++ before) ≡ next_legs b (all ++ leg ∷ []) ++ before
next_in_front b [] leg before = refl
next_in_front b (first ∷ all) leg before = refl

longer_backwards : (b : ℕ) (all : List (List ℕ)) → reverse (longer_all b all) ≡ next_legs b (reverse all)
unfolding longer_all longer
longer_backwards b [] = refl
longer_backwards b (leg ∷ []) = refl
longer_backwards b (leg ∷ next ∷ all) =
    reverse-append (leg ∷ []) (longer_all b (next ∷ all))
    ∙ ap (λ (ls : List (List ℕ)). ls ++ leg ∷ []) (longer_backwards b (next ∷ all))
    ∙ ap (λ (ls : List (List ℕ)). next_legs b ls ++ leg ∷ []) (reverse-append (next ∷ []) all)
    ∙ sym (next_in_front b (reverse all) next (leg ∷ []))
    ∙ ap (λ (ls : List (List ℕ)). next_legs b (ls ++ leg ∷ [])) (sym (reverse-append (next ∷ []) all))
    ∙ ap (λ (ls : List (List ℕ)). next_legs b ls) (sym (reverse-append (leg ∷ []) (next ∷ all)))

pub one_byte_more : (events : List Event) (b : ℕ) → reverse (legs (events ++ Byte b ∷ []))
    ≡ next_legs b (reverse (legs events))
one_byte_more events b = ap (λ (all : List (List ℕ)). reverse all) (legs_at_byte events b)
    ∙ longer_backwards b (legs events)

-- ---- what is kept of the legs

-- what has room after what had room has it after all
pub kept_again : (bytes : List ℕ) (b : ℕ) → kept (kept bytes ++ b ∷ []) ≡ kept (bytes ++ b ∷ [])
kept_again bytes b =
    elim (cases_lt (length bytes) 258) [
      | inl under ↦ ap (λ (bs : List ℕ). kept (bs ++ b ∷ [])) (take_all 258 bytes (omega (arith, under)))
      | inr over ↦
          let full : length (kept bytes) ≡ 258 = length-take-le 258 bytes over in
          take-append-le 258 (kept bytes) (b ∷ []) (omega (arith, full))
          ∙ take_all 258 (kept bytes) (omega (arith, full))
          ∙ sym (take-append-le 258 bytes (b ∷ []) over)
    ]

pub keeps_start : (k : LegsData) (all : List (List ℕ)) → KeepsLegs k all → KeepsLegs (after_start k) ([] ∷ all)
keeps_start k all keeps = record {
  last = refl;
  address = keeps.address;
  written_address =
      keeps.written_address;
  written = keeps.written;
  reply = refl;
}

of_address : (even : Bool) (b : ℕ) (had : Option ℕ) (leg : Option (List ℕ)) → had ≡ option_and_then address_byte leg
    → cond even (Some b) had ≡ option_and_then address_byte (cond even (Some (b ∷ [])) leg)
of_address true b had leg same = refl
of_address false b had leg same = same

of_bytes : (even : Bool) (b : ℕ) (had : List ℕ) (leg : Option (List ℕ)) → had ≡ kept (behind_address (leg_or_none leg))
    → cond even [] had ≡ kept (behind_address (leg_or_none (cond even (Some (b ∷ [])) leg)))
of_bytes true b had leg same = refl
of_bytes false b had leg same = same

no_reply : (even : Bool) (b : ℕ) → [] ≡ kept (behind_address (leg_or_none (cond (not even) (Some (b ∷ [])) None)))
no_reply true b = refl
no_reply false b = refl

keeps_address : (k : LegsData) (before : List (List ℕ)) (b : ℕ) → KeepsLegs k ([] ∷ before)
    → KeepsLegs (after_address k b) ((b ∷ []) ∷ before)
keeps_address k before b keeps =
    record {
      last = refl;
      address = refl;
      written_address = of_address (b % 2 == 0) b k.written_address (find is_written before) keeps.written_address;
      written = of_bytes (b % 2 == 0) b k.written (find is_written before) keeps.written;
      reply = keeps.reply ∙ no_reply (b % 2 == 0) b;
    }

keeps_byte_in : (even : Bool) (k : LegsData) (address : ℕ) (bytes : List ℕ) (before : List (List ℕ)) (b : ℕ)
    → (address % 2 == 0) ≡ even
    → KeepsLegs k ((address ∷ bytes) ∷ before)
    → KeepsLegs (after_byte_in (cond even Written Read) k b) ((address ∷ bytes ++ b ∷ []) ∷ before)
keeps_byte_in true k address bytes before b is keeps =
    let had : k.written ≡ kept bytes = keeps.written ∙ rw is refl in
    record {
      last = rw is refl;
      address = keeps.address;
      written_address = keeps.written_address ∙ rw is refl;
      written = rw is (ap (λ (bs : List ℕ). kept (bs ++ b ∷ [])) had ∙ kept_again bytes b);
      reply = keeps.reply ∙ rw is refl;
    }
keeps_byte_in false k address bytes before b is keeps =
    let had : k.reply ≡ kept bytes = keeps.reply ∙ rw is refl in
    record {
      last = rw is refl;
      address = keeps.address;
      written_address = keeps.written_address ∙ rw is refl;
      written = keeps.written ∙ rw is refl;
      reply = rw is (ap (λ (bs : List ℕ). kept (bs ++ b ∷ [])) had ∙ kept_again bytes b);
    }

keeps_by_leg : (k : LegsData) (all : List (List ℕ)) (b : ℕ) → KeepsLegs k all
    → KeepsLegs (after_byte_in (last_of all) k b) (next_legs b all)
keeps_by_leg k [] b keeps = keeps
keeps_by_leg k ([] ∷ before) b keeps = keeps_address k before b keeps
keeps_by_leg k ((address ∷ bytes) ∷ before) b keeps =
    keeps_byte_in (address % 2 == 0) k address bytes before b refl keeps

pub keeps_byte : (k : LegsData) (all : List (List ℕ)) (b : ℕ) → KeepsLegs k all
    → KeepsLegs (after_byte k b) (next_legs b all)
keeps_byte k all b keeps =
    subst (λ (last : LastLeg). KeepsLegs (after_byte_in last k b) (next_legs b all)) (sym keeps.last)
    (keeps_by_leg k all b keeps)
