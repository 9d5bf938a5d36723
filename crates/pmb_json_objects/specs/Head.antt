-- Where an object begins, and the time of its packet.
use Rattle.std.specs.Prelude.{ℕ, Option, List, option_map}
use Rattle.pmb_io.specs.Count.{capped}
use Rattle.pmb_places.specs.declared.places.Place.{Place}
use Rattle.pmb_json_objects.specs.declared.head.Head.{Head as HeadValue}

-- The number of the object's first event, the place of that one's word, and the time of its packet, where one is
-- known.
pub record Head : Type 0 where
  pub at : ℕ
  pub place : Place
  pub time : Option (List ℕ)

-- that of the event with a number, by the place of each event and the time of its packet
abbrev pub head_at : (ℕ → Place) → Option (List ℕ) → ℕ → Head
head_at place time at = record { at = capped at; place = place at; time = time }

-- what a `Head` of the code stands for
abbrev pub head_of : HeadValue → Head
head_of head = record { at = head.at; place = head.place; time = option_map (λ t. t.now) head.time }
