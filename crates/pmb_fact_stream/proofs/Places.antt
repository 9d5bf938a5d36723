-- The places of events in the text. For `take_event`. By two laws of `pmb_places`: an event has its
-- word's place, whatever follows in the text, and after all events is the end of the last word.
-- They are premises here, since a body calls the laws.
use Rattle.std.proofs.Common.{◌≡◌, ℕ, ◌+◌, ◌-◌, Some, List, [], ◌∷◌, ◌++◌, length, slice_index_or, sym, ap, ◌∙◌}
use Rattle.std.proofs.Common.{length-append, arith}
use Rattle.std.proofs.lemmas.List.{get_or_past, length-map}
use Rattle.pmb_bus.specs.declared.event.Event.{Event}
use Rattle.pmb_bus.specs.Event.{event_of}
use Rattle.pmb_bus.specs.Text.{EndsBetween, Spells, words}
use Rattle.pmb_places.specs.declared.places.Place.{Place}
use Rattle.pmb_places.specs.Text.{end_of_last_word, place_of_last_word, places_from}
use Rattle.pmb_fact_stream.specs.Spans.{event_place}

-- laws of `pmb_places`: where the last of so many words of a text stands, and that each word has a
-- place
abbrev pub LastWordStands : Type 0
LastWordStands =
    (front text more : List ℕ) (n : ℕ) (other : Place) → EndsBetween front → length (words text) ≡ n + 1
    → slice_index_or (places_from front (text ++ more)) n other ≡ place_of_last_word (front ++ text)

abbrev pub EachWordHasPlace : Type 0
EachWordHasPlace = (front text : List ℕ) → EndsBetween front → length (places_from front text) ≡ length (words text)

-- a word for each event
words_of : (text : List ℕ) (events : List Event) → Spells text events → length (words text) ≡ length events
words_of text events spells = sym (length-map (words text) event_of) ∙ ap length spells ∙ length-map events Some

behind : (n k : ℕ) → (n + k) - n ≡ k
behind n k = omega arith

-- an event whose word is the last so far stands there, whatever follows
pub stands_last : LastWordStands → (read text more : List ℕ) (n : ℕ) (events : List Event) (event : Event)
    → EndsBetween read → Spells text (events ++ event ∷ [])
    → event_place read n (text ++ more) (n + length events) ≡ place_of_last_word (read ++ text)
stands_last law read text more n events event between spells =
    let counted : length (words text) ≡ length events + 1 = words_of text (events ++ event ∷ []) spells
    ∙ length-append events (event ∷ []) in
    ap (λ (k : ℕ). slice_index_or (places_from read (text ++ more)) k (end_of_last_word (read ++ (text ++ more))))
    (behind n (length events))
    ∙ law read text more (length events) (end_of_last_word (read ++ (text ++ more))) between counted

-- after all events is the end of the last word
pub stands_behind_all : EachWordHasPlace → (read text : List ℕ) (n : ℕ) (events : List Event) → EndsBetween read
    → Spells text events
    → event_place read n text (n + length events) ≡ end_of_last_word (read ++ text)
stands_behind_all law read text n events between spells =
    let counted : length (places_from read text) ≡ length events = law read text between
    ∙ words_of text events spells in
    ap (λ (k : ℕ). slice_index_or (places_from read text) k (end_of_last_word (read ++ text)))
    (behind n (length events))
    ∙ get_or_past (places_from read text) (length events) (end_of_last_word (read ++ text)) (omega (arith, counted))
