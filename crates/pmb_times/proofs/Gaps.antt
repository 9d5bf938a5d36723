-- Gaps and their times: for the laws. Each word has a time where it has a place, so there are as many
-- times as words; those of a text stay where it goes on, and each is a time.
use Rattle.std.proofs.Common.{◌≡◌, ℕ, zero, suc, ◌+◌, ◌<◌, ◌&&◌, not, Bool, true, false, cond, Option, Some, None}
use Rattle.std.proofs.Common.{IfSome, List, [], ◌∷◌, ◌++◌, fold, get_or, length, refl, sym, ap, ◌∙◌, arith}
use Rattle.std.specs.List.{AllByRecursion}
use Rattle.std.specs.Option.{option_or}
use Rattle.std.proofs.Math.Seq.{get_or-append_seam}
use Rattle.std.proofs.lemmas.Bool.{false≢true}
use Rattle.std.proofs.lemmas.List.{append_assoc, get_or_append_left, length-append, length-map}
use Rattle.pmb_bus.specs.declared.event.Event.{Event}
use Rattle.pmb_bus.specs.Event.{event_of}
use Rattle.pmb_bus.specs.Text.{EndsBetween, Spells, first_run, front_word, in_comment, is_separator, is_word}
use Rattle.pmb_bus.specs.Text.{open_word}
use Rattle.pmb_bus.specs.Text.{words}
use Rattle.pmb_bus.proofs.Words.{blank, blank_in, blank_out, runs_from-cut}
use Rattle.pmb_places.specs.declared.places.Place.{Place}
use Rattle.pmb_places.specs.Places.{place_behind, places_from, word_places}
use Rattle.pmb_places.specs.Text.{begins_word, is_in_word, place_if}
use Rattle.pmb_times.specs.Line.{IsTime, line_time}
use Rattle.pmb_times.specs.Text.{gap_times, line_behind, one_if, time_after, time_at, time_behind, time_from}
use Rattle.pmb_times.specs.Text.{time_of_last_word, times_from, told_by, word_times}
use Rattle.pmb_times.proofs.Bytes.{times_from-append}
use Rattle.pmb_times.proofs.Lines.{line_is}

-- ---- how many there are

one_length : (found : Bool) (time : Option (List ℕ)) (place : Place) → length (one_if found time)
    ≡ length (place_if found place)
one_length true time place = refl
one_length false time place = refl

times_length : (front text : List ℕ) → length (times_from front text) ≡ length (places_from front text)
times_length front [] = refl
times_length front (b ∷ text) =
    let found = begins_word front b in
    let rest = times_length (front ++ b ∷ []) text in
    let first = one_length found (time_behind front) (place_behind front) in
    length-append (one_if found (time_behind front)) (times_from (front ++ b ∷ []) text)
    ∙ omega (arith, first, rest)
    ∙ sym (length-append (place_if found (place_behind front)) (places_from (front ++ b ∷ []) text))

-- each word has a place
abbrev pub EachHasPlace : Type 0
EachHasPlace = (text : List ℕ) → length (word_places text) ≡ length (words text)

module _ (each : (text : List ℕ) → length (word_places text) ≡ length (words text)) where
  -- so each has a time,
  pub counted : (text : List ℕ) → length (word_times text) ≡ length (words text)
  counted text = times_length [] text ∙ each text

  -- and there is one gap more
  pub gaps_counted : (text : List ℕ) → length (gap_times text) ≡ length (words text) + 1
  gaps_counted text = length-append (word_times text) (time_behind text ∷ [])
      ∙ ap (λ (n : ℕ). n + 1) (counted text)

  -- ---- times stay

  -- that of a word that has begun
  at_word : (text more : List ℕ) (k : ℕ) → k < length (words text) → time_at (text ++ more) k
      ≡ get_or (word_times text) k None
  at_word text more k within =
      let here : k < length (word_times text) = omega (arith, counted text) in
      ap (λ (times : List (Option (List ℕ))). get_or (times ++ time_behind (text ++ more) ∷ []) k None)
      (times_from-append [] text more)
      ∙ ap (λ (times : List (Option (List ℕ))). get_or times k None)
      (append_assoc (word_times text) (times_from text more) (time_behind (text ++ more) ∷ []))
      ∙ get_or_append_left (word_times text) (times_from text more ++ time_behind (text ++ more) ∷ []) None k here

  pub stays : (text more : List ℕ) (k : ℕ) → k < length (words text) → time_at (text ++ more) k ≡ time_at text k
  stays text more k within =
      let here : k < length (word_times text) = omega (arith, counted text) in
      at_word text more k within ∙ sym (get_or_append_left (word_times text) (time_behind text ∷ []) None k here)

  -- the last of n + 1 times is the one with number n
  last_of : (times : List (Option (List ℕ))) (n : ℕ) (before : Option (List ℕ)) → length times ≡ n + 1
      → fold (λ b time. time) before times ≡ get_or times n None
  last_of [] n before is = absurd (omega arith)
  last_of (t ∷ []) zero before is = refl
  last_of (t ∷ u ∷ rest) zero before is = absurd (omega arith)
  last_of (t ∷ rest) (suc n) before is = last_of rest n t (omega arith)

  pub last_counted : (text more : List ℕ) (n : ℕ) → length (words text) ≡ n + 1 → time_at (text ++ more) n
      ≡ time_of_last_word text
  last_counted text more n count =
      at_word text more n (omega arith) ∙ sym (last_of (word_times text) n None (counted text ∙ count))

  spelled_count : (text : List ℕ) (events : List Event) → Spells text events → length (words text) ≡ length events
  spelled_count text events spells =
      sym (length-map (words text) event_of)
      ∙ ap (λ (all : List (Option Event)). length all) spells
      ∙ length-map events Some

  pub last_spelled : (text more : List ℕ) (events : List Event) (event : Event) → Spells text (events ++ event ∷ [])
      → time_at (text ++ more) (length events) ≡ time_of_last_word text
  last_spelled text more events event spells =
      last_counted text more (length events)
      (spelled_count text (events ++ event ∷ []) spells ∙ length-append events (event ∷ []))

  pub last_itself : (text : List ℕ) (events : List Event) (event : Event) → Spells text (events ++ event ∷ [])
      → time_of_last_word text ≡ time_at text (length events)
  last_itself text events event spells =
      let count : length (words text) ≡ length events + 1 =
      spelled_count text (events ++ event ∷ []) spells ∙ length-append events (event ∷ []) in
      sym (last_counted text [] (length events) count) ∙ stays text [] (length events) (omega (arith, count))

  -- ---- the gap at the end

  pub behind_all : (text : List ℕ) → time_at text (length (words text)) ≡ time_behind text
  behind_all text =
      ap (λ (n : ℕ). get_or (gap_times text) n None) (sym (counted text))
      ∙ get_or-append_seam (word_times text) (time_behind text) [] None

  pub behind_spelled : (text : List ℕ) (events : List Event) → Spells text events
      → time_at text (length events) ≡ time_behind text
  behind_spelled text events spells =
      ap (λ (n : ℕ). time_at text n) (sym (spelled_count text events spells)) ∙ behind_all text

  -- ---- the next word

  -- the first byte of a word does not cut
  no_cut : (b : ℕ) (rest : List ℕ) (cuts : Bool) → is_separator (blank false b) ≡ cuts
      → is_word (front_word (b ∷ rest)) ≡ true
      → is_separator (blank false b) ≡ false
  no_cut b rest true is word =
      absurd (false≢true (sym (ap (λ (runs : List (List ℕ)). is_word (first_run runs)) (runs_from-cut false b rest is))
      ∙ word))
  no_cut b rest false is word = is

  -- so it stands in no comment, and separates no words
  outside : (b : ℕ) (inside : Bool) → in_comment false b ≡ inside → is_separator (blank false b) ≡ false
      → in_comment false b ≡ false
  outside b true is keeps = absurd (false≢true (sym keeps ∙ ap is_separator (blank_in false b is)))
  outside b false is keeps = is

  begins_there : (front : List ℕ) (b : ℕ) (rest : List ℕ) → EndsBetween front → is_word (front_word (b ∷ rest)) ≡ true
      → begins_word front b ≡ true
  begins_there front b rest between word =
      let keeps = no_cut b rest (is_separator (blank false b)) refl word in
      let out = outside b (in_comment false b) refl keeps in
      let own : is_separator b ≡ false = ap is_separator (sym (blank_out false b out)) ∙ keeps in
      ap (λ (c : Bool). (not (in_comment c b) && not (is_separator b)) && not (is_word (open_word front))) between.1
      ∙ ap (λ (v : Bool). (not v && not (is_separator b)) && not (is_word (open_word front))) out
      ∙ ap (λ (v : Bool). not v && not (is_word (open_word front))) own
      ∙ ap (λ (word : List ℕ). not (is_word word)) between.0

  pub next_word : (front rest : List ℕ) → EndsBetween front → is_word (front_word rest) ≡ true
      → time_at (front ++ rest) (length (words front)) ≡ time_behind front
  next_word front [] between word = absurd (false≢true word)
  next_word front (b ∷ rest) between word =
      let more = times_from (front ++ b ∷ []) rest in
      let after = time_behind (front ++ b ∷ rest) ∷ [] in
      let split : gap_times (front ++ b ∷ rest) ≡ word_times front ++ time_behind front ∷ (more ++ after) =
      ap (λ (times : List (Option (List ℕ))). times ++ after)
      (times_from-append [] front (b ∷ rest)
      ∙ ap (λ (found : Bool). word_times front ++ (one_if found (time_behind front) ++ more))
      (begins_there front b rest between word))
      ∙ append_assoc (word_times front) (time_behind front ∷ more) after in
      ap (λ (n : ℕ). get_or (gap_times (front ++ b ∷ rest)) n None) (sym (counted front))
      ∙ ap (λ (times : List (Option (List ℕ))). get_or times (length (word_times front)) None) split
      ∙ get_or-append_seam (word_times front) (time_behind front) (more ++ after) None

-- ---- each is a time

abbrev IfTime : Option (List ℕ) → Type 0
IfTime time = IfSome time IsTime

told_is : (front : List ℕ) (v : Bool) → IfTime (cond v (line_time (line_behind front)) None)
told_is front true = line_is (line_behind front)
told_is front false = tt

or_is : (told time : Option (List ℕ)) → IfTime told → IfTime time → IfTime (option_or told time)
or_is None time first second = second
or_is (Some t) time first second = first

after_is : (front : List ℕ) (time : Option (List ℕ)) (v : Bool) (b : ℕ) → IfTime time
    → IfTime (cond v None (option_or (told_by front b) time))
after_is front time true b is = tt
after_is front time false b is = or_is (told_by front b) time (told_is front _) is

from_is : (front : List ℕ) (time : Option (List ℕ)) (text : List ℕ) → IfTime time → IfTime (time_from front time text)
from_is front time [] is = is
from_is front time (b ∷ text) is =
    from_is (front ++ b ∷ []) (time_after front time b) text (after_is front time (is_in_word front b) b is)

pub behind_is : (text : List ℕ) → IfTime (time_behind text)
behind_is text = from_is [] None text tt

one_and : (found : Bool) (time : Option (List ℕ)) (rest : List (Option (List ℕ))) → IfTime time
    → AllByRecursion IfTime rest
    → AllByRecursion IfTime (one_if found time ++ rest)
one_and true time rest is all = (is, all)
one_and false time rest is all = all

times_are : (front text : List ℕ) → AllByRecursion IfTime (times_from front text)
times_are front [] = tt
times_are front (b ∷ text) =
    one_and (begins_word front b) (time_behind front) (times_from (front ++ b ∷ []) text) (behind_is front)
    (times_are (front ++ b ∷ []) text)

last_from : (times : List (Option (List ℕ))) (before : Option (List ℕ)) → IfTime before → AllByRecursion IfTime times
    → IfTime (fold (λ b time. time) before times)
last_from [] before is all = is
last_from (t ∷ times) before is all = last_from times t all.0 all.1

pub last_is : (text : List ℕ) → IfTime (time_of_last_word text)
last_is text = last_from (word_times text) None tt (times_are [] text)

at_is : (times : List (Option (List ℕ))) (time : Option (List ℕ)) (k : ℕ) → AllByRecursion IfTime times → IfTime time
    → IfTime (get_or (times ++ time ∷ []) k None)
at_is [] time zero all is = is
at_is [] time (suc k) all is = tt
at_is (t ∷ times) time zero all is = all.0
at_is (t ∷ times) time (suc k) all is = at_is times time k all.1 is

pub gap_is : (text : List ℕ) (k : ℕ) → IfTime (time_at text k)
gap_is text k = at_is (word_times text) (time_behind text) k (times_are [] text) (behind_is text)
