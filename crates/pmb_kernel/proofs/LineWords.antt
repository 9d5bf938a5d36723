-- The words of a line are no longer than it, and neither is the time among them: for `take_content` and
-- `take_event`.
use Rattle.std.proofs.Common.{◌≡◌, ◌≤◌, ◌==◌, ℕ, Bool, true, false, if◌then◌else◌, Option, Some, None, is_some, List, [], ◌∷◌}
use Rattle.std.proofs.Common.{arith, codes, length, refl, suc, subst}
use Rattle.std.specs.Str.{bytes_eq}
use Rattle.pmb_recording.specs.Content.{most_content}
use Rattle.pmb_trace.specs.Line as line
use Rattle.pmb_trace.specs.declared.event_name.EventName.{EventName}
use Rattle.pmb_words.specs.Parts.{after, blank, from_first, longer, parted, pieces, with_bytes}
use Rattle.pmb_kernel.specs.Views.{AreWithin, IsShort}

-- ---- pieces

more_within : (most : ℕ) (texts : List (List ℕ)) → AreWithin most texts → AreWithin (suc most) texts
more_within most [] within = tt
more_within most (text ∷ texts) within = (omega (arith, within.0), more_within most texts within.1)

longer_within : (most byte : ℕ) (texts : List (List ℕ)) → AreWithin most texts
    → AreWithin (suc most) (longer byte texts)
longer_within most byte [] within = (omega arith, tt)
longer_within most byte (text ∷ texts) within = (omega (arith, within.0), more_within most texts within.1)

cut_within : (is_cut : Bool) (most byte : ℕ) (texts : List (List ℕ)) → AreWithin most texts
    → AreWithin (suc most) (if is_cut then [] ∷ texts else longer byte texts)
cut_within true most byte texts within = (omega arith, more_within most texts within)
cut_within false most byte texts within = longer_within most byte texts within

pieces_within : (text : List ℕ) → AreWithin (length text) (pieces blank text)
pieces_within [] = (omega arith, tt)
pieces_within (byte ∷ text) = cut_within (byte == blank) (length text) byte (pieces blank text) (pieces_within text)

at_most : (n most : ℕ) (texts : List (List ℕ)) → n ≤ most → AreWithin n texts → AreWithin most texts
at_most n most [] less within = tt
at_most n most (text ∷ texts) less within = (omega (arith, within.0), at_most n most texts less within.1)

first_within : (most : ℕ) (texts : List (List ℕ)) → AreWithin most texts → AreWithin most (from_first texts)
first_within most [] within = tt
first_within most ([] ∷ texts) within = first_within most texts within.1
first_within most ((byte ∷ text) ∷ texts) within = within

-- ---- events

-- the words of an event are no longer
pub record WordsWithin (most : ℕ) (e : line.Event) : Type 0 where
  pub front : length e.front ≤ most
  pub fields : AreWithin most e.fields

at_within : (most : ℕ) (front : List ℕ) (rest : List (List ℕ)) (name : Option EventName) (later : Option line.Event)
    (e : line.Event) → length front ≤ most → AreWithin most rest → (later ≡ Some e → WordsWithin most e)
    → line.event_at front rest name later ≡ Some e → WordsWithin most e
at_within most front rest (Some name) later e short within behind is =
    let same : record {
      name = name;
      front = front;
      fields = from_first rest;
      has_other = line.others_in (line.kind_of name) (with_bytes rest);
    } ≡ e = cc in
    subst (λ (e : line.Event). WordsWithin most e) same
    (record { front = short; fields = first_within most rest within })
at_within most front rest None later e short within behind is = behind is

event_within : (most : ℕ) (front : List ℕ) (texts : List (List ℕ)) (e : line.Event) → length front ≤ most
    → AreWithin most texts → line.event_in front texts ≡ Some e → WordsWithin most e
event_within most front [] e short within is = cc
event_within most front ([] ∷ texts) e short within is = event_within most front texts e short within.1 is
event_within most front ((byte ∷ word) ∷ texts) e short within is =
    at_within most front texts (line.name_of (byte ∷ word)) (line.event_in (byte ∷ word) texts) e short within.1
    (λ later. event_within most (byte ∷ word) texts e within.0 within.1 later) is

-- ---- lines

abbrev IsWithin : ℕ → Option (List ℕ) → Type 0
IsWithin most (Some text) = length text ≤ most
IsWithin most None = Unit {0}

front_within : (most byte : ℕ) (text : Option (List ℕ)) → IsWithin most text
    → IsWithin (suc most) (line.with_front byte text)
front_within most byte (Some text) within = omega arith
front_within most byte None within = tt

first_or_within : (most byte : ℕ) (is_end : Bool) (text : Option (List ℕ)) → IsWithin most text
    → IsWithin (suc most) (if is_end then Some [] else line.with_front byte text)
first_or_within most byte true text within = omega arith
first_or_within most byte false text within = front_within most byte text within

no_longer : (n most : ℕ) (text : Option (List ℕ)) → n ≤ most → IsWithin n text → IsWithin most text
no_longer n most (Some text) less within = omega arith
no_longer n most None less within = tt

before_end_within : (end text : List ℕ) → IsWithin (length text) (line.before_end end text)
before_end_within end [] = tt
before_end_within end (byte ∷ text) =
    first_or_within (length text) byte (bytes_eq (byte ∷ text) end) (line.before_end end text) (before_end_within end text)

end_within : (most : ℕ) (end text : List ℕ) → length text ≤ most → IsWithin most (line.before_end end text)
end_within most end text short =
    no_longer (length text) most (line.before_end end text) short (before_end_within end text)

-- a comment's end leaves no more of it
closed_within : (most : ℕ) (opens closes : Bool) (e : line.Event) → WordsWithin most e
    → WordsWithin most (line.as_closed opens closes e)
closed_within most true true e within = within
closed_within most false false e within = within
closed_within most true false e within = record { front = within.front; fields = tt }
closed_within most false true e within = record { front = within.front; fields = tt }

if_closed_within : (most : ℕ) (closes : Bool) (found : Option line.Event) (e : line.Event)
    → ((e : line.Event) → found ≡ Some e → WordsWithin most e) → line.if_closed closes found ≡ Some e
    → WordsWithin most e
if_closed_within most closes (Some found) e within is =
    let same : line.as_closed (line.opens_comment found.front) closes found ≡ e = cc in
    subst (λ (e : line.Event). WordsWithin most e) same
    (closed_within most (line.opens_comment found.front) closes found (within found refl))
if_closed_within most closes None e within is = cc

event_of_text : (most : ℕ) (text : List ℕ) (e : line.Event) → length text ≤ most
    → line.event_in [] (pieces blank text) ≡ Some e → WordsWithin most e
event_of_text most text e short is =
    event_within most [] (pieces blank text) e (omega arith)
    (at_most (length text) most (pieces blank text) short (pieces_within text)) is

before_within : (most : ℕ) (before : Option (List ℕ)) (text : List ℕ) (e : line.Event) → IsWithin most before
    → length text ≤ most → line.event_before before text ≡ Some e → WordsWithin most e
before_within most (Some front) text e within short is =
    if_closed_within most true (line.event_in [] (pieces blank front)) e
    (λ e is. event_of_text most front e within is) is
before_within most None text e within short is =
    if_closed_within most false (line.event_in [] (pieces blank text)) e
    (λ e is. event_of_text most text e short is) is

not_lost : (loss : Option line.Loss) (other : line.TraceLine) (e : line.Event)
    → line.lost_or loss other ≡ line.Says e → other ≡ line.Says e
not_lost (Some loss) other e is = cc
not_lost None other e is = is

no_heading : (b : Bool) (other : line.TraceLine) (e : line.Event)
    → (if b then line.Heading else other) ≡ line.Says e → other ≡ line.Says e
no_heading true other e is = cc
no_heading false other e is = is

not_nothing : (b : Bool) (other : line.TraceLine) (e : line.Event)
    → (if b then line.Nothing else other) ≡ line.Says e → other ≡ line.Says e
not_nothing true other e is = cc
not_nothing false other e is = is

said : (found : Option line.Event) (e : line.Event) → line.says found ≡ line.Says e → found ≡ Some e
said (Some event) e is = cc
said None e is = cc

-- the words of the event that a line says
pub words_within : (text : List ℕ) (e : line.Event) → IsShort text → line.trace_line text ≡ line.Says e
    → WordsWithin most_content e
words_within text e short is =
    let a = not_lost (line.any_loss text) (line.unlost text) e is in
    let b = no_heading (is_some (after (codes "# tracer:") text)) _ e a in
    let c = not_nothing (is_some (after (codes "#") text)) _ e b in
    let d = no_heading (is_some (after (codes "cpus=") text)) _ e c in
    before_within most_content (line.before_end line.comment_end text) text e
    (end_within most_content line.comment_end text short) short (said (line.event_of_line text) e d)

-- ---- times

no_text : (b : Bool) → IsWithin 1 (if b then Some [] else None)
no_text true = omega arith
no_text false = tt

colon_within : (word : List ℕ) → IsWithin (length word) (line.before_colon word)
colon_within [] = tt
colon_within (byte ∷ []) = no_text (byte == line.colon)
colon_within (byte ∷ next ∷ rest) =
    front_within (length (next ∷ rest)) byte (line.before_colon (next ∷ rest)) (colon_within (next ∷ rest))

if_within : (b : Bool) (most : ℕ) (text : List ℕ) → length text ≤ most → length (if b then text else []) ≤ most
if_within true most text within = within
if_within false most text within = omega arith

fraction_within : (most : ℕ) (text : Option (List ℕ)) → IsWithin most text → length (line.fraction_in text) ≤ most
fraction_within most (Some text) within = if_within (line.is_fraction (parted line.point text)) most text within
fraction_within most None within = omega arith

-- the time that a word gives
pub time_within : (word : List ℕ) → length (line.event_seconds word) ≤ length word
time_within word = fraction_within (length word) (line.before_colon word) (colon_within word)
