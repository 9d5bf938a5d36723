-- The words of an event are no longer than its line: for `take_text` and `take_own`.
use Rattle.std.proofs.Common.{◌≡◌, ◌≤◌, ◌+◌, ◌==◌, ℕ, Bool, true, false, Option, Some, None, List, [], ◌∷◌, arith, codes}
use Rattle.std.proofs.Common.{if◌then◌else◌, is_some, length, refl, subst}
use Rattle.std.specs.Str.{bytes_eq}
use Rattle.pmb_recording.specs.Content.{most_content}
use Rattle.pmb_words.specs.Parts.{after, blank, from_first, longer, parted, pieces}
use Rattle.pmb_trace.specs.Line.{Event, Heading, Loss, Nothing, TraceLine, Says, any_loss, before_colon, colon, event_at, event_in, event_seconds}
use Rattle.pmb_trace.specs.Line.{as_closed, before_end, comment_end, event_before, event_of_line, if_closed, opens_comment}
use Rattle.pmb_trace.specs.Line.{fraction_in, is_fraction, lost_or, name_of, point, says, trace_line, unlost, with_front}
use Rattle.pmb_trace.specs.declared.event_name.EventName.{EventName}
use Rattle.pmb_smbus.specs.Views.{AreAtMost, IsShortEvent}

-- ---- pieces

weaker : (n m : ℕ) (words : List (List ℕ)) → n ≤ m → AreAtMost n words → AreAtMost m words
weaker n m [] more short = tt
weaker n m (word ∷ words) more short =
    let first : length word ≤ n = short.0 in
    (omega arith, weaker n m words more short.1)

longer_is_short : (n byte : ℕ) (words : List (List ℕ)) → AreAtMost n words → AreAtMost (n + 1) (longer byte words)
longer_is_short n byte [] short = (omega arith, tt)
longer_is_short n byte (word ∷ words) short =
    let first : length word ≤ n = short.0 in
    (omega arith, weaker n (n + 1) words (omega arith) short.1)

cut_is_short : (n byte : ℕ) (here : Bool) (words : List (List ℕ)) → AreAtMost n words
    → AreAtMost (n + 1) (if here then [] ∷ words else longer byte words)
cut_is_short n byte true words short = (omega arith, weaker n (n + 1) words (omega arith) short)
cut_is_short n byte false words short = longer_is_short n byte words short

pieces_are_short : (at : ℕ) (text : List ℕ) → AreAtMost (length text) (pieces at text)
pieces_are_short at [] = (omega arith, tt)
pieces_are_short at (byte ∷ text) =
    weaker (length text + 1) (length (byte ∷ text)) (pieces at (byte ∷ text)) (omega arith)
    (cut_is_short (length text) byte (byte == at) (pieces at text) (pieces_are_short at text))

first_are_short : (n : ℕ) (words : List (List ℕ)) → AreAtMost n words → AreAtMost n (from_first words)
first_are_short n [] short = tt
first_are_short n ([] ∷ words) short = first_are_short n words short.1
first_are_short n ((byte ∷ word) ∷ words) short = short

-- ---- a text before the end of a comment

abbrev IsAtMost : ℕ → Option (List ℕ) → Type 0
IsAtMost n (Some text) = length text ≤ n
IsAtMost n None = Unit {0}

front_is_at_most : (n byte : ℕ) (here : Bool) (text : Option (List ℕ)) → IsAtMost n text
    → IsAtMost (n + 1) (if here then Some [] else with_front byte text)
front_is_at_most n byte true text short = omega arith
front_is_at_most n byte false (Some text) short = omega arith
front_is_at_most n byte false None short = tt

at_most_more : (n m : ℕ) (text : Option (List ℕ)) → n ≤ m → IsAtMost n text → IsAtMost m text
at_most_more n m (Some text) more short = omega arith
at_most_more n m None more short = tt

before_end_is_short : (end text : List ℕ) → IsAtMost (length text) (before_end end text)
before_end_is_short end [] = tt
before_end_is_short end (byte ∷ text) =
    at_most_more (length text + 1) (length (byte ∷ text)) (before_end end (byte ∷ text)) (omega arith)
    (front_is_at_most (length text) byte (bytes_eq (byte ∷ text) end) (before_end end text) (before_end_is_short end text))

-- ---- events

abbrev IsShort : ℕ → Event → Type 0
IsShort n e = (length e.front ≤ n) × AreAtMost n e.fields

at_is_short : (n : ℕ) (front : List ℕ) (rest : List (List ℕ)) (name : Option EventName) (later : Option Event) (e : Event)
    → length front ≤ n → AreAtMost n rest → (later ≡ Some e → IsShort n e) → event_at front rest name later ≡ Some e
    → IsShort n e
at_is_short n front rest (Some name) later e short_front short after is =
    let front_is : e.front ≡ front = cc in
    let fields_are : e.fields ≡ from_first rest = cc in
    (rw front_is short_front, rw fields_are (first_are_short n rest short))
at_is_short n front rest None later e short_front short after is = after is

event_is_short : (n : ℕ) (front : List ℕ) (words : List (List ℕ)) (e : Event) → length front ≤ n → AreAtMost n words
    → event_in front words ≡ Some e → IsShort n e
event_is_short n front [] e short_front short is = cc
event_is_short n front ([] ∷ words) e short_front short is = event_is_short n front words e short_front short.1 is
event_is_short n front ((byte ∷ word) ∷ words) e short_front short is =
    at_is_short n front words (name_of (byte ∷ word)) (event_in (byte ∷ word) words) e short_front short.1
    (event_is_short n (byte ∷ word) words e short.0 short.1) is

-- ---- comments

-- a comment's end leaves no more of it
closed_is_short : (n : ℕ) (opens closes : Bool) (e : Event) → IsShort n e → IsShort n (as_closed opens closes e)
closed_is_short n true true e short = short
closed_is_short n false false e short = short
closed_is_short n true false e short = (short.0, tt)
closed_is_short n false true e short = (short.0, tt)

if_closed_is_short : (n : ℕ) (closes : Bool) (found : Option Event) (e : Event)
    → ((e : Event) → found ≡ Some e → IsShort n e) → if_closed closes found ≡ Some e → IsShort n e
if_closed_is_short n closes (Some found) e short is =
    let same : as_closed (opens_comment found.front) closes found ≡ e = cc in
    subst (λ (e : Event). IsShort n e) same
    (closed_is_short n (opens_comment found.front) closes found (short found refl))
if_closed_is_short n closes None e short is = cc

text_is_short : (n : ℕ) (text : List ℕ) (e : Event) → length text ≤ n → event_in [] (pieces blank text) ≡ Some e
    → IsShort n e
text_is_short n text e short is =
    event_is_short n [] (pieces blank text) e (omega arith)
    (weaker (length text) n (pieces blank text) short (pieces_are_short blank text)) is

before_is_short : (n : ℕ) (before : Option (List ℕ)) (text : List ℕ) (e : Event) → IsAtMost n before → length text ≤ n
    → event_before before text ≡ Some e → IsShort n e
before_is_short n (Some front) text e short_front short is =
    if_closed_is_short n true (event_in [] (pieces blank front)) e
    (λ e is. text_is_short n front e short_front is) is
before_is_short n None text e short_front short is =
    if_closed_is_short n false (event_in [] (pieces blank text)) e (λ e is. text_is_short n text e short is) is

-- ---- lines

says_is_short : (n : ℕ) (found : Option Event) (e : Event) → (found ≡ Some e → IsShort n e) → says found ≡ Says e
    → IsShort n e
says_is_short n (Some found) e short is =
    let same : found ≡ e = cc in
    short (rw same refl)
says_is_short n None e short is = cc

unlost_is_short : (n : ℕ) (a b c : Bool) (found : Option Event) (e : Event) → (found ≡ Some e → IsShort n e)
    → (if a then Heading else if b then Nothing else if c then Heading else says found) ≡ Says e
    → IsShort n e
unlost_is_short n true b c found e short is = cc
unlost_is_short n false true c found e short is = cc
unlost_is_short n false false true found e short is = cc
unlost_is_short n false false false found e short is = says_is_short n found e short is

lost_is_short : (n : ℕ) (lost : Option Loss) (other : TraceLine) (e : Event) → (other ≡ Says e → IsShort n e)
    → lost_or lost other ≡ Says e → IsShort n e
lost_is_short n (Some lost) other e short is = cc
lost_is_short n None other e short is = short is

short_within : (n m : ℕ) (e : Event) → n ≤ m → IsShort n e → IsShort m e
short_within n m e more short =
    let front : length e.front ≤ n = short.0 in
    (omega arith, weaker n m e.fields more short.1)

pub line_is_short : (text : List ℕ) (e : Event) → length text ≤ most_content → trace_line text ≡ Says e → IsShortEvent e
line_is_short text e short is =
    short_within (length text) most_content e short
    (lost_is_short (length text) (any_loss text) (unlost text) e
    (unlost_is_short (length text) (is_some (after (codes "# tracer:") text)) (is_some (after (codes "#") text))
    (is_some (after (codes "cpus=") text)) (event_of_line text) e
    (before_is_short (length text) (before_end comment_end text) text e (before_end_is_short comment_end text)
    (omega arith))) is)

-- ---- times

abbrev IsFront : List ℕ → Option (List ℕ) → Type 0
IsFront word (Some front) = length front ≤ length word
IsFront word None = Unit {0}

with_front_is : (byte : ℕ) (word : List ℕ) (front : Option (List ℕ)) → IsFront word front
    → IsFront (byte ∷ word) (with_front byte front)
with_front_is byte word (Some front) is = omega arith
with_front_is byte word None is = tt

last_is : (byte : ℕ) (here : Bool) → IsFront (byte ∷ []) (if here then Some [] else None)
last_is byte true = omega arith
last_is byte false = tt

before_is : (word : List ℕ) → IsFront word (before_colon word)
before_is [] = tt
before_is (byte ∷ []) = last_is byte (byte == colon)
before_is (byte ∷ next ∷ rest) = with_front_is byte (next ∷ rest) (before_colon (next ∷ rest)) (before_is (next ∷ rest))

kept_is_short : (number : List ℕ) (here : Bool) (n : ℕ) → length number ≤ n → length (if here then number else []) ≤ n
kept_is_short number true n short = short
kept_is_short number false n short = omega arith

fraction_is_short : (word : List ℕ) (front : Option (List ℕ)) → IsFront word front → length (fraction_in front) ≤ length word
fraction_is_short word (Some front) is = kept_is_short front (is_fraction (parted point front)) (length word) is
fraction_is_short word None is = omega arith

pub seconds_are_short : (word : List ℕ) → length (event_seconds word) ≤ length word
seconds_are_short word = fraction_is_short word (before_colon word) (before_is word)
