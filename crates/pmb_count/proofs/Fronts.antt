-- The front of a piece that is used, up to a refused event: for `feed_on`. The event stands in the
-- piece, right after those that were used.
use Rattle.std.proofs.Common.{◌≡◌, ℕ, ◌+◌, ◌<◌, inl, inr, ◌⊎◌, List, [], ◌∷◌, ◌++◌, length, take, drop, get_or, sym, ap}
use Rattle.std.proofs.Common.{◌∙◌, arith, length-append, append_assoc}
use Rattle.std.proofs.lemmas.List.{append_cancel_left, take_more, drop_more, take-append-drop}
use Rattle.pmb_bus.specs.declared.event.Event.{Event}
use Rattle.pmb_command.specs.Parts.{DeviceParts}
use Rattle.pmb_transaction.specs.Reading.{RefusalData}
use Rattle.pmb_reader.specs.declared.reader.Reader.{Reader}
use Rattle.pmb_reader.specs.Reader.{Standing, Open, Held, Passing}
use Rattle.pmb_reader.specs.Feed.{AnswersAgain, ReaderRefuses}
use Rattle.pmb_reader.specs.Reading.{AnyEvent, IsDueAt}

-- a refused event stands in the piece
pub is_within : (profile : List DeviceParts) (standing : Standing) (piece : List Event) (used : ℕ) (after : Reader)
    (refusal : RefusalData) → IsDueAt AnyEvent standing
    → ReaderRefuses profile standing piece used after refusal ⊎ AnswersAgain profile standing used after refusal
    → used < length piece
is_within profile standing piece used after refusal at (inl w) =
    omega (arith, w.up_to, ap (λ (es : List Event). length es) w.split, length-append w.front (w.event ∷ w.rest))
is_within profile (Open n events) piece used after refusal at (inr w) = absurd (cc (w.held))
is_within profile (Held n first) piece used after refusal at (inr w) = absurd at
is_within profile (Passing n) piece used after refusal at (inr w) = absurd (cc (w.held))

first_of : (x y : Event) (xs ys : List Event) → x ∷ xs ≡ y ∷ ys → x ≡ y
first_of x y xs ys same = cc same

-- it is the one after those used
pub same_event : (piece : List Event) (used : ℕ) (d event : Event) (rest : List Event) → used < length piece
    → piece ≡ take used piece ++ event ∷ rest
    → event ≡ get_or piece used d
same_event piece used d event rest within split =
    let whole : piece ≡ take used piece ++ get_or piece used d ∷ drop (used + 1) piece =
    sym (take-append-drop used piece) ∙ ap (λ (es : List Event). take used piece ++ es)
    (drop_more piece used d within) in
    first_of event (get_or piece used d) rest (drop (used + 1) piece)
    (append_cancel_left (take used piece) (event ∷ rest) (get_or piece used d ∷ drop (used + 1) piece)
    (sym split ∙ whole))

-- with it the front is one event longer
pub with_one : (events piece : List Event) (used : ℕ) (d : Event) → used < length piece
    → (events ++ take used piece) ++ get_or piece used d ∷ [] ≡ events ++ take (used + 1) piece
with_one events piece used d within =
    append_assoc events (take used piece) (get_or piece used d ∷ []) ∙ ap (λ (es : List Event). events ++ es)
    (sym (take_more piece used d within))
