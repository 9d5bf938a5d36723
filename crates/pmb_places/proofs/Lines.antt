-- The rest of a line at once: the canonical text of events up to STOP, after a text that ends
-- between words. For `Places::take_line`. No byte of it but the last is LF (10), so the place goes
-- along the line by as many columns; the last word is STOP's letter, P (80), with the LF after
-- it.
use Rattle.std.proofs.Common.{◌≡◌, ℕ, suc, ◌+◌, ◌-◌, ◌<◌, ◌/◌, ◌%◌, Bool, false, List, [], ◌∷◌, ◌++◌, fold, length}
use Rattle.std.proofs.Common.{slice_index, append_assoc, length-append, refl, subst, sym, ap, ◌∙◌, arith}
use Rattle.std.specs.List.{Contains}
use Rattle.std.proofs.lemmas.Bool.{ne_eqb}
use Rattle.std.proofs.lemmas.Grind.{flat_map-append}
use Rattle.std.proofs.lemmas.List.Sums.{fold-append}
use Rattle.hex.specs.Hex.{encode_with, lower_digits}
use Rattle.hex.proofs.HexLemmas.{IsDigits-lower_digits}
use Rattle.pmb_bus.specs.declared.event.Event.{Event}
use Rattle.pmb_bus.specs.declared.event.Event.TheVariants.{Start, Byte, Ack, Nack, Stop}
use Rattle.pmb_bus.specs.Event.{AreBytes, canonical_text, text_of}
use Rattle.pmb_bus.specs.Text.{EndsBetween, in_comment, is_separator, is_word}
use Rattle.pmb_bus.proofs.Tokens.{digit_goes_on}
use Rattle.pmb_bus.proofs.Words.{word_byte}
use Rattle.pmb_places.specs.declared.places.TextState.TheVariants.{Between}
use Rattle.pmb_places.specs.declared.places.Place.{Place}
use Rattle.pmb_places.specs.declared.places.Places.{Places}
use Rattle.pmb_places.specs.Bounds.{IsInRange}
use Rattle.pmb_places.specs.Text.{end_of_last_word, first_place, place_after, place_behind, place_of_last_word}
use Rattle.pmb_places.specs.machine.Standing.{PlacesStandAt, behind_line, further_along}
use Rattle.pmb_places.proofs.Bounds.{behind_in_range}
use Rattle.pmb_places.proofs.Bytes.{stands_after}
use Rattle.pmb_places.proofs.Joins.{both}
use Rattle.pmb_places.proofs.OpenWords.{ended_by_separator}

-- ---- places of a line

further_none : (place : Place) → IsInRange place → further_along place 0 ≡ place
further_none place is =
    let same : (further_along place 0).column ≡ place.column = omega (arith, is.column) in
    ap (λ (n : ℕ). record { line = place.line; column = n }) same

further_twice : (place : Place) (n m : ℕ) → further_along (further_along place n) m ≡ further_along place (n + m)
further_twice place n m =
    let same : (further_along (further_along place n) m).column ≡ (further_along place (n + m)).column = omega arith in
    ap (λ (k : ℕ). record { line = place.line; column = k }) same

further_in_range : (place : Place) (n : ℕ) → IsInRange place → IsInRange (further_along place n)
further_in_range place n is = record {
  some_line = is.some_line;
  line = is.line;
  some_column =
      omega (arith, is.some_column);
  column = omega arith;
}

-- bytes that end between words, none of them LF
record IsInLine (bytes : List ℕ) : Type 0 where
  -- it ends between words,
  pub between : EndsBetween bytes
  -- and leads along the line, by as many columns as it has bytes
  pub places : (place : Place) → IsInRange place → fold place_after place bytes ≡ further_along place (length bytes)

none_in_line : IsInLine []
none_in_line = record { between = (refl, refl); places = λ place is. sym (further_none place is) }

both_in_line : (front back : List ℕ) → IsInLine front → IsInLine back → IsInLine (front ++ back)
both_in_line front back first second = record {
  between = both front back first.between second.between;
  places = λ place is.
      fold-append place_after place front back
      ∙ ap (λ (there : Place). fold place_after there back) (first.places place is)
      ∙ second.places (further_along place (length front)) (further_in_range place (length front) is)
      ∙ further_twice place (length front) (length back)
      ∙ ap (further_along place) (sym (length-append front back));
}

-- ---- the text of an event

-- 32 is the space after it, 10 an LF
-- a letter and a space
letter_in_line : (a : ℕ) → EndsBetween (a ∷ 32 ∷ []) → (a ≡ 10 → ⊥) → IsInLine (a ∷ 32 ∷ [])
letter_in_line a between other = record {
  between = between;
  places =
      λ place is. rw (ne_eqb a 10 other) (further_twice place 1 1);
}

-- two digits and a space
no_line : (a : ℕ) → is_separator a ≡ false → a ≡ 10 → ⊥
no_line a keeps is = cc (keeps, ap is_separator is)

digits_in_line : (a b : ℕ) → in_comment false a ≡ false → in_comment false b ≡ false → is_separator a ≡ false
    → is_separator b ≡ false → IsInLine (a ∷ b ∷ 32 ∷ [])
digits_in_line a b out_a out_b keeps_a keeps_b = record {
  between = (
    ended_by_separator (a ∷ b ∷ []) 32 refl,
    ap (λ (v : Bool). in_comment (in_comment v b) 32) out_a ∙ ap (λ (v : Bool). in_comment v 32) out_b,
  );
  places = λ place is.
      rw (ne_eqb a 10 (no_line a keeps_a), ne_eqb b 10 (no_line b keeps_b))
      (ap (λ (there : Place). further_along there 1) (further_twice place 1 1) ∙ further_twice place 2 1);
}

byte_in_line : (b : ℕ) → b < 256 → IsInLine (text_of (Byte b))
unfolding encode_with
byte_in_line b small =
    let first = slice_index lower_digits (b / 16) in
    let second = slice_index lower_digits (b % 16) in
    let high = word_byte first (digit_goes_on first (b / 16) (IsDigits-lower_digits (b / 16) (omega arith))) in
    let low = word_byte second (digit_goes_on second (b % 16) (IsDigits-lower_digits (b % 16) (omega arith))) in
    digits_in_line first second high.0 low.0 high.1 low.1

-- ---- of events

none_in_rest : (event : Event) (events : List Event) → (Contains (event ∷ events) Stop → ⊥) → Contains events Stop → ⊥
none_in_rest event events none (k, within, is) = none (suc k, omega (arith, within), is)

-- without STOP
in_line : (events : List Event) → AreBytes events → (Contains events Stop → ⊥) → IsInLine (canonical_text events)
in_line [] small none = none_in_line
in_line (Start ∷ events) small none =
    both_in_line (text_of Start) (canonical_text events) (letter_in_line 83 (refl, refl) (λ is. omega (arith, is)))
    (in_line events small (none_in_rest Start events none))
in_line (Byte b ∷ events) small none =
    both_in_line (text_of (Byte b)) (canonical_text events) (byte_in_line b small.0)
    (in_line events small.1 (none_in_rest (Byte b) events none))
in_line (Ack ∷ events) small none =
    both_in_line (text_of Ack) (canonical_text events) (letter_in_line 65 (refl, refl) (λ is. omega (arith, is)))
    (in_line events small (none_in_rest Ack events none))
in_line (Nack ∷ events) small none =
    both_in_line (text_of Nack) (canonical_text events) (letter_in_line 78 (refl, refl) (λ is. omega (arith, is)))
    (in_line events small (none_in_rest Nack events none))
in_line (Stop ∷ events) small none = absurd (none (0, omega arith, refl))

-- ---- the last word and LF

-- what stands between words after a text
abbrev between_words : List ℕ → Places
between_words text = record {
  here = place_behind text;
  word = place_of_last_word text;
  end =
      end_of_last_word text;
  inside = Between;
}

stands_between : (text : List ℕ) → EndsBetween text → PlacesStandAt (between_words text) text
stands_between text between = record {
  here = refl;
  word = refl;
  end = refl;
  comment = sym between.1;
  in_word = sym (ap is_word between.0);
}

stop_behind : (text : List ℕ) → EndsBetween text
    → PlacesStandAt (behind_line (place_behind text)) (text ++ 80 ∷ 10 ∷ [])
stop_behind text between =
    subst (λ (given : List ℕ). PlacesStandAt (behind_line (place_behind text)) given)
    (append_assoc text (80 ∷ []) (10 ∷ []))
    (stands_after _ (text ++ 80 ∷ []) 10 (stands_after (between_words text) text 80 (stands_between text between)))

-- ---- all of it

line_length : (events : List Event) → length (canonical_text (events ++ Stop ∷ [])) ≡ length (canonical_text events) + 2
line_length events = ap (λ (text : List ℕ). length text) (flat_map-append text_of events (Stop ∷ []))
    ∙ length-append (canonical_text events) (80 ∷ 10 ∷ [])

pub stands_behind_line : (here : Place) (text : List ℕ) (events : List Event) (bytes front : ℕ)
    → here ≡ place_behind text → EndsBetween text → AreBytes events
    → (Contains events Stop → ⊥) → bytes ≡ length (canonical_text (events ++ Stop ∷ [])) → front ≡ bytes - 2
    → PlacesStandAt (behind_line (further_along here front)) (text ++ canonical_text (events ++ Stop ∷ []))
stands_behind_line here text events bytes front is between small none all rest =
    let line = in_line events small none in
    let behind = text ++ canonical_text events in
    let so_far : front ≡ length (canonical_text events) = omega (arith, rest, all, line_length events) in
    let there : place_behind behind ≡ further_along here front =
    fold-append place_after first_place text (canonical_text events)
    ∙ line.places (place_behind text) (behind_in_range text)
    ∙ ap (λ (n : ℕ). further_along (place_behind text) n) (sym so_far)
    ∙ ap (λ (place : Place). further_along place front) (sym is) in
    subst (λ (place : Place). PlacesStandAt (behind_line place) (text ++ canonical_text (events ++ Stop ∷ []))) there
    (subst (λ (given : List ℕ). PlacesStandAt (behind_line (place_behind behind)) given)
    (append_assoc text (canonical_text events) (80 ∷ 10 ∷ []) ∙ ap (λ (rest : List ℕ). text ++ rest)
    (sym (flat_map-append text_of events (Stop ∷ []))))
    (stop_behind behind (both text (canonical_text events) between line.between)))
