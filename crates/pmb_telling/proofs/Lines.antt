-- A bad word and the rest of its line: bytes up to an LF, what is reported of the word, and when no
-- more of it is reported. For `drop_line`, `end_bad_word` and the law `one_list_of_facts`. At most 32
-- bytes of a word are reported, so once it has 32, or ends, what follows changes nothing.
use Rattle.std.proofs.Common.{◌≡◌, ◌≢◌, ℕ, ◌+◌, ◌<◌, true, inl, inr, None, List, [], ◌∷◌, ◌++◌, length, take, refl}
use Rattle.std.proofs.Common.{sym}
use Rattle.std.proofs.Common.{ap, subst, ◌∙◌, append-nil, arith, length-append}
use Rattle.std.proofs.lemmas.Bool.{cases_Bool, cases_eq}
use Rattle.std.proofs.lemmas.List.{take-append-le}
use Rattle.pmb_bus.specs.declared.event.Event.{Event}
use Rattle.pmb_bus.specs.Event.{event_of}
use Rattle.pmb_bus.specs.Text.{EndsBetween, FirstBadWord, Spells, front_word, is_word}
use Rattle.pmb_io.specs.Lines.{HasNoLf}
use Rattle.pmb_telling.specs.machine.Ends.{IsOver, ends_word}
use Rattle.pmb_telling.specs.Text.{IsBehindLine}
use Rattle.pmb_telling.proofs.Words.{front_ends, front_keeps, front_none, solid_then}

-- ---- what follows a line

ends_at_lf : (b : ℕ) (rest : List ℕ) → b ≡ 10 → front_word (b ∷ rest) ≡ []
ends_at_lf b rest is = front_ends b rest (rw is refl)

-- no word goes on there
pub front_cut : (line rest : List ℕ) → IsBehindLine rest → front_word (line ++ rest) ≡ front_word line
front_cut [] [] is = refl
front_cut [] (b ∷ rest) is = ends_at_lf b rest is
front_cut (x ∷ line) rest is =
    elim (cases_Bool (ends_word x)) [
      | inl ends ↦ front_ends x (line ++ rest) ends ∙ sym (front_ends x line ends)
      | inr keeps ↦ front_keeps x (line ++ rest) keeps
          ∙ (ap (λ (l : List ℕ). x ∷ l) (front_cut line rest is) ∙ sym (front_keeps x line keeps))
    ]

-- bytes up to a LF, and what stands after
pub record SplitsLine (bytes : List ℕ) : Type 0 where
  pub line : List ℕ
  pub rest : List ℕ
  pub split : bytes ≡ line ++ rest
  -- no LF is in the line, and one follows it, or nothing
  pub in_line : HasNoLf line
  pub behind : IsBehindLine rest

pub split_line : (bytes : List ℕ) → SplitsLine bytes
split_line [] = record { line = []; rest = []; split = refl; in_line = tt; behind = tt }
split_line (b ∷ bytes) =
    elim (cases_eq b 10) [
      | inl lf ↦ record { line = []; rest = b ∷ bytes; split = refl; in_line = tt; behind = lf }
      | inr other ↦
          let more = split_line bytes in
          record {
            line = b ∷ more.line;
            rest = more.rest;
            split = ap (λ (l : List ℕ). b ∷ l) more.split;
            in_line =
                (other, more.in_line);
            behind = more.behind;
          }
    ]

-- ---- what is told of a word

-- of which no more is told, it stays so
pub told_for_good : (word at_hand more : List ℕ) → front_word word ≡ word → IsOver word at_hand
    → take 32 (front_word (word ++ (at_hand ++ more))) ≡ take 32 word
told_for_good word at_hand more solid (inl ended) =
    ap (take 32) (solid_then word (at_hand ++ more) solid
    ∙ (ap (λ (l : List ℕ). word ++ l) (front_none at_hand more ended.0 ended.1) ∙ append-nil word))
told_for_good word at_hand more solid (inr full) =
    ap (take 32) (solid_then word (at_hand ++ more) solid) ∙ take-append-le 32 word (front_word (at_hand ++ more)) full

some_bytes : (bytes : List ℕ) → bytes ≢ [] → 0 < length bytes
some_bytes [] some = absurd (some refl)
some_bytes (b ∷ bytes) some = omega arith

-- and it is not under way any more
pub never_under_way : (word at_hand more whole : List ℕ) → front_word word ≡ word → IsOver word at_hand
    → whole ≡ word ++ (at_hand ++ more) → front_word whole ≡ whole → length whole < 32 → ⊥
never_under_way word at_hand more whole solid (inl ended) is under_way few =
    let told : front_word whole ≡ word =
    ap (λ (l : List ℕ). front_word l) is ∙ (solid_then word (at_hand ++ more) solid
    ∙ (ap (λ (l : List ℕ). word ++ l) (front_none at_hand more ended.0 ended.1) ∙ append-nil word)) in
    let same : length whole ≡ length word = ap (λ (l : List ℕ). length l) (sym under_way ∙ told) in
    let lengths : length whole ≡ length word + (length at_hand + length more) =
    ap (λ (l : List ℕ). length l) is ∙ (length-append word (at_hand ++ more)
    ∙ ap (λ (n : ℕ). length word + n) (length-append at_hand more)) in
    omega (arith, some_bytes at_hand ended.0)
never_under_way word at_hand more whole solid (inr full) is under_way few =
    let lengths : length whole ≡ length word + length (at_hand ++ more) = ap (λ (l : List ℕ). length l) is
    ∙ length-append word (at_hand ++ more) in
    omega (arith, full)

-- ---- the first bad word

-- two splits of one list at one place
pub same_split : (a b x y : List ℕ) → a ++ x ≡ b ++ y → length a ≡ length b → (a ≡ b) × (x ≡ y)
same_split [] [] x y is long = (refl, is)
same_split [] (c ∷ b) x y is long = absurd (omega (arith, long))
same_split (c ∷ a) [] x y is long = absurd (omega (arith, long))
same_split (c ∷ a) (d ∷ b) x y is long =
    let tails : a ++ x ≡ b ++ y = cc in
    let heads : c ≡ d = cc in
    let more = same_split a b x y tails (omega (arith, long)) in
    let fronts = more.0 in
    let whole : c ∷ a ≡ d ∷ b = cc in (whole, more.1)

-- what is said of a front and of the bytes after it
pub record IsBadBehind (front rest : List ℕ) (events : List Event) : Type 0 where
  -- the front ends between words and spells the events; the word after it is no token
  pub between : EndsBetween front
  pub spells : Spells front events
  pub word : is_word (front_word rest) ≡ true
  pub no_token : event_of (front_word rest) ≡ None

pub behind_front : (front rest : List ℕ) (events : List Event) → FirstBadWord (front ++ rest) events (length front)
    → IsBadBehind front rest events
behind_front front rest events bad =
    let same = same_split bad.front front bad.rest rest (sym bad.split) bad.at in record {
      between = subst (λ (f : List ℕ). EndsBetween f) same.0 bad.between;
      spells = subst (λ (f : List ℕ). Spells f events) same.0 bad.spells;
      word = subst (λ (r : List ℕ). is_word (front_word r) ≡ true) same.1 bad.word;
      no_token = subst (λ (r : List ℕ). event_of (front_word r) ≡ None) same.1 bad.no_token;
    }

pub bad_behind : (front rest : List ℕ) (events : List Event) → IsBadBehind front rest events
    → FirstBadWord (front ++ rest) events (length front)
bad_behind front rest events bad = record {
  front = front;
  rest = rest;
  split = refl;
  at = refl;
  between = bad.between;
  spells = bad.spells;
  word = bad.word;
  no_token = bad.no_token;
}

-- it is bad in its line alone
pub bad_in_line : (front line rest : List ℕ) (events : List Event) → IsBehindLine rest
    → FirstBadWord (front ++ (line ++ rest)) events (length front) → FirstBadWord (front ++ line) events (length front)
bad_in_line front line rest events is bad =
    let whole = behind_front front (line ++ rest) events bad in
    let same = front_cut line rest is in
    bad_behind front line events
    (record {
      between = whole.between;
      spells = whole.spells;
      word = subst (λ (w : List ℕ). is_word w ≡ true) same whole.word;
      no_token = subst (λ (w : List ℕ). event_of w ≡ None) same whole.no_token;
    })
