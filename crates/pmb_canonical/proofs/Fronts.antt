-- Bytes with their ACKs, taken from the front of a text one by one: those taken so far, what is
-- left, and that none is left in front at the end. For `push_acked` of `src/packet_bytes.rt`, its
-- loop, and `take_acked`. A byte with its ACK is five characters, so 516 bytes, the most of two
-- legs, are 2,580.
use Rattle.std.proofs.Common.{◌≡◌, ℕ, ◌+◌, ◌-◌, ◌*◌, ◌<◌, ◌≤◌, min, ◌⊎◌, inl, inr, List, [], ◌∷◌, ◌++◌, length, take}
use Rattle.std.proofs.Common.{drop, set, refl, sym, ap, ◌∙◌, arith, append_assoc, length-append, length-drop}
use Rattle.std.proofs.Common.{length-set}
use Rattle.std.proofs.lemmas.Bool.{cases_lt}
use Rattle.std.proofs.lemmas.List.{append-nil, drop_at, take_more_set}
use Rattle.hex.specs.Hex.{encode_with}
use Rattle.pmb_command.specs.Wire.{AreByteValues}
use Rattle.pmb_canonical.specs.Front.{NoneAcked, TakenFront, acked_text}
use Rattle.pmb_canonical.proofs.Texts.{GoesOn, acked_text-append, goes_on, length-acked_text, small-append}

-- none yet
pub taken_none : (text old : List ℕ) → TakenFront text old old text
taken_none text old = record { more = []; added = sym (append-nil old); split = refl; small = tt }

-- one more
pub taken_more : (text old new behind : List ℕ) (byte : ℕ) (rest : List ℕ) → TakenFront text old new behind → byte < 256
    → behind ≡ acked_text (byte ∷ []) ++ rest → TakenFront text old (new ++ byte ∷ []) rest
taken_more text old new behind byte rest taken small front = record {
  more = taken.more ++ byte ∷ [];
  added = ap (λ (l : List ℕ). l ++ byte ∷ []) taken.added ∙ append_assoc old taken.more (byte ∷ []);
  split =
      taken.split
      ∙ ap (λ (l : List ℕ). acked_text taken.more ++ l) front
      ∙ sym (append_assoc (acked_text taken.more) (acked_text (byte ∷ [])) rest)
      ∙ ap (λ (l : List ℕ). l ++ rest) (sym (acked_text-append taken.more (byte ∷ [])));
  small = small-append taken.more (byte ∷ []) taken.small (small, tt);
}

-- of what is left nothing, where none is left in front
nothing_left : (behind rest left : List ℕ) → NoneAcked behind → behind ≡ acked_text left ++ rest → AreByteValues left
    → left ≡ []
unfolding encode_with
nothing_left behind rest [] ended text small = refl
nothing_left behind rest (byte ∷ left) ended text small = absurd (ended byte (acked_text left ++ rest) small.0 text)

-- something, where one is left in front
something_left : (behind rest left : List ℕ) (byte : ℕ) (more : List ℕ) → NoneAcked rest
    → behind ≡ acked_text left ++ rest → byte < 256
    → behind ≡ acked_text (byte ∷ []) ++ more → 0 < length left
something_left behind rest [] byte more none text small front = absurd (none byte more small (sym text ∙ front))
something_left behind rest (x ∷ left) byte more none text small front = omega arith

module _ (text : List ℕ) (old : List ℕ) (new : List ℕ) (behind : List ℕ) (front : List ℕ) (rest : List ℕ) where
  -- what is left of bytes that are all to be taken
  on : (taken : TakenFront text old new behind) → AreByteValues front → NoneAcked rest → text ≡ acked_text front ++ rest
      → GoesOn taken.more front behind rest
  on taken small none same = goes_on taken.more front behind rest taken.small small none (sym taken.split ∙ same)

  -- all of them, where none is left in front
  pub all_taken : TakenFront text old new behind → NoneAcked behind → AreByteValues front → NoneAcked rest
      → text ≡ acked_text front ++ rest
      → (new ≡ old ++ front) × (behind ≡ rest)
  all_taken taken ended small none same =
      let goes = on taken small none same in
      let nothing : goes.left ≡ [] = nothing_left behind rest goes.left ended goes.text goes.small in
      let whole : front ≡ taken.more = goes.whole ∙ ap (λ (l : List ℕ). taken.more ++ l) nothing
      ∙ append-nil taken.more in (
        taken.added ∙ ap (λ (l : List ℕ). old ++ l) (sym whole),
        goes.text
            ∙ ap (λ (l : List ℕ). acked_text l ++ rest) nothing,
      )

  -- where one is left in front there are more than were taken
  pub room_left : (taken : TakenFront text old new behind) (byte : ℕ) (more : List ℕ) → AreByteValues front
      → NoneAcked rest → text ≡ acked_text front ++ rest
      → byte < 256 → behind ≡ acked_text (byte ∷ []) ++ more → length new < length (old ++ front)
  room_left taken byte more small none same is_byte at_front =
      let goes = on taken small none same in
      let some : 0 < length goes.left = something_left behind rest goes.left byte more none goes.text is_byte
      at_front in
      omega (
        arith,
        some,
        ap length taken.added,
        length-append old taken.more,
        ap length goes.whole,
        length-append taken.more goes.left,
        length-append old front,
      )

-- Bytes with their ACKs were put into the first places, and what is left of the text finds room.
pub record PutSoFar (text : List ℕ) (old : List ℕ) (len : ℕ) (places : List ℕ) (rest : List ℕ) : Type 0 where
  pub taken : TakenFront text old (take len places) rest
  -- what is left of the text finds room: five characters a byte, 516 bytes
  pub room : 5 * len + length rest ≤ 2580
  pub all_places : length places ≡ 516

-- one more, where it finds room
pub put_more : (text old : List ℕ) (len : ℕ) (places rest : List ℕ) (byte : ℕ) → PutSoFar text old len places rest
    → byte < 256 → 5 ≤ length rest
    → rest ≡ acked_text (byte ∷ []) ++ drop 5 rest → PutSoFar text old (len + 1) (set places len byte) (drop 5 rest)
put_more text old len places rest byte so_far small long front =
    let within : len < length places = omega (arith, so_far.room, so_far.all_places, long) in
    let next : take (len + 1) (set places len byte) ≡ take len places ++ byte ∷ [] =
    take_more_set places len byte within in
    record {
      taken = rw next (taken_more text old (take len places) rest byte (drop 5 rest) so_far.taken small front);
      room = omega (arith, so_far.room, long, length-drop 5 rest);
      all_places = length-set places len byte ∙ so_far.all_places;
    }

-- a byte at the front of a text stands in its first five bytes
in_five : (rest tail : List ℕ) (byte : ℕ) (more : List ℕ) → 5 ≤ length rest → rest ++ tail ≡ acked_text (byte ∷ [])
    ++ more
    → rest ≡ acked_text (byte ∷ []) ++ drop 5 rest
unfolding encode_with
in_five [] tail byte more long same = absurd (omega arith)
in_five (a ∷ []) tail byte more long same = absurd (omega arith)
in_five (a ∷ b ∷ []) tail byte more long same = absurd (omega arith)
in_five (a ∷ b ∷ c ∷ []) tail byte more long same = absurd (omega arith)
in_five (a ∷ b ∷ c ∷ d ∷ []) tail byte more long same = absurd (omega arith)
in_five (a ∷ b ∷ c ∷ d ∷ e ∷ rest) tail byte more long same =
    let word : a ∷ b ∷ c ∷ d ∷ e ∷ [] ≡ acked_text (byte ∷ []) = ap (λ (l : List ℕ). take 5 l) same in
    ap (λ (l : List ℕ). l ++ rest) word

module _ (part : List ℕ) (tail : List ℕ) (old : List ℕ) (new : List ℕ) (rest : List ℕ)
    (taken : TakenFront part old new rest) where
  -- what was taken of a text that others follow
  split_before : part ++ tail ≡ acked_text taken.more ++ (rest ++ tail)
  split_before = ap (λ (l : List ℕ). l ++ tail) taken.split ∙ append_assoc (acked_text taken.more) rest tail

  pub taken_before : TakenFront (part ++ tail) old new (rest ++ tail)
  taken_before = record { more = taken.more; added = taken.added; split = split_before; small = taken.small }

  -- how long that is
  long : length part ≡ 5 * length taken.more + length rest
  long = ap length taken.split ∙ length-append (acked_text taken.more) rest
      ∙ ap (λ (n : ℕ). n + length rest) (length-acked_text taken.more)

  pub left_before : drop (length part - length rest) (part ++ tail) ≡ rest ++ tail
  left_before =
      let acked : length (acked_text taken.more) ≡ length part - length rest =
      omega (arith, long, length-acked_text taken.more) in
      ap (λ (l : List ℕ). drop (length part - length rest) l) split_before
      ∙ drop_at (acked_text taken.more) (rest ++ tail) (length part - length rest) acked

  -- none is left, where no more of the text was looked at than finds room
  module _ (room : ℕ) (limit : length part ≡ min (length (part ++ tail)) (5 * room))
      (all_room : length old + room ≡ 516) (ended : NoneAcked rest)
      (front : List ℕ) (behind : List ℕ) (small : AreByteValues front) (none : NoneAcked behind)
      (fits : length (old ++ front) ≤ 516)
      (same : part ++ tail ≡ acked_text front ++ behind) where
    -- where fewer than five characters are left, the text is cut, and more was there than finds
    -- room
    none_by : (byte : ℕ) (more : List ℕ) → byte < 256 → rest ++ tail ≡ acked_text (byte ∷ []) ++ more
        → (length rest < 5) ⊎ (5 ≤ length rest) → ⊥
    none_by byte more is_byte at_front (inr enough) =
        ended byte (drop 5 rest) is_byte (in_five rest tail byte more enough at_front)
    none_by byte more is_byte at_front (inl short) =
        let others : length new < length (old ++ front) =
        room_left (part ++ tail) old new (rest ++ tail) front behind taken_before byte more small none same is_byte
        at_front in
        omega (
          arith,
          others,
          fits,
          short,
          limit,
          all_room,
          long,
          ap length taken.added,
          length-append old taken.more,
          length-append part tail,
          length-append rest tail,
          ap length at_front,
          length-append (acked_text (byte ∷ [])) more,
          length-acked_text (byte ∷ []),
        )

    pub none_before : NoneAcked (rest ++ tail)
    none_before byte more is_byte at_front = none_by byte more is_byte at_front (cases_lt (length rest) 5)
