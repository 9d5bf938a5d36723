-- What is left of data (`DataLeft`), by the bytes that were taken: at the start and after each
-- byte. For `DataLeft::start`, `Answer::restart` and `Answer::at_alert`. Five states: the count, so
-- many bytes, the packet error code, nothing, closed; each says exactly which bytes may follow.
use Rattle.std.proofs.Common.{◌≡◌, ◌≢◌, ◌↔◌, ℕ, ◌+◌, ◌-◌, ◌<◌, ◌≤◌, ◌⊎◌, inl, inr, zero, suc, Bool, true, false}
use Rattle.std.proofs.Common.{if◌then◌else◌, nat_eq, nat_lt, Option, Some, None, List, [], ◌∷◌, ◌++◌, length, refl, sym}
use Rattle.std.proofs.Common.{ap, subst, ◌∙◌, append_assoc, arith, length-append, eq-eqb}
use Rattle.std.proofs.lemmas.Bool.{ltb-true, ltb-false, eqb-true}
use Rattle.std.proofs.lemmas.List.{append-nil}
use Rattle.pmb_bus.specs.Pec.{pec}
use Rattle.pmb_command.specs.declared.form.Form.{Form}
use Rattle.pmb_command.specs.declared.form.Form.TheVariants.{Zero, One, Two, Four, Eight, Block}
use Rattle.pmb_command.specs.declared.pec_mode.PecMode.{PecMode}
use Rattle.pmb_command.specs.declared.pec_mode.PecMode.TheVariants.{Off, On, Optional}
use Rattle.pmb_command.specs.PecMode.{AllowsPec}
use Rattle.pmb_command.specs.Wire.{IsByte, Fits, Takes, wire}
use Rattle.pmb_transaction.specs.Body.{IsProperPrefix, checked}
use Rattle.pmb_leg.specs.declared.left.DataLeft.{DataLeft}
use Rattle.pmb_leg.specs.declared.left.DataLeft.TheVariants.{Count, Data, Code, Nothing, Closed}
use Rattle.pmb_leg.specs.machine.DataLeft.{after, ends_data, goes_on, has_code, is_whole, start, takes, wire_front}
use Rattle.pmb_leg.specs.machine.DataLeft.{BeginsData, IsData, IsEnded, IsInside, IsMissing, Leaves, LeavesOf}
use Rattle.pmb_leg.specs.machine.DataLeft.{SpellsSomeData, SpellsData}
use Rattle.pmb_leg.proofs.Wires.{checked_is, code_behind, data_fit, front_push, length_zeros, not_ended, one_wire}
use Rattle.pmb_leg.proofs.Wires.{small_append, small_zeros, wire_of_front, zeros}

-- ---- the start, by the form's length

pub starts_whole : (form : Form) (mode : PecMode) (n : ℕ) → ((m : ℕ) → Takes form m ↔ (m ≡ n)) → n ≡ 0
    → ends_data mode ≡ start (Some form) mode
starts_whole Zero mode n only none = refl
starts_whole One mode n only none = absurd (omega (arith, (only 1).0 refl, none))
starts_whole Two mode n only none = absurd (omega (arith, (only 2).0 refl, none))
starts_whole Four mode n only none = absurd (omega (arith, (only 4).0 refl, none))
starts_whole Eight mode n only none = absurd (omega (arith, (only 8).0 refl, none))
starts_whole Block mode n only none = absurd (omega (arith, (only 1).0 (omega arith), none))

pub starts_data : (form : Form) (mode : PecMode) (n : ℕ) → ((m : ℕ) → Takes form m ↔ (m ≡ n)) → n ≢ 0
    → Data n ≡ start (Some form) mode
starts_data Zero mode n only some = absurd (some (sym ((only 0).0 refl)))
starts_data One mode n only some = ap Data (sym ((only 1).0 refl))
starts_data Two mode n only some = ap Data (sym ((only 2).0 refl))
starts_data Four mode n only some = ap Data (sym ((only 4).0 refl))
starts_data Eight mode n only some = ap Data (sym ((only 8).0 refl))
starts_data Block mode n only some = absurd (omega (arith, (only 0).0 (omega arith), (only 1).0 (omega arith)))

module _ (before : List ℕ) where
  -- ---- whole data

  -- after the last byte of data
  pub data_ended : (form : Form) (mode : PecMode) (bytes whole : List ℕ) → Fits form whole → bytes ≡ wire form whole
      → Leaves form mode before bytes (ends_data mode)
  data_ended form Off bytes whole fits spelled =
      record {
        whole = whole;
        with_pec = false;
        spells =
            record { fits = fits; allowed = refl; spelled = spelled };
        last = inr refl;
      }
  data_ended form On bytes whole fits spelled = record { whole = whole; fits = fits; allowed = refl; spelled = spelled }
  data_ended form Optional bytes whole fits spelled =
      record { whole = whole; fits = fits; allowed = tt; spelled = spelled }

  pub started : (form : Form) (mode : PecMode) → Leaves form mode before [] (start (Some form) mode)
  started Zero mode = data_ended Zero mode [] [] (record { small = tt; taken = refl }) refl
  started One mode = record { front = []; small = tt; some = omega arith; taken = omega arith; spelled = refl }
  started Two mode = record { front = []; small = tt; some = omega arith; taken = omega arith; spelled = refl }
  started Four mode = record { front = []; small = tt; some = omega arith; taken = omega arith; spelled = refl }
  started Eight mode = record { front = []; small = tt; some = omega arith; taken = omega arith; spelled = refl }
  started Block mode = (refl, refl)

  pub started_of : (form : Option Form) (mode : PecMode) → LeavesOf form mode before [] (start form mode)
  started_of None mode = refl
  started_of (Some form) mode = started form mode

  -- ---- nothing follows

  -- after the end, and where another code stands than theirs, nothing begins
  code_allowed : (mode : PecMode) (with_pec : Bool) → mode ≡ Off → AllowsPec mode with_pec → with_pec ≡ false
  code_allowed mode with_pec is allowed = let P : PecMode → Type 0 = λ (m : PecMode). AllowsPec m with_pec in
      subst P is allowed

  -- there is one code at most, and none where the mode allows none
  no_room : (mode : PecMode) (with_pec other : Bool) (a b : List ℕ) (next : ℕ) (rest : List ℕ)
      → (with_pec ≡ true) ⊎ (mode ≡ Off) → AllowsPec mode other
      → code_behind other before b ≡ code_behind with_pec before a ++ next ∷ rest → ⊥
  no_room mode true false a b next rest last allowed same = omega (arith, ap length same)
  no_room mode true true a b next rest last allowed same = omega (arith, ap length same)
  no_room mode false false a b next rest last allowed same = omega (arith, ap length same)
  no_room mode false true a b next rest (inl is) allowed same = absurd (cc is)
  no_room mode false true a b next rest (inr is) allowed same =
      let none : true ≡ false = code_allowed mode true is allowed in absurd (cc none)

  too_long : (form : Form) (mode : PecMode) (bytes : List ℕ) → IsEnded form mode before bytes
      → (next : ℕ) (rest all : List ℕ)
      → SpellsSomeData form mode before all → all ≡ bytes ++ next ∷ rest → ⊥
  too_long form mode bytes ended next rest all (other, with_pec, spells) split =
      let mine : bytes ≡ wire form ended.whole ++ code_behind ended.with_pec before (wire form ended.whole) =
      ended.spells.spelled ∙ checked_is ended.with_pec before (wire form ended.whole) in
      let theirs : all ≡ wire form other ++ code_behind with_pec before (wire form other) = spells.spelled
      ∙ checked_is with_pec before (wire form other) in
      let same : wire form other ++ code_behind with_pec before (wire form other) ≡ wire form ended.whole
      ++ (code_behind ended.with_pec before (wire form ended.whole) ++ next ∷ rest) =
      sym theirs ∙ split ∙ ap (λ (bs : List ℕ). bs ++ next ∷ rest) mine ∙ append_assoc (wire form ended.whole)
      (code_behind ended.with_pec before (wire form ended.whole)) (next ∷ rest) in
      let ends = one_wire form other ended.whole (code_behind with_pec before (wire form other))
      (code_behind ended.with_pec before (wire form ended.whole) ++ next ∷ rest) spells.fits ended.spells.fits
      same in
      no_room mode ended.with_pec with_pec (wire form ended.whole) (wire form other) next rest ended.last spells.allowed
      ends.1

  -- ---- one byte more

  one_left : (n : ℕ) → 0 < n → nat_lt 1 n ≡ false → n ≡ 1
  one_left n some none = let most : n ≤ 1 = ltb-false 1 n none in omega (arith, some, most)

  not_zero : (n : ℕ) → nat_eq n 0 ≡ false → 0 < n
  not_zero zero none = absurd (cc (none, eq-eqb 0 0 refl))
  not_zero (suc n) none = omega arith

  wrong_code : (with_pec : Bool) (bytes : List ℕ) (crc byte : ℕ) (rest : List ℕ) → crc ≡ pec (before ++ bytes)
      → code_behind with_pec before bytes ≡ byte ∷ rest
      → nat_eq byte crc ≡ false → ⊥
  wrong_code false bytes crc byte rest so_far same other = cc same
  wrong_code true bytes crc byte rest so_far same other =
      let code : pec (before ++ bytes) ≡ byte = cc same in
      let right : nat_eq byte crc ≡ true = eq-eqb byte crc (sym code ∙ sym so_far) in
      cc (right, other)

  another_code : (form : Form) (mode : PecMode) (bytes : List ℕ) → IsData form mode bytes → (crc byte : ℕ)
      → crc ≡ pec (before ++ bytes)
      → nat_eq byte crc ≡ false → BeginsData form mode before (bytes ++ byte ∷ []) → ⊥
  another_code form mode bytes is crc byte so_far other (all, rest, (whole, with_pec, spells), split) =
      let theirs : all ≡ wire form whole ++ code_behind with_pec before (wire form whole) = spells.spelled
      ∙ checked_is with_pec before (wire form whole) in
      let same : wire form whole ++ code_behind with_pec before (wire form whole) ≡ wire form is.whole ++ byte ∷ rest =
      sym theirs ∙ split ∙ append_assoc bytes (byte ∷ []) rest ∙ ap (λ (bs : List ℕ). bs ++ byte ∷ rest) is.spelled in
      let ends = one_wire form whole is.whole (code_behind with_pec before (wire form whole))
      (byte ∷ rest) spells.fits is.fits same in
      let covered : before ++ bytes ≡ before ++ wire form whole =
      ap (λ (bs : List ℕ). before ++ bs) (is.spelled ∙ ap (wire form) (sym ends.0)) in
      wrong_code with_pec (wire form whole) crc byte rest (so_far ∙ ap pec covered) ends.1 other

  -- a code that may come, and another one
  code_taken : (form : Form) (mode : PecMode) (bytes : List ℕ) → IsData form mode bytes → (crc byte : ℕ)
      → crc ≡ pec (before ++ bytes) → (answer : Bool)
      → nat_eq byte crc ≡ answer → Leaves form mode before (bytes ++ byte ∷ []) (if answer then Nothing else Closed)
  code_taken form mode bytes is crc byte so_far true same =
      let right : byte ≡ pec (before ++ wire form is.whole) = eqb-true byte crc same ∙ so_far
      ∙ ap (λ (bs : List ℕ). pec (before ++ bs)) is.spelled in
      record {
        whole = is.whole;
        with_pec = true;
        spells = record {
          fits = is.fits;
          allowed = is.allowed;
          spelled =
              ap (λ (bs : List ℕ). bs ++ byte ∷ []) is.spelled ∙ ap (λ (b : ℕ). wire form is.whole ++ b ∷ []) right;
        };
        last = inl refl;
      }
  code_taken form mode bytes is crc byte so_far false other =
      λ begins. another_code form mode bytes is crc byte so_far other begins

  pub data_taken : (form : Form) (mode : PecMode) (bytes : List ℕ) (n : ℕ) → IsMissing form n bytes → (byte : ℕ)
      → IsByte byte → (answer : Bool)
      → nat_lt 1 n ≡ answer → Leaves form mode before (bytes ++ byte ∷ [])
      (if answer then Data (n - 1) else ends_data mode)
  data_taken form mode bytes n is byte small true more =
      let many : 1 < n = ltb-true 1 n more in
      let long : length (is.front ++ byte ∷ []) ≡ length is.front + 1 = length-append is.front (byte ∷ []) in
      let total : length is.front + n ≡ length (is.front ++ byte ∷ []) + (n - 1) = omega arith in
      record {
        front = is.front ++ byte ∷ [];
        small = small_append is.front (byte ∷ []) is.small (small, tt);
        some = omega arith;
        taken = subst (Takes form) total is.taken;
        spelled = ap (λ (bs : List ℕ). bs ++ byte ∷ []) is.spelled ∙ front_push form (length is.front + n) is.front byte
            ∙ ap (λ (m : ℕ). wire_front form m (is.front ++ byte ∷ [])) total;
      }
  data_taken form mode bytes n is byte small false last =
      let few : n ≡ 1 = one_left n is.some last in
      let long : length (is.front ++ byte ∷ []) ≡ length is.front + n =
      omega (arith, length-append is.front (byte ∷ [])) in
      data_ended form mode (bytes ++ byte ∷ []) (is.front ++ byte ∷ [])
      (data_fit form (is.front ++ byte ∷ []) (length is.front + n)
      (small_append is.front (byte ∷ []) is.small (small, tt)) long is.taken)
      (ap (λ (bs : List ℕ). bs ++ byte ∷ []) is.spelled
      ∙ sym (wire_of_front form is.front (byte ∷ []) (length is.front + n) long))

  count_taken : (mode : PecMode) (byte : ℕ) → IsByte byte → (answer : Bool) → nat_eq byte 0 ≡ answer
      → Leaves Block mode before (byte ∷ []) (if answer then ends_data mode else Data byte)
  count_taken mode byte small true none =
      data_ended Block mode (byte ∷ []) [] (record { small = tt; taken = omega arith })
      (ap (λ (b : ℕ). b ∷ []) (eqb-true byte 0 none))
  count_taken mode byte small false some =
      record {
        front = [];
        small = tt;
        some = not_zero byte some;
        taken = omega arith;
        spelled =
            ap (λ (b : ℕ). b ∷ []) (omega arith);
      }

  no_more : (form : Form) (mode : PecMode) (bytes : List ℕ) → IsEnded form mode before bytes → (byte : ℕ)
      → BeginsData form mode before (bytes ++ byte ∷ []) → ⊥
  no_more form mode bytes is byte (all, rest, spells, split) = too_long form mode bytes is byte rest all spells
      (split ∙ append_assoc bytes (byte ∷ []) rest)

  still_closed : (form : Form) (mode : PecMode) (bytes : List ℕ) → (BeginsData form mode before bytes → ⊥) → (byte : ℕ)
      → BeginsData form mode before (bytes ++ byte ∷ []) → ⊥
  still_closed form mode bytes never byte (all, rest, spells, split) =
      never (all, byte ∷ rest, spells, split ∙ append_assoc bytes (byte ∷ []) rest)

  -- what is left after one byte more
  pub moved_on : (form : Form) (mode : PecMode) (bytes : List ℕ) (left : DataLeft) → Leaves form mode before bytes left
      → (crc byte : ℕ) → crc ≡ pec (before ++ bytes)
      → IsByte byte → Leaves form mode before (bytes ++ byte ∷ []) (after left mode crc byte)
  moved_on form mode bytes Count (is, none) crc byte so_far small =
      let first = count_taken mode byte small (nat_eq byte 0) refl in
      let P : Form → List ℕ → Type 0 = λ (f : Form) (bs : List ℕ). Leaves f mode before (bs ++ byte ∷ [])
      (after Count mode crc byte) in
      subst (λ (f : Form). P f bytes) (sym is) (subst (P Block) (sym none) first)
  moved_on form mode bytes (Data n) is crc byte so_far small = data_taken form mode bytes n is byte small
      (nat_lt 1 n) refl
  moved_on form mode bytes Code is crc byte so_far small = code_taken form mode bytes is crc byte so_far
      (nat_eq byte crc) refl
  moved_on form mode bytes Nothing is crc byte so_far small = λ begins. no_more form mode bytes is byte begins
  moved_on form mode bytes Closed never crc byte so_far small = λ begins. still_closed form mode bytes never byte begins

  -- ---- what the code answers

  -- a mode allows a packet with a code, or without
  pub some_pec : (mode : PecMode) → (with_pec : Bool) × AllowsPec mode with_pec
  some_pec Off = (false, refl)
  some_pec On = (true, refl)
  some_pec Optional = (false, tt)

  -- data that begin so, and all that is on the wire
  of_data : (form : Form) (mode : PecMode) (whole : List ℕ) → Fits form whole
      → SpellsSomeData form mode before (checked (some_pec mode).0 before (wire form whole))
  of_data form mode whole fits = (
    whole,
    (some_pec mode).0,
    record { fits = fits; allowed = (some_pec mode).1; spelled = refl },
  )

  -- bytes with more after them are a proper beginning
  proper : (bytes rest all : List ℕ) → 0 < length rest → all ≡ bytes ++ rest → IsProperPrefix bytes all
  proper bytes [] all some split = absurd (omega arith)
  proper bytes (next ∷ rest) all some split = record { next = next; rest = rest; split = split }

  pub inside : (form : Form) (mode : PecMode) (bytes : List ℕ) (left : DataLeft) → Leaves form mode before bytes left
      → goes_on left ≡ true → IsInside form mode before bytes
  -- the count is missing: an empty block begins so
  inside form mode bytes Count (is, none) on =
      let w : SpellsSomeData Block mode before (checked (some_pec mode).0 before (0 ∷ [])) =
      of_data Block mode [] (record { small = tt; taken = omega arith }) in
      let all = checked (some_pec mode).0 before (0 ∷ []) in
      let first : IsInside Block mode before [] = (
        all,
        w,
        proper [] ((0 ∷ []) ++ code_behind (some_pec mode).0 before (0 ∷ [])) all (omega arith)
            (checked_is (some_pec mode).0 before (0 ∷ [])),
      ) in
      subst (λ (f : Form). IsInside f mode before bytes) (sym is) (subst (IsInside Block mode before) (sym none) first)
  -- bytes are missing: zeros complete them
  inside form mode bytes (Data n) is on =
      let whole = is.front ++ zeros n in
      let long : length whole ≡ length is.front + n = omega (arith, length-append is.front (zeros n), length_zeros n) in
      let fits : Fits form whole = data_fit form whole (length is.front + n)
      (small_append is.front (zeros n) is.small (small_zeros n)) long is.taken in
      let spells = of_data form mode whole fits in
      let code = code_behind (some_pec mode).0 before (wire form whole) in
      let all = checked (some_pec mode).0 before (wire form whole) in
      let split : all ≡ bytes ++ (zeros n ++ code) =
      checked_is (some_pec mode).0 before (wire form whole)
      ∙ ap (λ (bs : List ℕ). bs ++ code) (wire_of_front form is.front (zeros n) (length is.front + n) long)
      ∙ append_assoc (wire_front form (length is.front + n) is.front) (zeros n) code
      ∙ ap (λ (bs : List ℕ). bs ++ (zeros n ++ code)) (sym is.spelled) in (
        all,
        spells,
        proper bytes (zeros n ++ code) all
            (omega (arith, is.some, length_zeros n, length-append (zeros n) code)) split,
      )
  -- the packet error code is missing
  inside form mode bytes Code is on =
      let last = pec (before ++ wire form is.whole) in (
        wire form is.whole ++ last ∷ [],
        (is.whole, true, record { fits = is.fits; allowed = is.allowed; spelled = refl }),
        record { next = last; rest = []; split = ap (λ (bs : List ℕ). bs ++ last ∷ []) (sym is.spelled) },
      )
  -- nothing is missing, or no data begin so
  inside form mode bytes Nothing is on = absurd (cc on)
  inside form mode bytes Closed is on = absurd (cc on)

  pub goes_on_inside : (form : Form) (mode : PecMode) (bytes : List ℕ) (left : DataLeft)
      → Leaves form mode before bytes left → IsInside form mode before bytes → goes_on left ≡ true
  goes_on_inside form mode bytes Count is within = refl
  goes_on_inside form mode bytes (Data n) is within = refl
  goes_on_inside form mode bytes Code is within = refl
  goes_on_inside form mode bytes Nothing is (all, spells, longer) =
      absurd (too_long form mode bytes is longer.next longer.rest all spells longer.split)
  goes_on_inside form mode bytes Closed never (all, spells, longer) =
      absurd (never (all, longer.next ∷ longer.rest, spells, longer.split))

  -- what is not closed
  abbrev pub is_open : DataLeft → Bool
  is_open Count = true
  is_open (Data n) = true
  is_open Code = true
  is_open Nothing = true
  is_open Closed = false

  begins_inside : (form : Form) (mode : PecMode) (bytes : List ℕ) → IsInside form mode before bytes
      → BeginsData form mode before bytes
  begins_inside form mode bytes (all, spells, longer) = (all, longer.next ∷ longer.rest, spells, longer.split)

  pub begun : (form : Form) (mode : PecMode) (bytes : List ℕ) (left : DataLeft) → Leaves form mode before bytes left
      → is_open left ≡ true → BeginsData form mode before bytes
  begun form mode bytes Count is unclosed = begins_inside form mode bytes (inside form mode bytes Count is refl)
  begun form mode bytes (Data n) is unclosed = begins_inside form mode bytes (inside form mode bytes (Data n) is refl)
  begun form mode bytes Code is unclosed = begins_inside form mode bytes (inside form mode bytes Code is refl)
  begun form mode bytes Nothing is unclosed = (bytes, [], (is.whole, is.with_pec, is.spells), sym (append-nil bytes))
  begun form mode bytes Closed is unclosed = absurd (cc unclosed)

  pub open_begun : (form : Form) (mode : PecMode) (bytes : List ℕ) (left : DataLeft)
      → Leaves form mode before bytes left → BeginsData form mode before bytes → is_open left ≡ true
  open_begun form mode bytes Count is begins = refl
  open_begun form mode bytes (Data n) is begins = refl
  open_begun form mode bytes Code is begins = refl
  open_begun form mode bytes Nothing is begins = refl
  open_begun form mode bytes Closed never begins = absurd (never begins)

  data_is_open : (mode : PecMode) → is_open (ends_data mode) ≡ true
  data_is_open Off = refl
  data_is_open On = refl
  data_is_open Optional = refl

  count_open : (none : Bool) (byte : ℕ) (mode : PecMode) → is_open (if none then ends_data mode else Data byte) ≡ true
  count_open true byte mode = data_is_open mode
  count_open false byte mode = refl

  data_open : (more : Bool) (n : ℕ) (mode : PecMode) → is_open (if more then Data (n - 1) else ends_data mode) ≡ true
  data_open true n mode = refl
  data_open false n mode = data_is_open mode

  code_open : (right : Bool) → is_open (if right then Nothing else Closed) ≡ right
  code_open true = refl
  code_open false = refl

  -- a byte is taken where something is left open after it
  pub takes_is : (left : DataLeft) (mode : PecMode) (crc byte : ℕ) → is_open (after left mode crc byte)
      ≡ takes left crc byte
  takes_is Count mode crc byte = count_open (nat_eq byte 0) byte mode
  takes_is (Data n) mode crc byte = data_open (nat_lt 1 n) n mode
  takes_is Code mode crc byte = code_open (nat_eq byte crc)
  takes_is Nothing mode crc byte = refl
  takes_is Closed mode crc byte = refl

  pub takes_begins : (form : Form) (mode : PecMode) (bytes : List ℕ) (left : DataLeft)
      → Leaves form mode before bytes left → (crc byte : ℕ) → crc ≡ pec (before ++ bytes)
      → IsByte byte → takes left crc byte ≡ true → BeginsData form mode before (bytes ++ byte ∷ [])
  takes_begins form mode bytes left is crc byte so_far small taken =
      begun form mode (bytes ++ byte ∷ []) (after left mode crc byte)
      (moved_on form mode bytes left is crc byte so_far small) (takes_is left mode crc byte ∙ taken)

  pub begins_takes : (form : Form) (mode : PecMode) (bytes : List ℕ) (left : DataLeft)
      → Leaves form mode before bytes left → (crc byte : ℕ) → crc ≡ pec (before ++ bytes)
      → IsByte byte → BeginsData form mode before (bytes ++ byte ∷ []) → takes left crc byte ≡ true
  begins_takes form mode bytes left is crc byte so_far small begins =
      sym (takes_is left mode crc byte) ∙ open_begun form mode (bytes ++ byte ∷ []) (after left mode crc byte)
      (moved_on form mode bytes left is crc byte so_far small) begins

  -- ---- whole data, and whether a code stands after them

  code_there : (with_pec : Bool) → (with_pec ≡ true) ⊎ (Optional ≡ Off) → with_pec ≡ true
  code_there with_pec (inl is) = is
  code_there with_pec (inr is) = absurd (cc is)

  -- where a code has to come it is there
  code_missing : (with_pec : Bool) (bytes : List ℕ) → with_pec ≡ true → [] ≡ code_behind with_pec before bytes → ⊥
  code_missing true bytes is none = omega (arith, ap length none)
  code_missing false bytes is none = absurd (cc is)

  pub whole_spells : (form : Form) (mode : PecMode) (bytes : List ℕ) (left : DataLeft)
      → Leaves form mode before bytes left → is_whole left mode ≡ true
      → (whole : List ℕ) × SpellsData form mode before whole (has_code left mode) bytes
  whole_spells form mode bytes Count is done = absurd (cc done)
  whole_spells form mode bytes (Data n) is done = absurd (cc done)
  whole_spells form Off bytes Code is done = absurd (cc done)
  whole_spells form On bytes Code is done = absurd (cc done)
  whole_spells form Optional bytes Code is done =
      (is.whole, record { fits = is.fits; allowed = tt; spelled = is.spelled })
  whole_spells form Off bytes Nothing is done =
      (is.whole, subst (λ (b : Bool). SpellsData form Off before is.whole b bytes) (is.spells.allowed) is.spells)
  whole_spells form On bytes Nothing is done =
      (is.whole, subst (λ (b : Bool). SpellsData form On before is.whole b bytes) (is.spells.allowed) is.spells)
  whole_spells form Optional bytes Nothing is done = (
    is.whole,
    subst (λ (b : Bool). SpellsData form Optional before is.whole b bytes)
        (code_there is.with_pec is.last) is.spells,
  )
  whole_spells form mode bytes Closed is done = absurd (cc done)

  pub spells_whole : (form : Form) (mode : PecMode) (bytes : List ℕ) (left : DataLeft)
      → Leaves form mode before bytes left → SpellsSomeData form mode before bytes → is_whole left mode ≡ true
  spells_whole form mode bytes Count (is, none) (whole, with_pec, spells) =
      let spelled : bytes ≡ wire Block whole ++ code_behind with_pec before (wire form whole) =
      spells.spelled ∙ checked_is with_pec before (wire form whole)
      ∙ ap (λ (f : Form). wire f whole ++ code_behind with_pec before (wire form whole)) is in
      absurd (omega (arith, ap length (sym none ∙ spelled)))
  spells_whole form mode bytes (Data n) is (whole, with_pec, spells) =
      absurd (not_ended form is.front n whole (code_behind with_pec before (wire form whole)) is.some is.taken
      spells.fits
      (sym is.spelled ∙ spells.spelled ∙ checked_is with_pec before (wire form whole)))
  spells_whole form Off bytes Code is (whole, with_pec, spells) = let none : true ≡ false = is.allowed in
      absurd (cc none)
  spells_whole form On bytes Code is (whole, with_pec, spells) =
      let ends = one_wire form is.whole whole [] (code_behind with_pec before (wire form whole)) is.fits spells.fits
      (append-nil (wire form is.whole) ∙ sym is.spelled ∙ spells.spelled
      ∙ checked_is with_pec before (wire form whole)) in
      absurd (code_missing with_pec (wire form whole) spells.allowed ends.1)
  spells_whole form Optional bytes Code is spells = refl
  spells_whole form mode bytes Nothing is spells = refl
  spells_whole form mode bytes Closed never spells = absurd (never (bytes, [], spells, sym (append-nil bytes)))

  -- ---- room

  few_data : (form : Form) (n : ℕ) → Takes form n → n ≤ 255
  few_data Zero n taken = omega arith
  few_data One n taken = omega arith
  few_data Two n taken = omega arith
  few_data Four n taken = omega arith
  few_data Eight n taken = omega arith
  few_data Block n taken = taken

  front_room : (form : Form) (n : ℕ) (front : List ℕ) → length (wire_front form n front) ≤ length front + 1
  front_room Zero n front = omega arith
  front_room One n front = omega arith
  front_room Two n front = omega arith
  front_room Four n front = omega arith
  front_room Eight n front = omega arith
  front_room Block n front = omega arith

  wire_room : (form : Form) (whole : List ℕ) → Fits form whole → length (wire form whole) ≤ 256
  wire_room Zero whole fits = omega (arith, fits.taken)
  wire_room One whole fits = omega (arith, fits.taken)
  wire_room Two whole fits = omega (arith, fits.taken)
  wire_room Four whole fits = omega (arith, fits.taken)
  wire_room Eight whole fits = omega (arith, fits.taken)
  wire_room Block whole fits = omega (arith, fits.taken)

  -- where a byte may follow there are no more bytes than a count and 255 data
  pub room : (form : Form) (mode : PecMode) (bytes : List ℕ) (left : DataLeft) → Leaves form mode before bytes left
      → goes_on left ≡ true → length bytes < 257
  room form mode bytes Count (is, none) on = omega (arith, ap length none)
  room form mode bytes (Data n) is on = omega (
    arith,
    ap length is.spelled,
    front_room form (length is.front + n) is.front,
    few_data form (length is.front + n) is.taken,
  )
  room form mode bytes Code is on = omega (arith, ap length is.spelled, wire_room form is.whole is.fits)
  room form mode bytes Nothing is on = absurd (cc on)
  room form mode bytes Closed is on = absurd (cc on)

  pub takes_goes_on : (left : DataLeft) (crc byte : ℕ) → takes left crc byte ≡ true → goes_on left ≡ true
  takes_goes_on Count crc byte taken = refl
  takes_goes_on (Data n) crc byte taken = refl
  takes_goes_on Code crc byte taken = refl
  takes_goes_on Nothing crc byte taken = absurd (cc taken)
  takes_goes_on Closed crc byte taken = absurd (cc taken)
