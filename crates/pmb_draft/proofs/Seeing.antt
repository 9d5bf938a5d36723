-- What a `Seen` keeps, with one event more. For `Seen::take`.
use Rattle.std.proofs.Common.{◌≡◌, ◌∙◌, ◌⊎◌, ◌<◌, ◌≤◌, ◌*◌, ◌/◌, ◌%◌, inl, inr, ℕ, Bool, true, false, List, [], ◌∷◌, ◌++◌}
use Rattle.std.proofs.Common.{ap, refl, sym, subst, arith, length, cond, eq-eqb}
use Rattle.std.specs.Prelude.{slice_index_or, slice_set, nat_eq, nat_lt, not, ◌&&◌, ◌||◌}
use Rattle.std.specs.List.{AllByRecursion, list_any}
use Rattle.std.proofs.lemmas.Bool.{eqb-true, eqb-false, ltb-true, ltb-false}
use Rattle.std.proofs.lemmas.List.{length-set, get_or-set_same, get_or-set_other}
use Rattle.std.proofs.lemmas.List.Folds.{list_any-append}
use Rattle.pmb_bus.specs.declared.event.Event.{Event}
use Rattle.pmb_bus.specs.declared.event.Event.TheVariants as bus
use Rattle.pmb_draft.specs.Events.{Acks}
use Rattle.pmb_draft.specs.Seen.{AreListed, is_device_address, listed_with}
use Rattle.pmb_draft.specs.declared.leg_start.LegStart.{LegStart}
use Rattle.pmb_draft.specs.declared.leg_start.LegStart.TheVariants as starts
use Rattle.pmb_draft.specs.declared.seen.Seen.{Seen}
use Rattle.pmb_draft.specs.machine.CodeSet.{IsIn}
use Rattle.pmb_draft.specs.machine.LegStart.{EndsWithStart, after_event}
use Rattle.pmb_draft.specs.machine.Seen.{AddsAddress, AddsCode, AddsNothing, AreAcked, HasSeen, Met}
use Rattle.pmb_draft.proofs.Acking.{IsNewAck, acked_stay, acks_split, acks_stay, all_push, all_weaker, each_stays, listed_stay}
use Rattle.pmb_draft.proofs.Coding.{IsNewCode, codes_split}
use Rattle.pmb_draft.proofs.LegStarts.{address_is, code_is, start_goes_on}

-- ---- an address is met

-- tests that all hold, and tests of which one doesn't
all_hold : (f a l : Bool) → (f && not a && l) ≡ true → (f ≡ true) × (a ≡ false) × (l ≡ true)
all_hold true true l h = absurd (cc)
all_hold true false true h = (refl, refl, refl)
all_hold true false false h = absurd (cc)
all_hold false a l h = absurd (cc)

one_fails : (f a l : Bool) → f ≡ true → (f && not a && l) ≡ false → (a ≡ true) ⊎ (l ≡ false)
one_fails true true l is h = inl refl
one_fails true false true is h = absurd (cc)
one_fails true false false is h = inr refl
one_fails false a l is h = absurd (cc)

or_left : (a b : Bool) → a ≡ true → (a || b) ≡ true
or_left true b is = refl
or_left false b is = absurd (cc)

or_right : (a b : Bool) → b ≡ true → (a || b) ≡ true
or_right true b is = refl
or_right false b is = is

any_more : (p : ℕ → Bool) (xs ys : List ℕ) → list_any p xs ≡ true → list_any p (xs ++ ys) ≡ true
any_more p xs ys is = list_any-append p xs ys ∙ or_left (list_any p xs) (list_any p ys) is

any_last : (p : ℕ → Bool) (xs : List ℕ) (y : ℕ) → p y ≡ true → list_any p (xs ++ y ∷ []) ≡ true
any_last p xs y is =
    list_any-append p xs (y ∷ []) ∙ or_right (list_any p xs) (p y || false) (or_left (p y) false is)

module _ (events front : List Event) (byte : ℕ) (is : events ≡ front ++ bus.Start ∷ bus.Byte byte ∷ [])
    (one : (before : List Event) (b address : ℕ) → IsNewAck events bus.Ack before b address → b ≡ byte) where
  -- the ACK of it
  met : Acks (events ++ bus.Ack ∷ []) (byte / 2)
  met = (
    front,
    record {
      byte = byte;
      back = [];
      whole = ap (λ (es : List Event). es ++ bus.Ack ∷ []) is ∙ same front;
      of = refl;
    },
  )
    where
      same : (f : List Event) → (f ++ bus.Start ∷ bus.Byte byte ∷ []) ++ bus.Ack ∷ []
          ≡ f ++ bus.Start ∷ bus.Byte byte ∷ bus.Ack ∷ []
      same [] = refl
      same (x ∷ xs) = ap (λ (es : List Event). x ∷ es) (same xs)

  listed_by : (listed : List ℕ) → AreListed events listed → length listed ≤ 64 → (test : Bool)
      → (is_device_address (byte / 2) && not (list_any (nat_eq (byte / 2)) listed) && nat_lt (length listed) 64) ≡ test
      → AreListed (events ++ bus.Ack ∷ []) (cond test (listed ++ (byte / 2) ∷ []) listed)
  unfolding met
  listed_by listed are few true holds =
      let all = all_hold (is_device_address (byte / 2)) (list_any (nat_eq (byte / 2)) listed)
      (nat_lt (length listed) 64) holds in record {
        each = all_push (λ a. (is_device_address a ≡ true) × Acks (events ++ bus.Ack ∷ []) a) listed (byte / 2)
            (each_stays events bus.Ack listed are.each) (all.0, met);
        first = λ address before acks fine.
            let Answer = (list_any (nat_eq address) (listed ++ (byte / 2) ∷ []) ≡ true)
            ⊎ ((length (listed ++ (byte / 2) ∷ []) ≡ 64)
            × AllByRecursion (Acks (before ++ bus.Start ∷ bus.Byte acks.byte ∷ [])) (listed ++ (byte / 2) ∷ [])) in
            elim (acks_split events before bus.Ack address acks) as (λ _. Answer) [
              | inl old ↦
                  elim (are.first address before old.0 fine) as (λ _. Answer) [
                    | inl there ↦ inl (any_more (nat_eq address) listed ((byte / 2) ∷ []) there)
                    | inr full ↦
                        let less : length listed < 64 = ltb-true (length listed) 64 all.2 in
                        let is_full : length listed ≡ 64 = full.0 in
                        absurd (omega arith)
                  ]
              | inr new ↦
                  let same : byte / 2 ≡ address =
                  ap (λ (b : ℕ). b / 2) (sym (one before acks.byte address new)) ∙ new.of in
                  inl (any_last (nat_eq address) listed (byte / 2)
                  (subst (λ (a : ℕ). nat_eq address a ≡ true) (sym same) (eq-eqb address address refl)))
            ];
      }
  listed_by listed are few false fails = record {
    each = each_stays events bus.Ack listed are.each;
    first = λ address before acks fine.
        let Answer = (list_any (nat_eq address) listed ≡ true)
        ⊎ ((length listed ≡ 64) × AllByRecursion (Acks (before ++ bus.Start ∷ bus.Byte acks.byte ∷ [])) listed) in
        elim (acks_split events before bus.Ack address acks) as (λ _. Answer) [
          | inl old ↦
              elim (are.first address before old.0 fine) as (λ _. Answer) [
                | inl there ↦ inl there
                | inr full ↦ inr (
                  full.0,
                  subst (λ (b : ℕ). AllByRecursion (Acks (before ++ bus.Start ∷ bus.Byte b ∷ [])) listed) old.1 full.1,
                )
              ]
          | inr new ↦
              let same : byte / 2 ≡ address =
              ap (λ (b : ℕ). b / 2) (sym (one before acks.byte address new)) ∙ new.of in
              elim (one_fails (is_device_address (byte / 2)) (list_any (nat_eq (byte / 2)) listed)
              (nat_lt (length listed) 64)
              (subst (λ (a : ℕ). is_device_address a ≡ true) (sym same) fine) fails) as (λ _. Answer) [
                | inl there ↦ inl (subst (λ (a : ℕ). list_any (nat_eq a) listed ≡ true) same there)
                | inr full ↦
                    let most : 64 ≤ length listed = ltb-false (length listed) 64 full in
                    let is_full : length listed ≡ 64 = omega arith in
                    inr (
                      is_full,
                      all_weaker (λ a. (is_device_address a ≡ true) × Acks events a)
                          (Acks (before ++ bus.Start ∷ bus.Byte acks.byte ∷ []))
                          (λ a h. subst (λ (es : List Event). Acks es a) new.before_is h.1) listed are.each,
                    )
              ]
        ];
  }

  pub listed_met : (listed : List ℕ) → AreListed events listed → length listed ≤ 64
      → AreListed (events ++ bus.Ack ∷ []) (listed_with (byte / 2) listed)
  unfolding listed_by
  listed_met listed are few = listed_by listed are few
      (is_device_address (byte / 2) && not (list_any (nat_eq (byte / 2)) listed) && nat_lt (length listed) 64) refl

  -- the flag of it
  flag_by : (acked : List Bool) (address : ℕ) → byte / 2 < 128 → AreAcked events acked → address < 128
      → (b : Bool) → nat_eq address (byte / 2) ≡ b
      → ((slice_index_or (slice_set acked (byte / 2) true) address false ≡ true)
      → Acks (events ++ bus.Ack ∷ []) address)
      × (Acks (events ++ bus.Ack ∷ []) address
      → slice_index_or (slice_set acked (byte / 2) true) address false ≡ true)
  unfolding met
  flag_by acked address small are below true test =
      let same : address ≡ byte / 2 = eqb-true address (byte / 2) test in
      let at : byte / 2 < length acked = omega (arith, are.count) in (
        λ _. subst (λ (a : ℕ). Acks (events ++ bus.Ack ∷ []) a) (sym same) met,
        λ _. subst (λ (a : ℕ). slice_index_or (slice_set acked (byte / 2) true) a false ≡ true) (sym same)
            (get_or-set_same acked (byte / 2) true false at),
      )
  flag_by acked address small are below false test =
      let other : address ≡ byte / 2 → ⊥ = eqb-false address (byte / 2) test in
      let same : slice_index_or (slice_set acked (byte / 2) true) address false ≡ slice_index_or acked address false =
      get_or-set_other acked (byte / 2) address true false other in (
        λ is. acks_stay events bus.Ack address ((are.each address below).0 (sym same ∙ is)),
        λ acks.
            elim (acks_split events acks.0 bus.Ack address acks.1)
            as (λ _. slice_index_or (slice_set acked (byte / 2) true) address false ≡ true) [
              | inl old ↦ same ∙ (are.each address below).1 (acks.0, old.0)
              | inr new ↦ absurd (other (sym (ap (λ (b : ℕ). b / 2)
                  (sym (one acks.0 acks.1.byte address new)) ∙ new.of)))
            ],
      )

  pub acked_met : (acked : List Bool) → byte / 2 < 128 → AreAcked events acked
      → AreAcked (events ++ bus.Ack ∷ []) (slice_set acked (byte / 2) true)
  unfolding flag_by
  acked_met acked small are = record {
    each = λ address below. flag_by acked address small are below (nat_eq address (byte / 2)) refl;
    within = λ address acks.
        elim (acks_split events acks.0 bus.Ack address acks.1) as (λ _. address < 128) [
          | inl old ↦ are.within address (acks.0, old.0)
          | inr new ↦
              let same : byte / 2 ≡ address =
              ap (λ (b : ℕ). b / 2) (sym (one acks.0 acks.1.byte address new)) ∙ new.of in
              omega arith
        ];
    count = length-set acked (byte / 2) true ∙ are.count;
  }

-- ---- with one event more

module _ (events : List Event) (e : Event) (old new : Seen) (h : HasSeen old events)
    (start : new.start ≡ after_event old.start e) where
  start_is : EndsWithStart new.start (events ++ e ∷ [])
  start_is = subst (λ (s : LegStart). EndsWithStart s (events ++ e ∷ [])) (sym start)
      (start_goes_on old.start events e h.start)

  -- nothing is added
  pub none_new : ((before : List Event) (byte address : ℕ) → IsNewAck events e before byte address → ⊥)
      → ((address code : ℕ) → IsNewCode events e address code → IsIn new.codes address code)
      → ((a c : ℕ) → IsIn old.codes a c → IsIn new.codes a c)
      → new.acked ≡ old.acked → new.listed.items ≡ old.listed.items → HasSeen new (events ++ e ∷ [])
  unfolding start_is
  none_new none codes kept acked listed = record {
    start = start_is;
    listed = subst (λ (l : List ℕ). AreListed (events ++ e ∷ []) l) (sym listed)
        (listed_stay events e none old.listed.items h.listed);
    few = subst (λ (l : List ℕ). length l ≤ 64) (sym listed) h.few;
    acked = subst (λ (l : List Bool). AreAcked (events ++ e ∷ []) l) (sym acked)
        (acked_stay events e none old.acked h.acked);
    codes = λ address code has.
        elim (codes_split events e address code has) as (λ _. IsIn new.codes address code) [
          | inl before ↦ kept address code (h.codes address code before)
          | inr after ↦ codes address code after
        ];
  }

-- an event that is no ACK adds nothing
pub other_event : (events : List Event) (e : Event) (old new : Seen) → HasSeen old events → (e ≡ bus.Ack → ⊥)
    → new.start ≡ after_event old.start e → AddsNothing old new → HasSeen new (events ++ e ∷ [])
other_event events e old new h other start adds =
    none_new events e old new h start (λ before byte address is. absurd (other is.ack))
    (λ address code is. absurd (other is.ack))
    (λ a c is. subst (λ s. IsIn s a c) (sym adds.codes) is) adds.acked adds.listed

-- what START and a byte, or those of a code, make of where the events stand
not_address : (start : LegStart) (events : List Event) → EndsWithStart start events
    → ((byte : ℕ) → start ≡ starts.Address byte → ⊥)
    → (before : List Event) (byte address : ℕ) → IsNewAck events bus.Ack before byte address → ⊥
not_address start events at other before byte address is =
    other byte (address_is start events before byte at is.before_is)

not_code : (start : LegStart) (events : List Event) → EndsWithStart start events
    → ((byte code : ℕ) → start ≡ starts.Code byte code → ⊥)
    → (address code : ℕ) → IsNewCode events bus.Ack address code → ⊥
not_code start events at other address code is =
    other (2 * address) code (code_is start events is.before (2 * address) code at is.before_is)

nothing_at : (events : List Event) (old new : Seen) → HasSeen old events → new.start ≡ after_event old.start bus.Ack
    → ((byte : ℕ) → old.start ≡ starts.Address byte → ⊥)
    → ((byte code : ℕ) → old.start ≡ starts.Code byte code → ⊥)
    → AddsNothing old new → HasSeen new (events ++ bus.Ack ∷ [])
nothing_at events old new h start no_address no_code adds =
    none_new events bus.Ack old new h start (not_address old.start events h.start no_address)
    (λ address code is. absurd (not_code old.start events h.start no_code address code is))
    (λ a c is. subst (λ s. IsIn s a c) (sym adds.codes) is) adds.acked adds.listed

address_at : (events : List Event) (old new : Seen) (byte : ℕ) → HasSeen old events
    → new.start ≡ after_event old.start bus.Ack → old.start ≡ starts.Address byte → AddsAddress byte old new
    → HasSeen new (events ++ bus.Ack ∷ [])
address_at events old new byte h start at adds =
    let stands : EndsWithStart (starts.Address byte) events =
    subst (λ (s : LegStart). EndsWithStart s events) at h.start in
    let one = λ (before : List Event) (b address : ℕ) (is : IsNewAck events bus.Ack before b address).
    let same : starts.Address byte ≡ starts.Address b = sym at ∙ address_is old.start events before b h.start is.before_is in
    let equal : b ≡ byte = cc in
    equal in record {
      start = subst (λ (s : LegStart). EndsWithStart s (events ++ bus.Ack ∷ [])) (sym start)
          (start_goes_on old.start events bus.Ack h.start);
      listed = subst (λ (l : List ℕ). AreListed (events ++ bus.Ack ∷ []) l) (sym adds.listed)
          (listed_met events stands.front byte stands.whole one old.listed.items h.listed h.few);
      few = adds.few h.few;
      acked = subst (λ (l : List Bool). AreAcked (events ++ bus.Ack ∷ []) l) (sym adds.acked)
          (acked_met events stands.front byte stands.whole one old.acked adds.small h.acked);
      codes = λ address code has.
          subst (λ s. IsIn s address code) (sym adds.codes)
          (elim (codes_split events bus.Ack address code has) as (λ _. IsIn old.codes address code) [
            | inl before ↦ h.codes address code before
            | inr after ↦ absurd (not_code old.start events h.start
                (λ b c is. let clash : starts.Address byte ≡ starts.Code b c = sym at ∙ is in cc) address code after)
          ]);
    }

code_at : (events : List Event) (old new : Seen) (byte code : ℕ) → HasSeen old events
    → new.start ≡ after_event old.start bus.Ack → old.start ≡ starts.Code byte code → AddsCode byte code old new
    → HasSeen new (events ++ bus.Ack ∷ [])
code_at events old new byte code h start at adds =
    none_new events bus.Ack old new h start
    (not_address old.start events h.start
    (λ b is. let clash : starts.Code byte code ≡ starts.Address b = sym at ∙ is in cc))
    (λ address c is.
    let same : starts.Code byte code ≡ starts.Code (2 * address) c =
    sym at ∙ code_is old.start events is.before (2 * address) c h.start is.before_is in
    let bytes : byte ≡ 2 * address = cc in
    let codes : code ≡ c = cc in
    let even : byte % 2 ≡ 0 = omega arith in
    let half : byte / 2 ≡ address = omega arith in
    subst (λ (x : ℕ). IsIn new.codes address x) codes
    (subst (λ (x : ℕ). IsIn new.codes x code) half (adds.there even)))
    adds.kept adds.acked adds.listed

-- what an ACK adds is seen
pub ack_at : (at : LegStart) (events : List Event) (old new : Seen) → HasSeen old events
    → new.start ≡ after_event old.start bus.Ack → old.start ≡ at → Met at old new → HasSeen new (events ++ bus.Ack ∷ [])
ack_at starts.Elsewhere events old new h start at adds =
    nothing_at events old new h start (λ b is. let clash : starts.Elsewhere ≡ starts.Address b = sym at ∙ is in cc)
    (λ b c is. let clash : starts.Elsewhere ≡ starts.Code b c = sym at ∙ is in cc) adds
ack_at starts.Start events old new h start at adds =
    nothing_at events old new h start (λ b is. let clash : starts.Start ≡ starts.Address b = sym at ∙ is in cc)
    (λ b c is. let clash : starts.Start ≡ starts.Code b c = sym at ∙ is in cc) adds
ack_at (starts.Address byte) events old new h start at adds = address_at events old new byte h start at adds
ack_at (starts.Acked byte) events old new h start at adds =
    nothing_at events old new h start (λ b is. let clash : starts.Acked byte ≡ starts.Address b = sym at ∙ is in cc)
    (λ b c is. let clash : starts.Acked byte ≡ starts.Code b c = sym at ∙ is in cc) adds
ack_at (starts.Code byte code) events old new h start at adds = code_at events old new byte code h start at adds
