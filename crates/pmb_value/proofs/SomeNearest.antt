-- Each quantity in the range of a format has a nearest code, and any other is below or above it:
-- for the law `quantities_have_answers`. There are at most 2^16 codes and what is asked of each is
-- decided; so the best one is found by a search, and of two that are equally near the even one is
-- taken.
use Rattle.std.proofs.Common.{◌≡◌, ◌≢◌, ℕ, zero, suc, ◌%◌, ◌^◌, ◌<◌, ◌≤◌, ◌⊎◌, inl, inr, ℤ, pos, ◌*ℤ◌, ◌-ℤ◌, ◌<ℤ◌, ◌≤ℤ◌}
use Rattle.std.proofs.Common.{unsigned_abs, sym, ◌∙◌, ap, subst, arith}
use Rattle.std.proofs.lemmas.Int.{ints, by_lt_z}
use Rattle.std.proofs.lemmas.Bool.{cases_lt, cases_eq}
use Rattle.pmb_quantity.specs.Fraction.{Fraction}
use Rattle.pmb_format.specs.Coding.{Coding, IsAbove, IsBelow, IsInRange, IsNearest, IsWord, distance, scaled}
use Rattle.pmb_format.specs.Coding.{scaled_code}
use Rattle.pmb_format.proofs.Nearest.{not_best}
use Rattle.pmb_format.proofs.OneNearest.{IsSeparated}
use Rattle.pmb_half.specs.Half.{exponent_field, half}
use Rattle.pmb_vid.specs.Vid.{first_code, last_code, vid}
use Rattle.pmb_vid.specs.declared.table.VidTable.{VidTable}
use Rattle.pmb_vid.specs.declared.table.VidTable.TheVariants.{Vr11, Vr12, Vr13, Imvp9, Amd625mv, Nvidia195mv}
use Rattle.pmb_linear.specs.Linear.{exponent, linear11_fixed}
use Rattle.pmb_value.specs.Answers.{HasAnswers}

-- ---- what can be decided

abbrev pub Decided : Type 0 → Type 0
Decided P = P ⊎ (P → ⊥)

-- a number below a bound for which something holds, or it holds for none
search : (P : ℕ → Type 0) → ((k : ℕ) → Decided (P k)) → (n : ℕ) → ((k : ℕ) × P k) ⊎ ((k : ℕ) → k < n → P k → ⊥)
search P decide zero = inr (λ k less holds. omega (arith, less))
search P decide (suc n) =
    elim (search P decide n) [
      | inl found ↦ inl found
      | inr none ↦
          elim (decide n) [
            | inl holds ↦ inl (n, holds)
            | inr fails ↦ inr (λ k less holds. elim (cases_lt k n) [
              | inl before ↦ none k before holds
              | inr behind ↦ fails (subst P (omega (arith, less, behind)) holds)
            ])
          ]
    ]

same_integer : (a b : ℤ) → Decided (a ≡ b)
same_integer a b =
    by_lt_z a b (λ less. inr (λ same. omega (arith, ints, less, same))) (λ at_least.
    by_lt_z b a (λ more. inr (λ same. omega (arith, ints, more, same)))
    (λ at_most. inl (omega (arith, ints, at_least, at_most))))

pub decide_word : (k : ℕ) → Decided (IsWord k)
decide_word k = elim (cases_lt k (2 ^ 16))
    [ inl small ↦ inl small | inr large ↦ inr (λ word. omega (arith, large, word)) ]

pub decide_fixed : (e : ℤ) (k : ℕ) → Decided ((linear11_fixed e).IsCode k)
decide_fixed e k =
    elim (decide_word k) [
      | inr large ↦ inr (λ code. large code.0)
      | inl word ↦ elim (same_integer (exponent k) e)
          [ inl same ↦ inl (word, same) | inr other ↦ inr (λ code. other code.1) ]
    ]

pub decide_half : (k : ℕ) → Decided (half.IsCode k)
decide_half k =
    elim (decide_word k) [
      | inr large ↦ inr (λ code. large code.0)
      | inl word ↦ elim (cases_eq (exponent_field k) 31)
          [ inl last ↦ inr (λ code. code.1 last) | inr other ↦ inl (word, other) ]
    ]

pub decide_vid : (table : VidTable) (k : ℕ) → Decided ((vid table).IsCode k)
decide_vid table k =
    elim (cases_lt k (first_code table)) [
      | inl before ↦ inr (λ code. omega (arith, before, code.0))
      | inr from ↦ elim (cases_lt (last_code table) k)
          [ inl behind ↦ inr (λ code. omega (arith, behind, code.1)) | inr to ↦ inl (from, to) ]
    ]

last_is_byte : (table : VidTable) → last_code table ≤ 255
last_is_byte Vr11 = omega arith
last_is_byte Vr12 = omega arith
last_is_byte Vr13 = omega arith
last_is_byte Imvp9 = omega arith
last_is_byte Amd625mv = omega arith
last_is_byte Nvidia195mv = omega arith

pub vid_word : (table : VidTable) (k : ℕ) → (vid table).IsCode k → k < 2 ^ 16
vid_word table k code = omega (arith, last_is_byte table, code.1)

pub first_is_code : (table : VidTable) → (vid table).IsCode (first_code table)
first_is_code Vr11 = (omega arith, omega arith)
first_is_code Vr12 = (omega arith, omega arith)
first_is_code Vr13 = (omega arith, omega arith)
first_is_code Imvp9 = (omega arith, omega arith)
first_is_code Amd625mv = (omega arith, omega arith)
first_is_code Nvidia195mv = (omega arith, omega arith)

-- ---- the nearest code

module _ (f : Coding) (separated : IsSeparated f) (decide : (k : ℕ) → Decided (f.IsCode k)) (bound : ℕ)
    (below_bound : (k : ℕ) → f.IsCode k → k < bound) (some_code : (k : ℕ) × f.IsCode k)
    (q : Fraction) (positive : 0 < q.denominator) where
  -- a code of which none below a bound is nearer
  best : (n : ℕ) → (m : ℕ) × f.IsCode m × ((k : ℕ) → k < n → f.IsCode k → distance f q m ≤ distance f q k)
  best zero = (some_code.0, some_code.1, λ k less code. absurd (omega (arith, less)))
  best (suc n) =
      -- the best of those below n, and whether n is a code
      let so_far = best n in
      elim (decide n) [
        -- it is none: the best stays
        | inr no_code ↦ (
          so_far.0,
          so_far.1,
          λ k less code. elim (cases_lt k n) [
            | inl before ↦ so_far.2 k before code
            | inr behind ↦ absurd (no_code (subst f.IsCode (omega (arith, less, behind)) code))
          ],
        )
        -- it is nearer: it is the best now
        | inl is_code ↦
            elim (cases_lt (distance f q n) (distance f q so_far.0)) [
              | inl nearer ↦ (
                n,
                is_code,
                λ k less code. elim (cases_lt k n) [
                  | inl before ↦ let least = so_far.2 k before code in omega (arith, least, nearer)
                  | inr behind ↦ let same : k ≡ n = omega (arith, less, behind) in
                      let distances = ap (distance f q) same in omega (arith, distances)
                ],
              )
              -- it is not: the best stays
              | inr farther ↦ (
                so_far.0,
                so_far.1,
                λ k less code. elim (cases_lt k n) [
                  | inl before ↦ so_far.2 k before code
                  | inr behind ↦ let same : k ≡ n = omega (arith, less, behind) in
                      let distances = ap (distance f q) same in omega (arith, distances, farther)
                ],
              )
            ]
      ]

  -- no code is nearer, and it is canonical
  record IsBest (c : ℕ) : Type 0 where
    -- it is a code, and canonical,
    code : f.IsCode c
    canonical : f.IsCanonical c
    -- and none is nearer
    none_nearer : (k : ℕ) → f.IsCode k → distance f q c ≤ distance f q k

  -- the canonical code of one of which none is nearer
  best_canonical : (m : ℕ) → f.IsCode m → ((k : ℕ) → f.IsCode k → distance f q m ≤ distance f q k)
      → (c : ℕ) × IsBest c × (f.numerator c ≡ f.numerator m)
  best_canonical m code least =
      let c = separated.canonical_codes m code in
      let distances : distance f q c.0 ≡ distance f q m =
      ap (λ n. unsigned_abs (scaled f q -ℤ pos q.denominator *ℤ n)) c.3 in (
        c.0,
        record {
          code = c.1;
          canonical = c.2;
          none_nearer = λ k is_code. let at_most = least k is_code in
              omega (arith, distances, at_most);
        },
        c.3,
      )

  -- another value is as near
  abbrev Ties : ℕ → ℕ → Type 0
  Ties c k = f.IsCode k × (f.numerator k ≢ f.numerator c) × (distance f q k ≡ distance f q c)

  decide_tie : (c k : ℕ) → Decided (Ties c k)
  decide_tie c k =
      elim (decide k) [
        | inr no_code ↦ inr (λ tie. no_code tie.0)
        | inl code ↦
            elim (same_integer (f.numerator k) (f.numerator c)) [
              | inl same ↦ inr (λ tie. tie.1 same)
              | inr other ↦
                  elim (cases_eq (distance f q k) (distance f q c)) [
                    | inl equal ↦ inl (code, other, equal)
                    | inr different ↦ inr (λ tie. different tie.2)
                  ]
            ]
      ]

  even_nearest : (c : ℕ) → IsBest c → c % 2 ≡ 0 → IsNearest f q c
  even_nearest c best even = record {
    is_code = best.code;
    canonical = best.canonical;
    none_nearer = best.none_nearer;
    even_at_tie = λ k code other tie. even;
  }

  -- two values that are equally near are not both those of odd codes
  not_between : (a b : ℕ) → IsBest a → IsBest b → a % 2 ≡ b % 2 → distance f q b ≡ distance f q a
      → f.numerator a <ℤ f.numerator b → ⊥
  not_between a b first second parity tie less =
      let middle = separated.between a b first.code second.code first.canonical second.canonical parity less in
      let nearer : distance f q middle.0 < distance f q a = not_best f q a b middle.0 positive tie middle.2 middle.3 in
      omega (arith, first.none_nearer middle.0 middle.1, nearer)

  not_both_odd : (a b : ℕ) → IsBest a → IsBest b → a % 2 ≡ b % 2 → distance f q b ≡ distance f q a
      → f.numerator b ≢ f.numerator a → ⊥
  not_both_odd a b first second parity tie other =
      by_lt_z (f.numerator a) (f.numerator b) (not_between a b first second parity tie) (λ at_least.
      by_lt_z (f.numerator b) (f.numerator a) (not_between b a second first (sym parity) (sym tie)) (λ at_most.
      other (omega (arith, ints, at_least, at_most))))

  -- of two values that are equally near, one is that of an even code
  of_two : (a b : ℕ) → IsBest a → IsBest b → distance f q b ≡ distance f q a → f.numerator b ≢ f.numerator a
      → (code : ℕ) × IsNearest f q code
  of_two a b first second tie other =
      elim (cases_eq (a % 2) 0) [
        | inl even ↦ (a, even_nearest a first even)
        | inr odd ↦
            elim (cases_eq (b % 2) 0) [
              | inl even ↦ (b, even_nearest b second even)
              | inr odd_too ↦ absurd (not_both_odd a b first second (omega (arith, odd, odd_too)) tie other)
            ]
      ]

  nearest_of_best : (c : ℕ) → IsBest c → (code : ℕ) × IsNearest f q code
  nearest_of_best c is =
      elim (search (Ties c) (decide_tie c) bound) [
        | inr none ↦ (
          c,
          record {
            is_code = is.code;
            canonical = is.canonical;
            none_nearer = is.none_nearer;
            even_at_tie = λ k code other tie. absurd (none k (below_bound k code) (code, other, tie));
          },
        )
        | inl found ↦
            let tie = found.1 in
            let d = best_canonical found.0 tie.0 (λ k code. let least = is.none_nearer k code in
            omega (arith, tie.2, least)) in
            let distances : distance f q d.0 ≡ distance f q found.0 =
            ap (λ n. unsigned_abs (scaled f q -ℤ pos q.denominator *ℤ n)) d.2 in
            of_two c d.0 is d.1 (distances ∙ tie.2) (λ same. tie.1 (sym d.2 ∙ same))
      ]

  some_nearest : (code : ℕ) × IsNearest f q code
  some_nearest =
      let m = best bound in
      let c = best_canonical m.0 m.1 (λ k code. m.2 k (below_bound k code) code) in
      nearest_of_best c.0 c.1

  -- ---- the range

  decide_reached : (k : ℕ) → Decided (f.IsCode k × (scaled_code f q k ≤ℤ scaled f q))
  decide_reached k =
      elim (decide k) [
        | inr no_code ↦ inr (λ reached. no_code reached.0)
        | inl code ↦ by_lt_z (scaled f q) (scaled_code f q k)
            (λ less. inr (λ reached. let at_most = reached.1 in omega (arith, ints, less, at_most)))
            (λ at_most. inl (code, at_most))
      ]

  decide_reaching : (k : ℕ) → Decided (f.IsCode k × (scaled f q ≤ℤ scaled_code f q k))
  decide_reaching k =
      elim (decide k) [
        | inr no_code ↦ inr (λ reaching. no_code reaching.0)
        | inl code ↦ by_lt_z (scaled_code f q k) (scaled f q)
            (λ less. inr (λ reaching. let at_most = reaching.1 in omega (arith, ints, less, at_most)))
            (λ at_most. inl (code, at_most))
      ]

  below_all : ((k : ℕ) → k < bound → f.IsCode k × (scaled_code f q k ≤ℤ scaled f q) → ⊥) → IsBelow f q
  below_all none k code = by_lt_z (scaled f q) (scaled_code f q k) (λ less. less)
      (λ at_most. absurd (none k (below_bound k code) (code, at_most)))

  above_all : ((k : ℕ) → k < bound → f.IsCode k × (scaled f q ≤ℤ scaled_code f q k) → ⊥) → IsAbove f q
  above_all none k code = by_lt_z (scaled_code f q k) (scaled f q) (λ less. less)
      (λ at_most. absurd (none k (below_bound k code) (code, at_most)))

  some_answer : (IsInRange f q × ((code : ℕ) × IsNearest f q code)) ⊎ (IsBelow f q ⊎ IsAbove f q)
  some_answer =
      elim (search (λ k. f.IsCode k × (scaled_code f q k ≤ℤ scaled f q)) decide_reached bound) [
        | inr none ↦ inr (inl (below_all none))
        | inl low ↦
            elim (search (λ k. f.IsCode k × (scaled f q ≤ℤ scaled_code f q k)) decide_reaching bound) [
              | inr none ↦ inr (inr (above_all none))
              | inl high ↦ inl (
                record {
                  from_least = (low.0, low.1.0, low.1.1);
                  to_greatest =
                      (high.0, high.1.0, high.1.1);
                },
                some_nearest,
              )
            ]
      ]

pub has_answers : (f : Coding) → IsSeparated f → ((k : ℕ) → Decided (f.IsCode k)) → ((k : ℕ) → f.IsCode k → IsWord k)
    → ((k : ℕ) × f.IsCode k) → HasAnswers f
has_answers f separated decide words some q positive = some_answer f separated decide (2 ^ 16) words some q positive

-- for formats of which each word is a code
pub words_have_answers : (f : Coding) → IsSeparated f → f.IsCode ≡ IsWord → HasAnswers f
words_have_answers f separated all =
    has_answers f separated (λ k. subst (λ (P : ℕ → Type 0). Decided (P k)) (sym all) (decide_word k))
    (λ k code. subst (λ (P : ℕ → Type 0). P k) all code)
    (0, subst (λ (P : ℕ → Type 0). P 0) (sym all) (omega arith))
