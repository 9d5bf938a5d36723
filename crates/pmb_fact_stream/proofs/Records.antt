-- Records of facts, one after the other: for the law `facts_have_records`. All have the same length, so where a
-- text of records is cut after so many bytes, it is cut between two of them.
use Rattle.std.proofs.Common.{zero, suc, ◌≡◌, ℕ, ◌*◌, List, [], ◌∷◌, ◌++◌, length, take, drop, flat_map}
use Rattle.std.proofs.Common.{refl, ap, ◌∙◌, sym, arith, append_assoc, length-append}
use Rattle.std.proofs.Math.Seq.{take-append_seam}
use Rattle.std.proofs.lemmas.List.{append_cancel_left, length-take-le, nil_from_length, take-append-drop}
use Rattle.pmb_command.specs.Parts.{DeviceParts}
use Rattle.pmb_facts.specs.Fact.{FactData, WhatData}
use Rattle.pmb_items.specs.Item.{item_of}
use Rattle.pmb_items.specs.Record.{item_bytes}
use Rattle.pmb_json_objects.specs.Head.{Head}
use Rattle.pmb_json_objects.specs.Seen.{SeenData}
use Rattle.pmb_fact_stream.specs.Choice.{ChoiceData}
use Rattle.pmb_fact_stream.specs.Lines.{fact_lines, last_lines, last_lines_of, seen_behind, told_line}
use Rattle.pmb_fact_stream.specs.Records.{TakesNext, fact_record, fact_records, wanted_facts}
use Rattle.pmb_fact_stream.specs.declared.telling.Telling.{Telling}
use Rattle.pmb_fact_stream.specs.declared.telling.Telling.TheVariants.{Items}
use Rattle.pmb_json_objects.specs.Counts.{CountsData}

-- ---- lists that are put together

-- from parts of the same lengths
first_part : (a b c d : List ℕ) → a ++ b ≡ c ++ d → length a ≡ length c → a ≡ c
first_part a b c d same long =
    sym (take-append_seam a b) ∙ (ap (λ (n : ℕ). take n (a ++ b)) long ∙ ap (take (length c)) same)
    ∙ take-append_seam c d

second_part : (a b c d : List ℕ) → a ++ b ≡ c ++ d → a ≡ c → b ≡ d
second_part a b c d same first = append_cancel_left c b d (ap (λ (l : List ℕ). l ++ b) (sym first) ∙ same)

-- a part that isn't empty is in a list that isn't
none_left : (taken next left : List ℕ) → [] ≡ taken ++ (next ++ left) → length next ≡ 680 → ⊥
none_left taken next left none long =
    omega (arith, ap (λ (l : List ℕ). length l) none, length-append taken (next ++ left), length-append next left, long)

-- ---- records

module _ (choice : ChoiceData) (profile : List DeviceParts) (is : choice.telling ≡ Items) where
  pub lines_are_records : (facts : List FactData)
      → fact_lines choice profile facts ≡ fact_records choice profile (wanted_facts choice profile facts)
  lines_are_records facts =
      ap (λ (telling : Telling).
      flat_map (λ (fact : FactData). told_line telling (seen_behind choice profile fact.before) fact.head fact.what)
      (wanted_facts choice profile facts)) is

  pub no_last_lines : (counts : CountsData) → last_lines choice profile counts ≡ []
  no_last_lines counts = ap (λ (telling : Telling). last_lines_of choice profile telling counts) is

module _ (long : (seen : SeenData) (head : Head) (what : WhatData) → length (item_bytes (item_of seen head what)) ≡ 680)
    (choice : ChoiceData) (profile : List DeviceParts) where
  record_long : (fact : FactData) → length (fact_record choice profile fact) ≡ 680
  record_long fact = long (seen_behind choice profile fact.before) fact.head fact.what

  records_long : (facts : List FactData) → length (fact_records choice profile facts) ≡ 680 * length facts
  records_long [] = refl
  records_long (fact ∷ facts) =
      omega (
        arith,
        length-append (fact_record choice profile fact) (fact_records choice profile facts),
        record_long fact,
        records_long facts,
      )

  pub lines_long : choice.telling ≡ Items → (facts : List FactData)
      → length (fact_lines choice profile facts) ≡ 680 * length (wanted_facts choice profile facts)
  lines_long is facts =
      ap (λ (l : List ℕ). length l) (lines_are_records choice profile is facts)
      ∙ records_long (wanted_facts choice profile facts)

  -- the facts that are told, and whose records these are
  record IsCut (told : List FactData) (taken next left : List ℕ) : Type 0 where
    front : List FactData
    fact : FactData
    back : List FactData
    all : told ≡ front ++ fact ∷ back
    of_front : taken ≡ fact_records choice profile front
    of_fact : next ≡ fact_record choice profile fact
    of_back : left ≡ fact_records choice profile back

  cut : (n : ℕ) (told : List FactData) (taken next left : List ℕ)
      → fact_records choice profile told ≡ taken ++ (next ++ left) → length taken ≡ 680 * n → length next ≡ 680
      → IsCut told taken next left
  cut zero [] taken next left split before one = absurd (none_left taken next left split one)
  cut (suc n) [] taken next left split before one = absurd (none_left taken next left split one)
  cut zero (fact ∷ told) taken next left split before one =
      let own = fact_record choice profile fact in
      let others = fact_records choice profile told in
      let none : taken ≡ [] = nil_from_length taken (omega (arith, before)) in
      let same : own ++ others ≡ next ++ left = split ∙ ap (λ (l : List ℕ). l ++ (next ++ left)) none in
      let is : own ≡ next = first_part own others next left same (record_long fact ∙ sym one) in record {
        front = [];
        fact = fact;
        back = told;
        all = refl;
        of_front = none;
        of_fact = sym is;
        of_back = sym (second_part own others next left same is);
      }
  cut (suc n) (fact ∷ told) taken next left split before one =
      let own = fact_record choice profile fact in
      let others = fact_records choice profile told in
      let first = take 680 taken in
      let then = drop 680 taken in
      let first_long : length first ≡ 680 = length-take-le 680 taken (omega (arith, before)) in
      let parts : first ++ then ≡ taken = take-append-drop 680 taken in
      let same : own ++ others ≡ first ++ (then ++ (next ++ left)) =
      split ∙ ap (λ (l : List ℕ). l ++ (next ++ left)) (sym parts) ∙ append_assoc first then (next ++ left) in
      let is : own ≡ first = first_part own others first (then ++ (next ++ left)) same (record_long fact ∙ sym first_long)
      in
      let then_long : length then ≡ 680 * n =
      omega (arith, ap (λ (l : List ℕ). length l) parts, length-append first then, first_long, before) in
      let rest = cut n told then next left (second_part own others first (then ++ (next ++ left)) same is) then_long one
      in record {
        front = fact ∷ rest.front;
        fact = rest.fact;
        back = rest.back;
        all = ap (λ (l : List FactData). fact ∷ l) rest.all;
        of_front = sym parts
            ∙ (ap (λ (l : List ℕ). l ++ then) (sym is) ∙ ap (λ (l : List ℕ). own ++ l) rest.of_front);
        of_fact = rest.of_fact;
        of_back = rest.of_back;
      }

  pub takes_next : choice.telling ≡ Items → (facts : List FactData) (n : ℕ) (taken next left : List ℕ)
      → fact_lines choice profile facts ≡ taken ++ (next ++ left) → length taken ≡ 680 * n → length next ≡ 680
      → TakesNext choice profile facts taken next left
  takes_next is facts n taken next left split before one =
      let at = cut n (wanted_facts choice profile facts) taken next left
      (sym (lines_are_records choice profile is facts) ∙ split) before one in record {
        front = at.front;
        fact = at.fact;
        back = at.back;
        all = at.all;
        of_front = at.of_front;
        of_fact = at.of_fact;
        of_back = at.of_back;
      }
