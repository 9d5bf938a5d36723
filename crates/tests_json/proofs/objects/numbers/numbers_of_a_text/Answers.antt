-- The two texts are numbers, part by part.
use Rattle.std.proofs.Common.{◌≡◌, [], ◌∷◌, ◌++◌, List, ℕ, length, codes, refl, inl, inr, ap, ◌∙◌, arith}
use Rattle.tests_json.proofs.objects.numbers.numbers_of_a_text.Goals as goal

pub number_text_member-requires : goal.number_text_member-requires
number_text_member-requires c d =
    let begun : length d.begin.new.out.items ≡ 1 = ap (λ (items : List ℕ). length items)
    (d.begin.ensures.begun ∙ ap (λ (items : List ℕ). items ++ 123 ∷ []) d.new-out.ensures) in (
      omega arith,
      (
        refl,
        (
          record {
            minus = codes "-";
            whole = codes "0";
            fraction = codes ".5";
            exponent = [];
            is_minus = inr refl;
            is_whole = inl refl;
            is_fraction = inr (codes "5", (refl, tt), refl);
            is_exponent = inl refl;
            parts = refl;
          },
          omega (arith, begun),
        ),
      ),
    )

pub number_text_member-requires-2 : goal.number_text_member-requires-2
number_text_member-requires-2 c d =
    let begun : length d.begin.new.out.items ≡ 1 = ap (λ (items : List ℕ). length items)
    (d.begin.ensures.begun ∙ ap (λ (items : List ℕ). items ++ 123 ∷ []) d.new-out.ensures) in
    let longer = d.number_text_member.ensures.short in (
      omega arith,
      (
        refl,
        (
          record {
            minus = [];
            whole = codes "12";
            fraction = [];
            exponent = codes "e-3";
            is_minus = inl refl;
            is_whole = inr ((λ same. omega (arith, same)), (refl, (refl, tt)));
            is_fraction = inl refl;
            is_exponent = inr (codes "e", codes "-", codes "3", inl refl, inr (inl refl), (refl, tt), refl);
            parts = refl;
          },
          omega (arith, begun, longer),
        ),
      ),
    )
