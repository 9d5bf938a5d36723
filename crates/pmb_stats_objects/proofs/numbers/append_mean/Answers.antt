use Rattle.std.proofs.Common.{◌≡◌, ◌∙◌, ◌++◌, ◌∷◌, [], List, ℕ, Option, Some, None, false, true, is_some, ap, codes}
use Rattle.std.proofs.Common.{refl}
use Rattle.std.proofs.Common.{sym}
use Rattle.pmb_json_text.specs.declared.item_order.ItemOrder.TheVariants.{Later}
use Rattle.pmb_json_text.specs.Json.{number}
use Rattle.pmb_json_text.specs.Member.{named}
use Rattle.pmb_mean.specs.MeanText.{mean_text, some_text}
use Rattle.pmb_mean.specs.Numbers.{kept, mean}
use Rattle.pmb_quantity.specs.Fraction.{Fraction}
use Rattle.pmb_stats_objects.specs.Members.{fraction_member}
use Rattle.pmb_stats_objects.proofs.Pieces.{nothing, said}
use Rattle.pmb_stats_objects.proofs.numbers.append_mean.Goals as goal

no_fraction : (digits : ℕ) (key : List ℕ) (q : Option Fraction) → is_some q ≡ false → [] ≡ fraction_member digits key q
no_fraction digits key None none = refl
no_fraction digits key (Some q) none = absurd (cc none)

some_fraction : (digits : ℕ) (key : List ℕ) (q : Option Fraction) → is_some q ≡ true
    → named key (number (some_text digits q)) ∷ [] ≡ fraction_member digits key q
some_fraction digits key None some = absurd (cc some)
some_fraction digits key (Some q) some = refl

pub returns-else-has_mean-clause-member : goal.returns-else-has_mean-clause-member
returns-else-has_mean-clause-member g c = λ numbers stands.
    let old = c.args.out.now.items in
    said Later _ (no_fraction c.args.digits (codes "mean") (mean (kept numbers))
    (sym (c.has_mean.ensures numbers stands) ∙ c.if-has_mean.false)) (nothing 0 Later old).items

pub returns-then-has_mean-clause-member : goal.returns-then-has_mean-clause-member
returns-then-has_mean-clause-member g c = λ numbers stands.
    let mean_is = mean_text c.args.digits (kept numbers) in
    let text = c.as_slice.ensures.value ∙ c.append_mean.ensures.text numbers stands
    ∙ ap (λ (t : List ℕ). t ++ mean_is) c.new-text.ensures in
    said Later _ (ap (λ (t : List ℕ). named (codes "mean") (number t) ∷ []) text
    ∙ some_fraction c.args.digits (codes "mean") (mean (kept numbers))
    (sym (c.has_mean.ensures numbers stands) ∙ c.if-has_mean.true)) c.append_number.ensures.items
