use Rattle.std.proofs.Common.{◌≡◌, [], ◌∷◌, ℕ, List, Bool, cond, ap, refl, sym}
use Rattle.std.proofs.lemmas.Bool.{ne_eqb}
use Rattle.pmb_json_text.specs.Member.{count, named}
use Rattle.pmb_stats_objects.specs.Members.{count_member}
use Rattle.pmb_stats_objects.proofs.Pieces.{called, nothing}
use Rattle.pmb_stats_objects.proofs.member.append_count.Goals as goal

some_count : (key : List ℕ) (n : ℕ) → (n ≡ 0 → ⊥) → named key (count n) ∷ [] ≡ count_member key n
some_count key n some =
    ap (λ (none : Bool). cond none [] (named key (count n) ∷ [])) (sym (ne_eqb n 0 some))

pub returns-then-count-eq0 : goal.returns-then-count-eq0
returns-then-count-eq0 g c =
    called (ap (λ (n : ℕ). count_member c.args.key.now n) (sym c.if-count-eq0.true))
    (nothing 40 c.args.place c.args.out.now.items)

pub returns : goal.returns
returns g c =
    called (some_count c.args.key.now c.args.count c.if-count-eq0.false)
    (record {
      items = c.number_member.ensures.member;
      longer = c.number_member.ensures.short;
      place_is = refl;
    })
