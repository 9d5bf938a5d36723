use Rattle.std.proofs.Common.{◌≡◌, ◌∙◌, ◌++◌, ◌∷◌, [], List, ℕ, Bool, false, true, nat_eq, length, ap, append-nil}
use Rattle.std.proofs.Common.{codes, sym}
use Rattle.std.proofs.Common.{append_assoc}
use Rattle.std.proofs.Math.Dec.{eqb-suc-zero}
use Rattle.pmb_json_text.specs.declared.item_order.ItemOrder.TheVariants.{First, Later}
use Rattle.pmb_json_text.specs.Member.{Member, key_text, members_text, object_of}
use Rattle.pmb_json_text.proofs.Pieces.{member_appended}
use Rattle.pmb_stats_objects.specs.Members.{object_member}
use Rattle.pmb_stats_objects.proofs.member.append_object.Goals as goal

differ : {b : Bool} → b ≡ true → b ≡ false → ⊥
differ is is_not = cc

-- a key, and an object that has members
object_appended : (key : List ℕ) (known : List Member) (members old : List ℕ) {keyed begun inside new : List ℕ}
    → nat_eq (length members) 0 ≡ false → members ≡ members_text First known
    → keyed ≡ old ++ key_text Later key → begun ≡ keyed ++ codes "{" → inside ≡ begun ++ members
    → new ≡ inside ++ codes "}"
    → new ≡ old ++ members_text Later (object_member key known)
unfolding members_text
object_appended key [] members old some is first second third last =
    absurd (differ (ap (λ (t : List ℕ). nat_eq (length t) 0) is) some)
object_appended key (m ∷ more) members old {keyed} {begun} {inside} {new} some is first second third last =
    member_appended Later key (object_of (m ∷ more)) old first
    (last ∙ ap (λ (t : List ℕ). t ++ codes "}") (third ∙ ap (λ (t : List ℕ). t ++ members) second
    ∙ append_assoc keyed (codes "{") members)
    ∙ append_assoc keyed (codes "{" ++ members) (codes "}")
    ∙ ap (λ (t : List ℕ). keyed ++ (codes "{" ++ (t ++ codes "}"))) is)

-- no members are an empty text, and others are not
none_appended : (key : List ℕ) (known : List Member) (members old : List ℕ) → nat_eq (length members) 0 ≡ true
    → members ≡ members_text First known → old ≡ old ++ members_text Later (object_member key known)
unfolding members_text
none_appended key [] members old none is = sym (append-nil old)
none_appended key (m ∷ more) members old none is =
    absurd (differ none (ap (λ (t : List ℕ). nat_eq (length t) 0) is ∙ eqb-suc-zero _))

pub returns-clause-object : goal.returns-clause-object
returns-clause-object g c = λ known is.
    object_appended c.args.key.now known c.args.members.now c.args.out.now.items
    (sym c.is_empty.ensures ∙ c.if-is_empty.false) is c.append_key.ensures.key c.append.ensures c.append-2.ensures
    c.append-3.ensures

pub returns-then-is_empty-clause-object : goal.returns-then-is_empty-clause-object
returns-then-is_empty-clause-object g c = λ known is.
    none_appended c.args.key.now known c.args.members.now c.args.out.now.items
    (sym c.is_empty.ensures ∙ c.if-is_empty.true) is
