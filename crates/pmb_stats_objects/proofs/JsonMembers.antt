-- Members that are told in the order of some keys, and can be written (`IsTold`); items that can. For the law
-- `objects_are_json`.
use Rattle.std.proofs.Common.{◌≡◌, ◌<◌, ◌==◌, ℕ, ◌^◌, Bool, true, false, cond, Option, Some, None, List, [], ◌∷◌, ◌++◌}
use Rattle.std.proofs.Common.{inl, inr, refl, subst, sym}
use Rattle.std.specs.Prelude.{IfSome, IsTrue}
use Rattle.std.specs.List.{AllByRecursion}
use Rattle.pmb_decimal.specs.Decimal.{rounded_text}
use Rattle.pmb_json_objects.specs.Laws.{IsJsonObject}
use Rattle.pmb_json_objects.proofs.Below.{FewerAreDistinct, TestedAreDistinct}
use Rattle.pmb_json_objects.proofs.Fine.{AreFine, DigitsAreNumbers, IsFine, are_bytes, are_flat, are_writable}
use Rattle.pmb_json_objects.proofs.Fine.{fine_count}
use Rattle.pmb_json_objects.proofs.Fine.{fine_of_both, fine_text, tested_bytes}
use Rattle.pmb_json_objects.proofs.Keys.{HaveKeys, followed, same_keys}
use Rattle.pmb_json_text.specs.Json.{AreDistinct, HasDistinctKeys, IsNumber, ItemsHaveDistinctKeys, Json}
use Rattle.pmb_json_text.specs.Member.{Member, are_distinct, count, items_of, members_of, named, object_of}
use Rattle.pmb_json_text.specs.Spelling.{AreBytes, IsWritable, ItemsAreWritable, MembersAreWritable}
use Rattle.pmb_quantity.specs.Fraction.{Fraction}
use Rattle.pmb_stats_objects.specs.Members.{count_member, fraction_member, list_member, object_member, text_member}

-- They can be written, and their keys are some of these, in this order.
pub record IsTold (members : List Member) (keys : List (List ℕ)) : Type 0 where
  pub fine : AreFine members
  pub part : HaveKeys members keys

pub told_both : (xs ys : List Member) (some more : List (List ℕ)) → IsTold xs some → IsTold ys more
    → IsTold (xs ++ ys) (some ++ more)
told_both xs ys some more first second = record {
  fine = fine_of_both xs ys first.fine second.fine;
  part = followed xs ys some more first.part second.part;
}

pub told_one : (m : Member) → IsFine m → IsTold (m ∷ []) (m.key ∷ [])
told_one m fine = record { fine = (fine, tt); part = record { part = inr ([], refl, refl) } }

pub told_none : (key : List ℕ) → IsTold [] (key ∷ [])
told_none key = record { fine = tt; part = record { part = inl refl } }

told_if_some : (none : Bool) (m : Member) → IsFine m → IsTold (cond none [] (m ∷ [])) (m.key ∷ [])
told_if_some true m fine = told_none m.key
told_if_some false m fine = told_one m fine

pub told_count : DigitsAreNumbers → (key : List ℕ) (n : ℕ) → are_bytes key ≡ true → n < 2 ^ 64
    → IsTold (count_member key n) (key ∷ [])
told_count numbers key n plain few = told_if_some (n == 0) (named key (count n)) (fine_count numbers key n plain few)

pub told_text : (key : List ℕ) (text : Option (List ℕ)) → are_bytes key ≡ true → IfSome text AreBytes
    → IsTold (text_member key text) (key ∷ [])
told_text key None plain bytes = told_none key
told_text key (Some text) plain bytes = told_one _ (fine_text key text plain bytes)

pub told_fraction : (digits : ℕ) (key : List ℕ) (q : Option Fraction) → are_bytes key ≡ true
    → IfSome q (λ q. IsNumber (rounded_text digits q))
    → IsTold (fraction_member digits key q) (key ∷ [])
told_fraction digits key None plain is = told_none key
told_fraction digits key (Some q) plain is =
    told_one _ (record { key = tested_bytes key plain; value = is; flat = tt })

-- ---- objects and lists

pub record IsJson (value : Json) : Type 0 where
  pub writable : IsWritable value
  pub flat : HasDistinctKeys value

members_writable : (members : List Member) → AreFine members → MembersAreWritable (members_of members)
members_writable [] fine = tt
members_writable (m ∷ members) fine = (fine.0.key, fine.0.value, members_writable members fine.1)

module _ (fewer : FewerAreDistinct) (distinct : TestedAreDistinct) where
  pub json_object : (members : List Member) (keys : List (List ℕ)) → IsTold members keys → IsTrue (are_distinct keys)
      → IsJson (object_of members)
  json_object members keys told own = record {
    writable = members_writable members told.fine;
    flat = (
      subst AreDistinct (sym (same_keys members)) (fewer _ keys told.part.part (distinct keys own)),
      are_flat members told.fine,
    );
  }

  pub told_object : (key : List ℕ) (members : List Member) (keys : List (List ℕ)) → are_bytes key ≡ true
      → IsTold members keys → IsTrue (are_distinct keys) → IsTold (object_member key members) (key ∷ [])
  told_object key [] keys plain told own = told_none key
  told_object key (m ∷ more) keys plain told own =
      let is = json_object (m ∷ more) keys told own in
      told_one _ (record { key = tested_bytes key plain; value = is.writable; flat = is.flat })

  pub json_members : (members : List Member) (keys : List (List ℕ)) → IsTold members keys → IsTrue (are_distinct keys)
      → IsJsonObject members
  json_members members keys told own = record {
    writable = are_writable members told.fine;
    distinct = (json_object members keys told own).flat;
  }

items_writable : (items : List Json) → AllByRecursion IsJson items → ItemsAreWritable (items_of items)
items_writable [] are = tt
items_writable (item ∷ items) are = (are.0.writable, items_writable items are.1)

items_flat : (items : List Json) → AllByRecursion IsJson items → ItemsHaveDistinctKeys (items_of items)
items_flat [] are = tt
items_flat (item ∷ items) are = (are.0.flat, items_flat items are.1)

pub told_list : (key : List ℕ) (items : List Json) → are_bytes key ≡ true → AllByRecursion IsJson items
    → IsTold (list_member key items) (key ∷ [])
told_list key [] plain are = told_none key
told_list key (item ∷ items) plain are =
    told_one _ (record {
      key = tested_bytes key plain;
      value = items_writable (item ∷ items) are;
      flat = items_flat (item ∷ items) are;
    })
