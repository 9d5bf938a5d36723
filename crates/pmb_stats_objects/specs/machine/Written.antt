-- What is appended and put out piece by piece.
use Rattle.std.specs.Prelude.{◌≡◌, ℕ, ◌+◌, ◌≤◌, Bool, true, false, Option, List, [], ◌∷◌, ◌++◌, length}
use Rattle.pmb_io.specs.Outgoing.{PutsText}
use Rattle.pmb_json_text.specs.declared.item_order.ItemOrder.{ItemOrder}
use Rattle.pmb_json_text.specs.Json.{Json}
use Rattle.pmb_json_text.specs.Member.{Member, items_text, members_text, place_after}

-- Members are appended to an object, the first of them in a place, which makes its text longer by that
-- many bytes at most; the place after them is known.
pub record Appends (members : List Member) (most : ℕ) (place : ItemOrder) (old : List ℕ) (next : ItemOrder)
    (new : List ℕ) : Type 0 where
  pub items : new ≡ old ++ members_text place members
  pub longer : length new ≤ length old + most
  pub place_is : next ≡ place_after place members

-- whether there is anything in a list
abbrev pub has_any : {A : Type 0} → List A → Bool
has_any [] = false
has_any (one ∷ more) = true

-- Items of a list are put out, the first of them in a place; the place after them is known.
pub record PutsItems (items : List Json) (held_old : Option (List ℕ)) (waiting_old : List ℕ) (place : ItemOrder)
    (held_new : Option (List ℕ)) (waiting_new : List ℕ) (next : ItemOrder) : Type 0 where
  pub text : PutsText held_old waiting_old held_new waiting_new (items_text place items)
  pub place_is : next ≡ place_after place items

-- .. and members of an object
pub record PutsMembers (members : List Member) (held_old : Option (List ℕ)) (waiting_old : List ℕ) (place : ItemOrder)
    (held_new : Option (List ℕ)) (waiting_new : List ℕ) (next : ItemOrder) : Type 0 where
  pub text : PutsText held_old waiting_old held_new waiting_new (members_text place members)
  pub place_is : next ≡ place_after place members
