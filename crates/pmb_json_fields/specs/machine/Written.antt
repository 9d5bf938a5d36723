-- What is appended piece by piece.
use Rattle.std.specs.Prelude.{◌≡◌, ℕ, ◌+◌, ◌≤◌, List, ◌++◌, length, map}
use Rattle.std.specs.List.{AllByRecursion}
use Rattle.pmb_json_text.specs.declared.item_order.ItemOrder.{ItemOrder}
use Rattle.pmb_json_text.specs.declared.item_order.ItemOrder.TheVariants.{Later}
use Rattle.pmb_json_text.specs.Json.{string}
use Rattle.pmb_json_text.specs.Spelling.{AreBytes}
use Rattle.pmb_json_text.specs.Member.{Member, AreWritable, items_text, members_text, place_after}

-- Members are appended to those of an object that has some, which makes its text longer by that
-- many bytes at most.
pub record Appends (members : List Member) (most : ℕ) (old new : List ℕ) : Type 0 where
  pub items : new ≡ old ++ members_text Later members
  pub longer : length new ≤ length old + most
  pub writable : AreWritable members

-- Texts are appended to an array, the first of them in a place.
pub record AppendsTexts (place : ItemOrder) (texts : List (List ℕ)) (most : ℕ) (old new : List ℕ) : Type 0 where
  pub items : new ≡ old ++ items_text place (map string texts)
  pub longer : length new ≤ length old + most
  pub writable : AllByRecursion AreBytes texts

-- the place after them
abbrev pub place_behind : ItemOrder → List (List ℕ) → ItemOrder
place_behind place texts = place_after place texts
