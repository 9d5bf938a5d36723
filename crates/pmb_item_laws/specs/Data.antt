-- Bytes that an item has, and the object of the same fact.
use Rattle.std.specs.Prelude.{◌≡◌, ℕ, Some, List, ◌∷◌, ◌++◌, codes}
use Rattle.pmb_facts.specs.Fact.{WhatData, Write, Read, Call, Refused, Alert, NoAlert, Other, Refusal, BadToken}
use Rattle.pmb_items.specs.Bytes.{leg}
use Rattle.pmb_items.specs.declared.item.Item.{Item}
use Rattle.pmb_items.specs.declared.item.ItemLeg.{ItemLeg}
use Rattle.pmb_json_objects.specs.Object.{Object}
use Rattle.pmb_json_text.specs.Member.{Member, digits, named}

-- The object has these bytes under a name, and the item has them in a leg.
pub record HaveBytes (name : List ℕ) (members : List Member) (of_item : ItemLeg) : Type 0 where
  pub bytes : List ℕ
  pub before : List Member
  pub behind : List Member
  pub in_object : members ≡ before ++ named name (digits bytes) ∷ behind
  pub in_item : of_item ≡ leg (Some bytes)

-- What was sent and what was replied, by the name that objects have for it. Of a refusal nothing is said here.
abbrev pub HaveData : WhatData → Object → Item → Type 0
HaveData (Write part parts p) object item = HaveBytes (codes "bytes") object.members item.sent
HaveData (Read t) object item = HaveBytes (codes "bytes") object.members item.reply
HaveData (Call t) object item =
    HaveBytes (codes "sent") object.members item.sent × HaveBytes (codes "reply") object.members item.reply
HaveData (Refused parts addr bytes at_read) object item = HaveBytes (codes "sent") object.members item.sent
HaveData (Alert t) object item = HaveBytes (codes "byte") object.members item.reply
HaveData NoAlert object item = Unit {0}
HaveData (Other addr) object item = Unit {0}
HaveData (Refusal front event reason expected) object item = Unit {0}
HaveData (BadToken word) object item = Unit {0}
