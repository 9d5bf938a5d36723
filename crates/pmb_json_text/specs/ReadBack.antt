-- The same value as the reader of the crate `json` gives it. Its strings are UTF-8, where those here
-- are lists of characters.
use Rattle.std.specs.Prelude.{ℕ, List}
use Rattle.std.specs.List.{flat_map}
use Rattle.std.specs.Char.{encode_utf8}
use Rattle.json.specs.Json as reader
use Rattle.pmb_json_text.specs.Json.{Json, null, boolean, number, string, array, object, Items, no_items, item, Members}
use Rattle.pmb_json_text.specs.Json.{no_members, member}

abbrev pub in_utf8 : List ℕ → List ℕ
in_utf8 characters = flat_map encode_utf8 characters

abbrev mutual
  pub read_value : Json → reader.Json
  read_value null = reader.null
  read_value (boolean b) = reader.boolean b
  read_value (number digits) = reader.number digits
  read_value (string characters) = reader.string (in_utf8 characters)
  read_value (array items) = reader.array (read_items items)
  read_value (object members) = reader.object (read_members members)

  pub read_items : Items → reader.Items
  read_items no_items = reader.no_items
  read_items (item value more) = reader.item (read_value value) (read_items more)

  pub read_members : Members → reader.Members
  read_members no_members = reader.no_members
  read_members (member key value more) = reader.member (in_utf8 key) (read_value value) (read_members more)
