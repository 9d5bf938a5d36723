-- What makes members an object that is JSON with distinct keys: each can be written, and their keys
-- are some of `object_keys`, in its order, so none comes twice. For the law `objects_are_json`, by
-- Each. What lower crates say is taken from their laws (`Below`).
use Rattle.std.proofs.Common.{ℕ, ◌++◌, List, [], ◌∷◌, codes, refl, sym, subst}
use Rattle.std.specs.Prelude.{IsTrue}
use Rattle.pmb_command.specs.Bus.{IsBus}
use Rattle.pmb_command.specs.Parts.{CommandParts}
use Rattle.pmb_json_fields.specs.Value.{data_members}
use Rattle.pmb_voltage.specs.Voltage.{VoltagesData, voltages_of}
use Rattle.pmb_json_fields.specs.declared.access.Access.{Access}
use Rattle.pmb_json_fields.specs.declared.basis.Basis.{Basis}
use Rattle.pmb_json_fields.specs.Laws.{data_keys, keys}
use Rattle.pmb_json_text.specs.Json.{AreDistinct, null}
use Rattle.pmb_json_text.specs.Member.{IsPart, Member, are_distinct, named}
use Rattle.pmb_meaning.specs.Data.{called}
use Rattle.pmb_meaning.specs.Laws.{IsSaysOrNone}
use Rattle.pmb_json_objects.specs.Laws.{IsJsonObject, object_keys}
use Rattle.pmb_json_objects.specs.Packets.{call_says, data_of, exchange_of, fields_say, said_of}
use Rattle.pmb_json_objects.specs.Seen.{SeenData, basis_at, mode_at, page_at}
use Rattle.pmb_json_objects.proofs.Commands.{at_each, is_device}
use Rattle.pmb_json_objects.proofs.DataMembers.{DecimalsAreNumbers, SaysAreOne}
use Rattle.pmb_json_objects.proofs.Fine.{AreFine, DigitsAreNumbers, are_flat, are_writable, fine_of_both}
use Rattle.pmb_json_objects.proofs.Keys.{HaveKeys, followed, same_keys, tested}
use Rattle.pmb_json_objects.proofs.Quantities.{LowestTermsAre}
use Rattle.pmb_json_objects.proofs.Shared.{command_keys, head_keys, part_keys}

-- ---- what laws of lower crates say

abbrev pub FewerAreDistinct : Type 0
FewerAreDistinct = (some all : List (List ℕ)) → IsPart some all → AreDistinct all → AreDistinct some

abbrev pub NineKeys : Type 0
NineKeys = (digits : ℕ) (a : Access) (voltages : VoltagesData) (basis : Basis) (c : CommandParts) (bytes : List ℕ)
    → IsPart (keys (data_members digits a voltages basis c bytes)) data_keys

-- ---- the keys of what is said of data, and of what their fields say

abbrev pub says_key : List (List ℕ)
says_key = codes "says" ∷ []

abbrev pub meaning_keys : List (List ℕ)
meaning_keys = data_keys ++ says_key

keys_of_says : (members : List Member) → IsSaysOrNone members → HaveKeys members says_key
keys_of_says [] is = tested [] says_key refl
keys_of_says (m ∷ []) is = record {
  part = subst (λ (key : List ℕ). IsPart (key ∷ []) says_key) (sym is.key)
      (tested (named (codes "says") null ∷ []) says_key refl).part;
}
keys_of_says (m ∷ other ∷ more) is = absurd is

abbrev pub MeaningKeys : Type 0
MeaningKeys = (seen : SeenData) (a : Access) (addr code : ℕ) (bytes : List ℕ) → IsBus seen.profile
    → HaveKeys (said_of seen a addr code bytes) meaning_keys

keys_of_said : NineKeys → SaysAreOne → MeaningKeys
keys_of_said nine one seen a addr code bytes bus =
    at_each (λ ms. HaveKeys ms meaning_keys) (tested [] meaning_keys refl) (data_of seen a addr bytes) seen addr code
    (λ device c here there.
    let voltages : VoltagesData = voltages_of device (mode_at seen addr) (page_at seen addr) in
    followed (data_members seen.digits a voltages (basis_at seen addr) c bytes)
    (fields_say (exchange_of a bytes) device c) data_keys says_key
    (record { part = nine seen.digits a voltages (basis_at seen addr) c bytes })
    (keys_of_says _ (one device c.entry (exchange_of a bytes) (is_device seen addr device here bus))))

pub keys_of_call : SaysAreOne → (seen : SeenData) (addr code : ℕ) (first reply : List ℕ) → IsBus seen.profile
    → HaveKeys (call_says seen addr code first reply) says_key
keys_of_call one seen addr code first reply bus =
    at_each (λ ms. HaveKeys ms says_key) (tested [] says_key refl) (fields_say (called first reply)) seen addr code
    (λ device c here there.
    keys_of_says _ (one device c.entry (called first reply) (is_device seen addr device here bus)))

-- ---- all that lower crates say

pub record Below : Type 0 where
  -- what laws of `pmb_json_text`, `pmb_decimal`, `pmb_quantity`, `pmb_meaning` and `pmb_json_fields` say
  pub numbers : DigitsAreNumbers
  pub decimals : DecimalsAreNumbers
  pub lowest : LowestTermsAre
  pub says : SaysAreOne
  pub meaning : MeaningKeys
  pub fewer : FewerAreDistinct
  pub own : AreDistinct object_keys

-- that keys which pass a test are distinct
abbrev pub TestedAreDistinct : Type 0
TestedAreDistinct = (all : List (List ℕ)) → IsTrue (are_distinct all) → AreDistinct all

-- from those laws
pub below_of : DigitsAreNumbers → DecimalsAreNumbers → LowestTermsAre → NineKeys → SaysAreOne → FewerAreDistinct
    → TestedAreDistinct → Below
below_of numbers decimals lowest nine one fewer distinct = record {
  numbers = numbers;
  decimals = decimals;
  lowest = lowest;
  says = one;
  meaning = keys_of_said nine one;
  fewer = fewer;
  own = distinct object_keys refl;
}

pub json : Below → (members : List Member) → AreFine members → HaveKeys members object_keys → IsJsonObject members
json below members fine part = record {
  writable = are_writable members fine;
  distinct = (
    subst AreDistinct (sym (same_keys members)) (below.fewer (keys members) object_keys part.part below.own),
    are_flat members fine,
  );
}

-- ---- four lists of members in a row

pub fine_in_row : (a b c d : List Member) → AreFine a → AreFine b → AreFine c → AreFine d
    → AreFine (((a ++ b) ++ c) ++ d)
fine_in_row a b c d first second third fourth =
    fine_of_both ((a ++ b) ++ c) d (fine_of_both (a ++ b) c (fine_of_both a b first second) third) fourth

pub keys_in_row : (a b c d : List Member) (ka kb kc kd : List (List ℕ)) → HaveKeys a ka → HaveKeys b kb
    → HaveKeys c kc → HaveKeys d kd → HaveKeys (((a ++ b) ++ c) ++ d) (((ka ++ kb) ++ kc) ++ kd)
keys_in_row a b c d ka kb kc kd first second third fourth =
    followed ((a ++ b) ++ c) d ((ka ++ kb) ++ kc) kd
    (followed (a ++ b) c (ka ++ kb) kc (followed a b ka kb first second) third) fourth

-- ---- the keys of an object: where it begins and which part it is, the device, the command, and what is said

abbrev pub front_keys : List (List ℕ)
front_keys = head_keys ++ part_keys

abbrev pub device_keys : List (List ℕ)
device_keys = codes "reason" ∷ codes "expected" ∷ codes "got" ∷ codes "device" ∷ codes "name" ∷ codes "writes"
    ∷ codes "reads" ∷ codes "calls" ∷ codes "packets" ∷ []

abbrev pub refused_keys : List (List ℕ)
refused_keys = codes "refused" ∷ codes "refusals" ∷ codes "bad_tokens" ∷ codes "others" ∷ []

abbrev pub bytes_keys : List (List ℕ)
bytes_keys = codes "bytes" ∷ codes "byte" ∷ codes "sent" ∷ codes "reply" ∷ codes "pec" ∷ codes "right_pec"
    ∷ codes "word" ∷ []

abbrev pub last_keys : List (List ℕ)
last_keys = bytes_keys ++ meaning_keys

pub in_order : (front device command last : List Member) → HaveKeys front front_keys → HaveKeys device device_keys
    → HaveKeys command (refused_keys ++ command_keys) → HaveKeys last last_keys
    → HaveKeys (((front ++ device) ++ command) ++ last) object_keys
in_order front device command last = keys_in_row front device command last front_keys device_keys
    (refused_keys ++ command_keys) last_keys

-- a command after what was refused, or nothing
pub behind_refused : (refused command : List Member) → HaveKeys refused refused_keys → HaveKeys command command_keys
    → HaveKeys (refused ++ command) (refused_keys ++ command_keys)
behind_refused refused command = followed refused command refused_keys command_keys
