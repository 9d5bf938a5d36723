use Rattle.std.proofs.Common.{◌≡◌, ℕ, Bool, ◌&&◌, List, [], ◌∷◌, map, string_bytes, refl, ap, ◌∙◌, rules, tests}
use Rattle.std.proofs.lemmas.Iterator.Search.{all_from_yields_List}
use Rattle.std.proofs.lemmas.Iterator.Consumers.{YieldsList-from_rest}
use Rattle.std.specs.BTreeMap.{keys}
use Rattle.std.specs.List.{list_any, list_all}
use Rattle.std.specs.Map.{keys_of as map_keys}
use Rattle.toml.specs.View.{members_view}
use Rattle.toml.proofs.Views.{Entry}
use Rattle.std.specs.Str.{bytes_eq}
use Rattle.pmb_keys.specs.Rules.{keys_of}
use Rattle.pmb_keys.proofs.rules.has_only.Goals as goal

-- a test of each key of the entries is one of each key of their members
all_keys : (test : List ℕ → Bool) (entries : List Entry) → list_all (λ k. test (string_bytes k)) (map_keys entries)
    ≡ list_all test (keys_of (members_view entries))
all_keys test [] = refl
all_keys test (e ∷ entries) = ap (λ rest. test (string_bytes e.0) && rest) (all_keys test entries)

pub returns : goal.returns
returns c =
    let known : List ℕ → Bool = λ k. list_any (bytes_eq k) (map (λ word. word.now) c.args.known.now) in
    all_from_yields_List (λ k. known (string_bytes k)) _ _ c.all.result c.all.ensures.ran
    (YieldsList-from_rest (keys c.args.table.now) c.keys.ensures.rest) (λ x b q k. search (rules, tests))
    ∙ all_keys known c.args.table.now.entries
