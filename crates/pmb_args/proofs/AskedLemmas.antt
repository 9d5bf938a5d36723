-- What `clap` found in the words, as what they ask for: the subcommand's name, its matches, and a
-- text or texts with what stands for none. For `task_of`, `work_of`, `direction_of`, `read_facts`,
-- `read_import` and `has_flag`. The types that clap lends are read as the texts they point to.
use Rattle.std.proofs.Common.{◌≡◌, Bool, true, false, Option, Some, None, List, [], map, refl, sym, ap, ◌∙◌}
use Rattle.std.specs.Borrow.{Bor}
use Rattle.std.specs.Option.{option_map, unwrap_or}
use Rattle.std.specs.Prelude.{Box}
use Rattle.std.specs.Box.{box_value}
use Rattle.std.specs.Str.{bytes_eq}
use Rattle.std.proofs.lemmas.Slice.Eq.{bytes_eq-Decides}
use Rattle.clap.specs.Words.{Row, Text, found_of, rows_of, subcommand_rows}
use Rattle.clap.specs.declared.parser.matches.ArgMatches.TheViews.{out-SubCommand}
use Rattle.clap.specs.declared.parser.matches.SubCommand.{SubCommand}

-- ---- the subcommand

-- a name that was found to be this text
pub is_text : (name text : Text) (same : Bool) → same ≡ bytes_eq name text → same ≡ true → name ≡ text
is_text name text same told is = (bytes_eq-Decides name text).0 (sym told ∙ is)

-- or not to be
pub is_no_text : (name text : Text) (same : Bool) → same ≡ bytes_eq name text → same ≡ false → ¬ (name ≡ text)
is_no_text name text same told is_not named =
    let clash : false ≡ true = sym is_not ∙ told ∙ (bytes_eq-Decides name text).1 named in
    cc

-- ---- its matches

-- the name and the rows of the subcommand that was met
pub entered_rows : {Z : Type 0} (met : Option (Box SubCommand Z)) (name : Text) (rows : List Row)
    → Some name ≡ option_map (λ b. (out-SubCommand (box_value b)).name.now) met
    → Some rows ≡ option_map (λ p. p.1) (subcommand_rows met) → subcommand_rows met ≡ Some (name, rows)
entered_rows None name rows is_name are_rows = cc
entered_rows (Some b) name rows is_name are_rows =
    let name_is : (out-SubCommand (box_value b)).name.now ≡ name = cc in
    ap (λ (n : Text). Some (n, rows_of (found_of (out-SubCommand (box_value b)).matches))) name_is
    ∙ ap (λ (rs : List Row). Some (name, rs)) (some_same are_rows)
  where
    some_same : {x y : List Row} → Some x ≡ Some y → y ≡ x
    some_same same = cc

-- no subcommand was met
pub entered_none : {Z : Type 0} (met : Option (Box SubCommand Z))
    → None ≡ option_map (λ b. (out-SubCommand (box_value b)).name.now) met → subcommand_rows met ≡ None
entered_none None none = refl
entered_none (Some b) none = cc

-- a text, or another where there is none
pub text_or : (found : Option (Bor Text)) (text other : Bor Text) (first : Option Text) (fallback : Text)
    → option_map (λ s. s.now) found ≡ first → text ≡ unwrap_or found other → other.now ≡ fallback
    → text.now ≡ unwrap_or first fallback
text_or None text other first fallback is chosen else_is = ap (λ (t : Bor Text). t.now) chosen ∙ else_is
    ∙ ap (λ o. unwrap_or o fallback) is
text_or (Some s) text other first fallback is chosen else_is = ap (λ (t : Bor Text). t.now) chosen
    ∙ ap (λ o. unwrap_or o fallback) is

-- texts, or none of them
pub texts_or_none : (found : Option (Bor (List (Bor Text)))) (texts other : Bor (List (Bor Text)))
    (all : Option (List Text)) → option_map (λ s. map (λ v. v.now) s.now) found ≡ all → texts ≡ unwrap_or found other
    → other.now ≡ []
    → map (λ v. v.now) texts.now ≡ unwrap_or all []
texts_or_none None texts other all is chosen empty = ap (λ (t : Bor (List (Bor Text))). map (λ v. v.now) t.now) chosen
    ∙ ap (λ (ts : List (Bor Text)). map (λ v. v.now) ts) empty ∙ ap (λ o. unwrap_or o []) is
texts_or_none (Some s) texts other all is chosen empty =
    ap (λ (t : Bor (List (Bor Text))). map (λ v. v.now) t.now) chosen ∙ ap (λ o. unwrap_or o []) is
