-- The VID table that a text names: for `vid` and the law `one_format`. A text names a table exactly
-- where it is the table's name.
use Rattle.std.proofs.Common.{◌≡◌, ℕ, Bool, true, false, cond, Option, Some, None, List, codes, refl, sym, ap, ◌∙◌}
use Rattle.std.specs.Str.{bytes_eq}
use Rattle.std.proofs.lemmas.Slice.Eq.{bytes_eq-Decides}
use Rattle.pmb_vid.specs.Names.{named_table, table_name}
use Rattle.pmb_vid.specs.declared.table.VidTable.{VidTable}
use Rattle.pmb_vid.specs.declared.table.VidTable.TheVariants.{Vr11, Vr12, Vr13, Imvp9, Amd625mv, Nvidia195mv}

names_itself : (table : VidTable) → named_table (table_name table) ≡ Some table
names_itself Vr11 = refl
names_itself Vr12 = refl
names_itself Vr13 = refl
names_itself Imvp9 = refl
names_itself Amd625mv = refl
names_itself Nvidia195mv = refl

pub one_table : (a b : VidTable) → table_name a ≡ table_name b → a ≡ b
one_table a b same =
    let both : Some a ≡ Some b = sym (names_itself a) ∙ ap named_table same ∙ names_itself b in
    cc

-- a text that names none is no table's name
pub names_none : (text : List ℕ) → named_table text ≡ None → (table : VidTable) → ¬ (text ≡ table_name table)
names_none text none table is =
    let both : Some table ≡ None = sym (names_itself table) ∙ ap named_table (sym is) ∙ none in
    cc

-- one that names a table is its name
one_name : (text name : List ℕ) (table found : VidTable) (rest : Option VidTable) → name ≡ table_name table
    → (rest ≡ Some found → text ≡ table_name found)
    → cond (bytes_eq text name) (Some table) rest ≡ Some found → text ≡ table_name found
one_name text name table found rest is others = by (bytes_eq text name) refl
  where
    by : (b : Bool) → bytes_eq text name ≡ b → cond b (Some table) rest ≡ Some found → text ≡ table_name found
    by true same named =
        let found_is : table ≡ found = cc in
        (bytes_eq-Decides text name).0 same ∙ is ∙ ap table_name found_is
    by false same named = others named

pub names_one : (text : List ℕ) (found : VidTable) → named_table text ≡ Some found → text ≡ table_name found
names_one text found =
    one_name text (codes "vr11") Vr11 found _ refl
    (one_name text (codes "vr12") Vr12 found _ refl
    (one_name text (codes "vr13") Vr13 found _ refl
    (one_name text (codes "imvp9") Imvp9 found _ refl
    (one_name text (codes "amd625mv") Amd625mv found _ refl
    (one_name text (codes "nvidia195mv") Nvidia195mv found None refl (λ none. cc))))))
