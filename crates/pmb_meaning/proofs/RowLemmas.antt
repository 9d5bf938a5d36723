-- The rows of the code's tables stand for those of the definitions, row by row: for `named` and `rows_fields` of
-- `src/rows.rt`.
use Rattle.std.proofs.Common.{◌≡◌, ℕ, ◌+◌, ◌<◌, zero, suc, Bool, true, Option, Some, None, List, [], ◌∷◌, ◌++◌, length, map}
use Rattle.std.proofs.Common.{take, get_or, nat_eq, refl, sym, ap, ◌∙◌, arith}
use Rattle.std.specs.Prelude.{find, flat_map, option_map}
use Rattle.std.specs.List.{list_all}
use Rattle.std.proofs.lemmas.Bool.{and_parts}
use Rattle.std.proofs.lemmas.Grind.{flat_map-append}
use Rattle.std.proofs.lemmas.List.{append-nil, map-append, take_more}
use Rattle.pmb_command.proofs.Finding.{find-map}
use Rattle.pmb_meaning.specs.declared.layout.Named.{Named}
use Rattle.pmb_meaning.specs.declared.layout.Row.{Row}
use Rattle.pmb_meaning.specs.Field.{value_parts}
use Rattle.pmb_meaning.specs.Meaning.{named, row_field, rows_fields}
use Rattle.pmb_meaning.specs.machine.Rows.{named_parts, row_parts}

value_found : (found : Option Named)
    → option_map (λ x. x.value) (option_map named_parts found) ≡ option_map (λ x. value_parts x.1) found
value_found None = refl
value_found (Some x) = refl

-- what the code finds is what a number is named
pub named_by_row : (names : List Named) (n : ℕ) (found : Option Named)
    → found ≡ find (λ x. nat_eq (named_parts x).number n) names
    → option_map (λ x. value_parts x.1) found ≡ named (map named_parts names) n
named_by_row names n found is =
    sym (value_found found)
    ∙ ap (λ (o : Option Named). option_map (λ x. x.value) (option_map named_parts o)) is
    ∙ ap (option_map (λ x. x.value)) (sym (find-map named_parts (λ x. nat_eq x.number n) names))

-- what all pass, each passes
pub passes_at : {X Y : Type 0} (p : Y → Bool) (f : X → Y) (xs : List X) (i : ℕ) (d : X)
    → list_all p (map f xs) ≡ true → i < length xs → p (f (get_or xs i d)) ≡ true
passes_at p f [] i d all less = absurd (omega arith)
passes_at p f (x ∷ xs) zero d all less = (and_parts (p (f x)) (list_all p (map f xs)) all).0
passes_at p f (x ∷ xs) (suc i) d all less =
    passes_at p f xs i d (and_parts (p (f x)) (list_all p (map f xs)) all).1 (omega arith)

-- one more of a list
pub map_more : {X Y : Type 0} (f : X → Y) (xs : List X) (i : ℕ) (d : X) → i < length xs
    → map f (take (i + 1) xs) ≡ map f (take i xs) ++ f (get_or xs i d) ∷ []
map_more f xs i d less =
    ap (map f) (take_more xs i d less) ∙ map-append f (take i xs) (get_or xs i d ∷ [])

-- the fields of one more row
pub fields_more : (rows : List Row) (n i : ℕ) (d : Row) → i < length rows
    → rows_fields (map row_parts (take (i + 1) rows)) n
    ≡ rows_fields (map row_parts (take i rows)) n ++ row_field n (row_parts (get_or rows i d))
fields_more rows n i d less =
    ap (flat_map (row_field n)) (map_more row_parts rows i d less)
    ∙ flat_map-append (row_field n) (map row_parts (take i rows)) (row_parts (get_or rows i d) ∷ [])
    ∙ ap (λ (fs : List _). flat_map (row_field n) (map row_parts (take i rows)) ++ fs)
    (append-nil (row_field n (row_parts (get_or rows i d))))
