-- The runs that separators cut a list into, and those of two lists end to end: the last run of the
-- first goes on with the first run of the second. For the laws on texts and all steps of the
-- lexer.
use Rattle.std.proofs.Common.{◌≡◌, ℕ, Bool, true, false, cond, List, [], ◌∷◌, ◌++◌, refl, sym, ap, ◌∙◌}
use Rattle.std.specs.List.{slice_split, onto_first}
use Rattle.pmb_bus.specs.Text.{all_but_last, last_run}

-- a list before the first run
abbrev pub glue : List ℕ → List (List ℕ) → List (List ℕ)
glue word [] = []
glue word (run ∷ runs) = (word ++ run) ∷ runs

-- nothing in front changes nothing
pub glue-nil : (runs : List (List ℕ)) → glue [] runs ≡ runs
glue-nil [] = refl
glue-nil (run ∷ runs) = refl

-- runs, and then those of a list that goes on with their last
abbrev pub joined : List (List ℕ) → List (List ℕ) → List (List ℕ)
joined runs more = all_but_last runs ++ glue (last_run runs) more

-- runs have a first one
abbrev pub HasRuns : List (List ℕ) → Type 0
HasRuns runs = (first : List ℕ) × (more : List (List ℕ)) × (runs ≡ first ∷ more)

-- an element in front makes a first run
onto_first-HasRuns : (x : ℕ) (runs : List (List ℕ)) → HasRuns (onto_first x runs)
onto_first-HasRuns x [] = (x ∷ [], [], refl)
onto_first-HasRuns x (run ∷ runs) = (x ∷ run, runs, refl)

-- a list has at least one run
pub slice_split-HasRuns : (p : ℕ → Bool) (xs : List ℕ) → HasRuns (slice_split p xs)
slice_split-HasRuns p [] = ([], [], refl)
slice_split-HasRuns p (x ∷ xs) =
    elim (p x) as (λ v. HasRuns (cond v ([] ∷ slice_split p xs) (onto_first x (slice_split p xs)))) [
      | true ↦ ([], slice_split p xs, refl)
      | false ↦ onto_first-HasRuns x (slice_split p xs)
    ]

-- an element before runs that are joined
onto_first-joined : (x : ℕ) (runs : List (List ℕ)) (first : List ℕ) (more : List (List ℕ))
    → onto_first x (joined runs (first ∷ more)) ≡ joined (onto_first x runs) (first ∷ more)
onto_first-joined x [] first more = refl
onto_first-joined x (run ∷ []) first more = refl
onto_first-joined x (run ∷ next ∷ runs) first more = refl

-- one more element before a list whose runs are `joined`
joined-cons : (cut : Bool) (x : ℕ) (run : List ℕ) (runs : List (List ℕ)) (first : List ℕ) (more all : List (List ℕ))
    → all ≡ joined (run ∷ runs) (first ∷ more)
    → cond cut ([] ∷ all) (onto_first x all) ≡ joined (cond cut ([] ∷ run ∷ runs) (onto_first x (run ∷ runs)))
    (first ∷ more)
joined-cons true x run runs first more all same = ap (λ (rest : List (List ℕ)). [] ∷ rest) same
joined-cons false x run runs first more all same =
    ap (onto_first x) same ∙ onto_first-joined x (run ∷ runs) first more

-- the runs of two lists end to end: the last of the first goes on with the first of the second
pub slice_split-append : (p : ℕ → Bool) (xs ys : List ℕ)
    → slice_split p (xs ++ ys) ≡ joined (slice_split p xs) (slice_split p ys)
slice_split-append p [] ys = sym (glue-nil (slice_split p ys))
slice_split-append p (x ∷ xs) ys =
    let front = slice_split-HasRuns p xs in
    let back = slice_split-HasRuns p ys in
    let rest = slice_split-append p xs ys in
    rw (front.2, back.2) (joined-cons (p x) x front.0 front.1 back.0 back.1 (slice_split p (xs ++ ys))
    (rw (front.2, back.2) at rest))

-- the last of two rows of runs is that of the second
pub last_run-append : (front : List (List ℕ)) (run : List ℕ) (runs : List (List ℕ))
    → last_run (front ++ run ∷ runs) ≡ last_run (run ∷ runs)
last_run-append [] run runs = refl
last_run-append (first ∷ []) run runs = refl
last_run-append (first ∷ next ∷ front) run runs = last_run-append (next ∷ front) run runs

-- and all but the last are the first row and all but the last of the second
pub all_but_last-append : (front : List (List ℕ)) (run : List ℕ) (runs : List (List ℕ))
    → all_but_last (front ++ run ∷ runs) ≡ front ++ all_but_last (run ∷ runs)
all_but_last-append [] run runs = refl
all_but_last-append (first ∷ []) run runs = refl
all_but_last-append (first ∷ next ∷ front) run runs =
    ap (λ (rest : List (List ℕ)). first ∷ rest) (all_but_last-append (next ∷ front) run runs)

-- runs are all but the last and the last
pub front_and_last : (run : List ℕ) (runs : List (List ℕ))
    → run ∷ runs ≡ all_but_last (run ∷ runs) ++ last_run (run ∷ runs) ∷ []
front_and_last run [] = refl
front_and_last run (next ∷ runs) = ap (λ (rest : List (List ℕ)). run ∷ rest) (front_and_last next runs)
