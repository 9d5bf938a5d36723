-- What the words so far are, by where a reader stands: just those that lead there
-- (`spelled`). For `parse_request` and the laws on requests. Each step adds what it wanted of the
-- word, so that a reader that took all words has read a spelling.
use Rattle.std.proofs.Common.{◌≡◌, ◌≢◌, ℕ, Bool, true, false, Option, Some, None, List, [], ◌∷◌, ◌++◌, refl, sym, ap}
use Rattle.std.proofs.Common.{subst, inl, inr, ◌∙◌, append_assoc}
use Rattle.std.proofs.lemmas.List.{map-append}
use Rattle.std.proofs.lemmas.Slice.Eq.{bytes_eq-Decides}
use Rattle.std.specs.Prelude.{codes, if◌then◌else◌}
use Rattle.std.specs.Str.{bytes_eq}
use Rattle.pmb_line.specs.declared.token.Token.{Token}
use Rattle.pmb_line.specs.declared.token.Token.TheVariants as said
use Rattle.pmb_line.specs.Token.{token_of}
use Rattle.pmb_request.specs.declared.verb.Verb.{Verb}
use Rattle.pmb_request.specs.declared.verb.Verb.TheVariants.{Read, Call, Set, Get}
use Rattle.pmb_request.specs.Spelling.{Task, to_read, to_call, to_set, to_get, Wanted, token, text, IsWanted, AreWanted}
use Rattle.pmb_request.specs.Spelling.{keyword, operands}
use Rattle.pmb_line.specs.NextWord.{on_byte, on_byte_or_pec, on_pec}
use Rattle.pmb_request.specs.machine.Reading.{Partial, nothing, writing, at_address, at_code, at_quantity, behind}
use Rattle.pmb_request.specs.machine.Reading.{ended, behind_code, begins, on_first, step, run}
use Rattle.pmb_request.proofs.Runs.{cases, run-none, run-writing}

-- the keyword of a verb
abbrev pub verb_word : Verb → Wanted
verb_word Read = token said.Read
verb_word Call = token said.Call
verb_word Set = text (codes "set")
verb_word Get = text (codes "get")

-- the words so far, where they are not those of a write
abbrev pub spelled : Partial → List Wanted
spelled nothing = []
spelled writing = []
spelled (at_address verb) = verb_word verb ∷ []
spelled (at_code verb a) = verb_word verb ∷ token (said.Byte a) ∷ []
spelled (at_quantity a c) = text (codes "set") ∷ token (said.Byte a) ∷ token (said.Byte c) ∷ []
spelled (behind a c task) = keyword task ∷ token (said.Byte a) ∷ token (said.Byte c) ∷ operands task
spelled (ended a c task) = keyword task ∷ token (said.Byte a) ∷ token (said.Byte c) ∷ operands task ++ token said.Pec
    ∷ []

-- ---- words that are wanted

pub append-nil : {A : Type 0} (xs : List A) → xs ++ [] ≡ xs
append-nil [] = refl
append-nil (x ∷ xs) = ap (λ ys. x ∷ ys) (append-nil xs)

pub wanted-append : (xs ys : List Wanted) (ws vs : List (List ℕ)) → AreWanted xs ws → AreWanted ys vs
    → AreWanted (xs ++ ys) (ws ++ vs)
wanted-append [] ys [] vs front back = back
wanted-append [] ys (w ∷ ws) vs front back = absurd front
wanted-append (x ∷ xs) ys [] vs front back = absurd front
wanted-append (x ∷ xs) ys (w ∷ ws) vs front back = (front.0, wanted-append xs ys ws vs front.1 back)

-- ---- a word more

-- A word leads from one place to another: it is what has to come there.
pub record Leads (s : Partial) (word : List ℕ) (after : Partial) : Type 0 where
  -- what had to come
  pub wanted : Wanted
  pub adds : spelled after ≡ spelled s ++ wanted ∷ []
  -- and the word is that
  pub is : IsWanted wanted word

-- the place that a step led to
led : {s : Partial} {word : List ℕ} (next : Partial) {after : Partial} → Leads s word next → Some next ≡ Some after
    → Leads s word after
led {s} {word} next {after} leads is =
    let same : next ≡ after = cc is in
    subst (Leads s word) same leads

-- `set`, `get`, or no word that fits
leads_verb : (word : List ℕ) (set get : Bool) (after : Partial) → bytes_eq word (codes "set") ≡ set
    → bytes_eq word (codes "get") ≡ get
    → begins (if set then Some Set else (if get then Some Get else None)) ≡ Some after → Leads nothing word after
leads_verb word true get after is_set is_get is =
    led (at_address Set) (record {
      wanted = text (codes "set");
      adds = refl;
      is =
          (bytes_eq-Decides word (codes "set")).0 is_set;
    }) is
leads_verb word false true after is_set is_get is =
    led (at_address Get) (record {
      wanted = text (codes "get");
      adds = refl;
      is =
          (bytes_eq-Decides word (codes "get")).0 is_get;
    }) is
leads_verb word false false after is_set is_get is = cc is

leads_first : (said_so : Option Token) (word : List ℕ) (after : Partial) → token_of word ≡ said_so
    → on_first said_so word ≡ Some after → after ≢ writing → Leads nothing word after
leads_first (Some said.Write) word after says is other =
    let same : writing ≡ after = cc is in
    absurd (other (sym same))
leads_first (Some said.Read) word after says is other =
    led (at_address Read) (record { wanted = token said.Read; adds = refl; is = says }) is
leads_first (Some said.Call) word after says is other =
    led (at_address Call) (record { wanted = token said.Call; adds = refl; is = says }) is
leads_first _ word after says is other = leads_verb word (bytes_eq word (codes "set"))
    (bytes_eq word (codes "get")) after refl refl is

-- a byte
leads_byte : (said_so : Option Token) (word : List ℕ) (s : Partial) (next : ℕ → Partial) (after : Partial)
    → token_of word ≡ said_so
    → ((b : ℕ) → spelled (next b) ≡ spelled s ++ token (said.Byte b) ∷ []) → on_byte said_so next ≡ Some after
    → Leads s word after
leads_byte (Some (said.Byte b)) word s next after says adds is =
    led (next b) (record { wanted = token (said.Byte b); adds = adds b; is = says }) is
leads_byte _ word s next after says adds is = cc is

-- a code
code_adds : (verb : Verb) (a c : ℕ) → spelled (behind_code verb a c) ≡ spelled (at_code verb a) ++ token (said.Byte c)
    ∷ []
code_adds Read a c = refl
code_adds Call a c = refl
code_adds Set a c = refl
code_adds Get a c = refl

-- `pec`
leads_pec : (said_so : Option Token) (word : List ℕ) (a c : ℕ) (task : Task) (after : Partial) → token_of word ≡ said_so
    → on_pec said_so (ended a c task) ≡ Some after
    → Leads (behind a c task) word after
leads_pec (Some said.Pec) word a c task after says is =
    led (ended a c task) (record { wanted = token said.Pec; adds = refl; is = says }) is
leads_pec _ word a c task after says is = cc is

-- a byte more of a call, or `pec`
leads_operand : (said_so : Option Token) (word : List ℕ) (a c : ℕ) (bytes : List ℕ) (after : Partial)
    → token_of word ≡ said_so
    → on_byte_or_pec said_so (λ b. behind a c (to_call (bytes ++ b ∷ []))) (ended a c (to_call bytes)) ≡ Some after
    → Leads (behind a c (to_call bytes)) word after
leads_operand (Some (said.Byte b)) word a c bytes after says is =
    led (behind a c (to_call (bytes ++ b ∷ []))) (record {
      wanted = token (said.Byte b);
      adds = ap (λ (xs : List Wanted). token said.Call ∷ token (said.Byte a) ∷ token (said.Byte c) ∷ xs)
          (map-append (λ (x : ℕ). token (said.Byte x)) bytes (b ∷ []));
      is = says;
    }) is
leads_operand (Some said.Pec) word a c bytes after says is =
    led (ended a c (to_call bytes)) (record { wanted = token said.Pec; adds = refl; is = says }) is
leads_operand _ word a c bytes after says is = cc is

-- a word that fits, where no write is under way
pub leads : (s : Partial) (word : List ℕ) (after : Partial) → step s word ≡ Some after → after ≢ writing
    → Leads s word after
leads nothing word after is other = leads_first (token_of word) word after refl is other
leads writing word after is other =
    let same : writing ≡ after = cc is in
    absurd (other (sym same))
leads (at_address verb) word after is other = leads_byte (token_of word) word (at_address verb)
    (λ b. at_code verb b) after refl (λ b. refl) is
leads (at_code verb a) word after is other = leads_byte (token_of word) word (at_code verb a)
    (λ b. behind_code verb a b) after refl (λ b. code_adds verb a b) is
leads (at_quantity a c) word after is other =
    led (behind a c (to_set word)) (record { wanted = text word; adds = refl; is = refl }) is
leads (behind a c to_read) word after is other = leads_pec (token_of word) word a c to_read after refl is
leads (behind a c (to_call bytes)) word after is other = leads_operand (token_of word) word a c bytes after refl is
leads (behind a c (to_set quantity)) word after is other =
    leads_pec (token_of word) word a c (to_set quantity) after refl is
leads (behind a c to_get) word after is other = leads_pec (token_of word) word a c to_get after refl is
leads (ended a c task) word after is other = cc is

-- ---- words one after the other

-- words so far, and one more
more_wanted : (s after : Partial) (front : List (List ℕ)) (word : List ℕ) → Leads s word after
    → AreWanted (spelled s) front → AreWanted (spelled after) (front ++ word ∷ [])
more_wanted s after front word leads so_far =
    subst (λ xs. AreWanted xs (front ++ word ∷ [])) (sym leads.adds)
    (wanted-append (spelled s) (leads.wanted ∷ []) front (word ∷ []) so_far (leads.is, tt))

-- a write stays one
not_writing : (next after : Partial) (words : List (List ℕ)) → run (Some next) words ≡ Some after → after ≢ writing
    → next ≢ writing
not_writing next after words is other same =
    let stays : Some writing ≡ Some after = sym (run-writing words) ∙ ap (λ (s : Partial). run (Some s) words)
    (sym same) ∙ is in
    let there : writing ≡ after = cc stays in
    other (sym there)

wanted_from : (s : Partial) (front words : List (List ℕ)) (after : Partial) → AreWanted (spelled s) front
    → run (Some s) words ≡ Some after → after ≢ writing
    → AreWanted (spelled after) (front ++ words)
wanted_from s front [] after so_far is other =
    let same : s ≡ after = cc is in
    subst (λ (x : Partial). AreWanted (spelled x) (front ++ [])) same
    (subst (AreWanted (spelled s)) (sym (append-nil front)) so_far)
wanted_from s front (word ∷ words) after so_far is other =
    elim (cases (step s word)) [
      | inl none ↦ absurd (run-none words after (ap (λ o. run o words) (sym none) ∙ is))
      | inr found ↦
          let goes_on : run (Some found.0) words ≡ Some after = ap (λ o. run o words) (sym found.1) ∙ is in
          let by = leads s word found.0 found.1 (not_writing found.0 after words goes_on other) in
          let rest = wanted_from found.0 (front ++ word ∷ []) words after (more_wanted s found.0 front word by so_far)
          goes_on other in
          subst (AreWanted (spelled after)) (append_assoc front (word ∷ []) words) rest
    ]

-- the words that a reader took are those that lead there
pub wanted : (words : List (List ℕ)) (after : Partial) → run (Some nothing) words ≡ Some after → after ≢ writing
    → AreWanted (spelled after) words
wanted words after is other = wanted_from nothing [] words after tt is other
