-- What is spelled is read back by the reader of the crate `json`, as that value. For the laws
-- `spelling_reads_back` and `line_reads_back`. First the spelling's lexemes, then their tokens,
-- then the value: each list and object by its first element and the others.
use Rattle.std.proofs.Common.{◌≡◌, ℕ, ◌≤◌, Bool, true, false, cond, List, [], ◌∷◌, ◌++◌, codes, Some, option_and_then}
use Rattle.std.proofs.Common.{refl, sym, ap, ap₂, ◌∙◌, append_assoc, append-nil}
use Rattle.json.specs.Token.{Token, bad}
use Rattle.json.specs.Token as tokens
use Rattle.json.specs.Word.{ends_word, word}
use Rattle.json.specs.Lex.{Lexeme, Place as TokenPlace, token, comma, colon, lex, between, fresh, after_value}
use Rattle.json.specs.Lex.{after_comma, begins_colon, place_token, punctuate}
use Rattle.json.specs.Json.{value, if_last, max_depth, document}
use Rattle.json.specs.Tree.{json_tokens, items_tokens, members_tokens, depth}
use Rattle.json.proofs.Printed.Numbers.{in_word-ended, lex-number}
use Rattle.json.proofs.Printed.Trees.{value-json_tokens}
use Rattle.pmb_json_text.specs.declared.item_order.ItemOrder.{ItemOrder}
use Rattle.pmb_json_text.specs.declared.item_order.ItemOrder.TheVariants.{First, Later}
use Rattle.pmb_json_text.specs.Json.{Json, null, boolean, number, string, array, object, Items, no_items, item, Members}
use Rattle.pmb_json_text.specs.Json.{no_members, member}
use Rattle.pmb_json_text.specs.Spelling as spelling
use Rattle.pmb_json_text.specs.Spelling.{quoted, spelled, spelled_items, spelled_members, IsWritable, ItemsAreWritable}
use Rattle.pmb_json_text.specs.Spelling.{MembersAreWritable}
use Rattle.pmb_json_text.specs.Member.{Member, object_of, object_line, AreWritable}
use Rattle.pmb_json_text.specs.ReadBack.{in_utf8, read_value, read_items, read_members}
use Rattle.pmb_json_text.proofs.Grammar.{members_are_writable}
use Rattle.pmb_json_text.proofs.ReadNumbers.{reads}
use Rattle.pmb_json_text.proofs.ReadStrings.{lexed_string}

-- ---- the lexemes of a value

abbrev commas : ItemOrder → List Lexeme
commas First = []
commas Later = comma ∷ []

abbrev mutual
  value_lexemes : Json → List Lexeme
  value_lexemes null = token tokens.null ∷ []
  value_lexemes (boolean b) = token (tokens.boolean b) ∷ []
  value_lexemes (number digits) = token (tokens.number digits) ∷ []
  value_lexemes (string bytes) = token (tokens.string (in_utf8 bytes)) ∷ []
  value_lexemes (array items) = token tokens.begin_array ∷ (items_lexemes First items ++ token tokens.end_array ∷ [])
  value_lexemes (object members) = token tokens.begin_object
      ∷ (members_lexemes First members ++ token tokens.end_object ∷ [])

  items_lexemes : ItemOrder → Items → List Lexeme
  items_lexemes place no_items = []
  items_lexemes place (item one more) = commas place ++ (value_lexemes one ++ items_lexemes Later more)

  members_lexemes : ItemOrder → Members → List Lexeme
  members_lexemes place no_members = []
  members_lexemes place (member key one more) = commas place
      ++ (token (tokens.string (in_utf8 key)) ∷ colon ∷ (value_lexemes one ++ members_lexemes Later more))

lexed_comma : (place : ItemOrder) (rest : List ℕ) → lex between (spelling.comma place ++ rest) ≡ commas place
    ++ lex between rest
unfolding lex
lexed_comma First rest = refl
lexed_comma Later rest = refl

items_end : (items : Items) (rest : List ℕ) → ends_word rest ≡ true → ends_word (spelled_items Later items ++ rest)
    ≡ true
items_end no_items rest ended = ended
items_end (item one more) rest ended = refl

members_end : (members : Members) (rest : List ℕ) → ends_word rest ≡ true
    → ends_word (spelled_members Later members ++ rest) ≡ true
members_end no_members rest ended = ended
members_end (member key one more) rest ended = refl

mutual
  unfolding lex word

  lexed_value : (one : Json) → IsWritable one → (rest : List ℕ) → ends_word rest ≡ true
      → lex between (spelled one ++ rest) ≡ value_lexemes one ++ lex between rest
  lexed_value null fit rest ended = ap₂ (λ (b : Bool) (l : List Lexeme). token (cond b tokens.null bad) ∷ l) ended
      (in_word-ended rest ended)
  lexed_value (boolean true) fit rest ended =
      ap₂ (λ (b : Bool) (l : List Lexeme). token (cond b (tokens.boolean true) bad) ∷ l) ended
      (in_word-ended rest ended)
  lexed_value (boolean false) fit rest ended =
      ap₂ (λ (b : Bool) (l : List Lexeme). token (cond b (tokens.boolean false) bad) ∷ l) ended
      (in_word-ended rest ended)
  lexed_value (number digits) fit rest ended = lex-number digits rest (reads digits fit) ended
  lexed_value (string bytes) fit rest ended = lexed_string bytes rest fit
  lexed_value (array items) fit rest ended =
      ap (λ (l : List Lexeme). token tokens.begin_array ∷ l)
      (ap (lex between) (append_assoc (spelled_items First items) (codes "]") rest)
      ∙ lexed_items First items fit (codes "]" ++ rest) refl
      ∙ sym (append_assoc (items_lexemes First items) (token tokens.end_array ∷ []) (lex between rest)))
  lexed_value (object members) fit rest ended =
      ap (λ (l : List Lexeme). token tokens.begin_object ∷ l)
      (ap (lex between) (append_assoc (spelled_members First members) (codes "}") rest)
      ∙ lexed_members First members fit (codes "}" ++ rest) refl
      ∙ sym (append_assoc (members_lexemes First members) (token tokens.end_object ∷ []) (lex between rest)))

  lexed_items : (place : ItemOrder) (items : Items) → ItemsAreWritable items → (rest : List ℕ) → ends_word rest ≡ true
      → lex between (spelled_items place items ++ rest) ≡ items_lexemes place items ++ lex between rest
  lexed_items place no_items fit rest ended = refl
  lexed_items place (item one more) fit rest ended =
      let after = spelled_items Later more in
      ap (lex between) (append_assoc (spelling.comma place) (spelled one ++ after) rest)
      ∙ lexed_comma place ((spelled one ++ after) ++ rest)
      ∙ ap (λ (l : List Lexeme). commas place ++ l)
      (ap (lex between) (append_assoc (spelled one) after rest) ∙ lexed_value one fit.0 (after ++ rest)
      (items_end more rest ended)
      ∙ ap (λ (l : List Lexeme). value_lexemes one ++ l) (lexed_items Later more fit.1 rest ended)
      ∙ sym (append_assoc (value_lexemes one) (items_lexemes Later more) (lex between rest)))
      ∙ sym (append_assoc (commas place) (value_lexemes one ++ items_lexemes Later more) (lex between rest))

  lexed_members : (place : ItemOrder) (members : Members) → MembersAreWritable members → (rest : List ℕ)
      → ends_word rest ≡ true
      → lex between (spelled_members place members ++ rest) ≡ members_lexemes place members ++ lex between rest
  lexed_members place no_members fit rest ended = refl
  lexed_members place (member key one more) fit rest ended =
      let after = spelled_members Later more in
      let lexemes = value_lexemes one ++ members_lexemes Later more in
      ap (lex between) (append_assoc (spelling.comma place) (quoted key ++ (codes ":" ++ (spelled one ++ after))) rest)
      ∙ lexed_comma place ((quoted key ++ (codes ":" ++ (spelled one ++ after))) ++ rest)
      ∙ ap (λ (l : List Lexeme). commas place ++ l)
      (ap (lex between) (append_assoc (quoted key) (codes ":" ++ (spelled one ++ after)) rest)
      ∙ lexed_string key (codes ":" ++ ((spelled one ++ after) ++ rest)) fit.0
      ∙ ap (λ (l : List Lexeme). token (tokens.string (in_utf8 key)) ∷ colon ∷ l)
      (ap (lex between) (append_assoc (spelled one) after rest) ∙ lexed_value one fit.1 (after ++ rest)
      (members_end more rest ended)
      ∙ ap (λ (l : List Lexeme). value_lexemes one ++ l) (lexed_members Later more fit.2 rest ended)
      ∙ sym (append_assoc (value_lexemes one) (members_lexemes Later more) (lex between rest))))
      ∙ sym (append_assoc (commas place) (token (tokens.string (in_utf8 key)) ∷ colon ∷ lexemes) (lex between rest))

-- ---- their tokens

-- no colon follows a value
items_no_colon : (items : Items) (rest : List Lexeme) → begins_colon rest ≡ false
    → begins_colon (items_lexemes Later items ++ rest) ≡ false
items_no_colon no_items rest none = none
items_no_colon (item one more) rest none = refl

members_no_colon : (members : Members) (rest : List Lexeme) → begins_colon rest ≡ false
    → begins_colon (members_lexemes Later members ++ rest) ≡ false
members_no_colon no_members rest none = none
members_no_colon (member key one more) rest none = refl

-- a value, and what follows it in its list, by the tokens of each
one_and_more : (before : TokenPlace) (one more end : List Lexeme) (one_tokens more_tokens after : List Token)
    → punctuate before (one ++ (more ++ end)) ≡ one_tokens ++ punctuate after_value (more ++ end)
    → punctuate after_value (more ++ end) ≡ more_tokens ++ after → punctuate before ((one ++ more) ++ end)
    ≡ (one_tokens ++ more_tokens) ++ after
one_and_more before one more end one_tokens more_tokens after first later =
    ap (punctuate before) (append_assoc one more end) ∙ first ∙ ap (λ (l : List Token). one_tokens ++ l) later
    ∙ sym (append_assoc one_tokens more_tokens after)

mutual
  unfolding punctuate

  -- at the begin of a list, and after a comma
  first_value : (one : Json) (rest : List Lexeme) → begins_colon rest ≡ false
      → punctuate fresh (value_lexemes one ++ rest) ≡ json_tokens (read_value one) ++ punctuate after_value rest
  first_value null rest none = refl
  first_value (boolean b) rest none = refl
  first_value (number digits) rest none = refl
  first_value (string bytes) rest none = ap
      (λ (b : Bool). place_token fresh (tokens.string (in_utf8 bytes)) b (λ next. punctuate next rest)) none
  first_value (array items) rest none =
      ap (λ (l : List Token). tokens.begin_array ∷ l)
      (ap (punctuate fresh) (append_assoc (items_lexemes First items) (token tokens.end_array ∷ []) rest)
      ∙ first_items items rest)
  first_value (object members) rest none =
      ap (λ (l : List Token). tokens.begin_object ∷ l)
      (ap (punctuate fresh) (append_assoc (members_lexemes First members) (token tokens.end_object ∷ []) rest)
      ∙ first_members members rest)

  later_value : (one : Json) (rest : List Lexeme) → begins_colon rest ≡ false
      → punctuate after_comma (value_lexemes one ++ rest) ≡ json_tokens (read_value one) ++ punctuate after_value rest
  later_value null rest none = refl
  later_value (boolean b) rest none = refl
  later_value (number digits) rest none = refl
  later_value (string bytes) rest none = ap
      (λ (b : Bool). place_token after_comma (tokens.string (in_utf8 bytes)) b (λ next. punctuate next rest)) none
  later_value (array items) rest none =
      ap (λ (l : List Token). tokens.begin_array ∷ l)
      (ap (punctuate fresh) (append_assoc (items_lexemes First items) (token tokens.end_array ∷ []) rest)
      ∙ first_items items rest)
  later_value (object members) rest none =
      ap (λ (l : List Token). tokens.begin_object ∷ l)
      (ap (punctuate fresh) (append_assoc (members_lexemes First members) (token tokens.end_object ∷ []) rest)
      ∙ first_members members rest)

  first_items : (items : Items) (rest : List Lexeme)
      → punctuate fresh (items_lexemes First items ++ token tokens.end_array ∷ rest) ≡ items_tokens (read_items items)
      ++ punctuate after_value rest
  first_items no_items rest = refl
  first_items (item one more) rest =
      let end = token tokens.end_array ∷ rest in
      let after = items_lexemes Later more in
      one_and_more fresh (value_lexemes one) after end (json_tokens (read_value one)) (items_tokens (read_items more))
      (punctuate after_value rest)
      (first_value one (after ++ end) (items_no_colon more end refl)) (later_items more rest)

  later_items : (items : Items) (rest : List Lexeme)
      → punctuate after_value (items_lexemes Later items ++ token tokens.end_array ∷ rest)
      ≡ items_tokens (read_items items) ++ punctuate after_value rest
  later_items no_items rest = refl
  later_items (item one more) rest =
      let end = token tokens.end_array ∷ rest in
      let after = items_lexemes Later more in
      one_and_more after_comma (value_lexemes one) after end (json_tokens (read_value one))
      (items_tokens (read_items more)) (punctuate after_value rest)
      (later_value one (after ++ end) (items_no_colon more end refl)) (later_items more rest)

  first_members : (members : Members) (rest : List Lexeme)
      → punctuate fresh (members_lexemes First members ++ token tokens.end_object ∷ rest)
      ≡ members_tokens (read_members members) ++ punctuate after_value rest
  first_members no_members rest = refl
  first_members (member key one more) rest =
      let end = token tokens.end_object ∷ rest in
      let after = members_lexemes Later more in
      ap (λ (l : List Token). tokens.key (in_utf8 key) ∷ l)
      (one_and_more fresh (value_lexemes one) after end (json_tokens (read_value one))
      (members_tokens (read_members more)) (punctuate after_value rest)
      (first_value one (after ++ end) (members_no_colon more end refl)) (later_members more rest))

  later_members : (members : Members) (rest : List Lexeme)
      → punctuate after_value (members_lexemes Later members ++ token tokens.end_object ∷ rest)
      ≡ members_tokens (read_members members) ++ punctuate after_value rest
  later_members no_members rest = refl
  later_members (member key one more) rest =
      let end = token tokens.end_object ∷ rest in
      let after = members_lexemes Later more in
      ap (λ (l : List Token). tokens.key (in_utf8 key) ∷ l)
      (one_and_more fresh (value_lexemes one) after end (json_tokens (read_value one))
      (members_tokens (read_members more)) (punctuate after_value rest)
      (first_value one (after ++ end) (members_no_colon more end refl)) (later_members more rest))

-- ---- the value

-- before blanks, or nothing
before_nothing : (one : Json) (rest : List ℕ) → IsWritable one → depth (read_value one) ≤ max_depth
    → ends_word rest ≡ true → lex between rest ≡ []
    → document (spelled one ++ rest) ≡ Some (read_value one)
unfolding punctuate
before_nothing one rest fit shallow ended nothing =
    ap (λ (l : List Lexeme). option_and_then (λ p. if_last p.0 p.1) (value max_depth (punctuate fresh l)))
    (lexed_value one fit rest ended ∙ ap (λ (l : List Lexeme). value_lexemes one ++ l) nothing)
    ∙ ap (λ (l : List Token). option_and_then (λ p. if_last p.0 p.1) (value max_depth l)) (first_value one [] refl)
    ∙ ap (option_and_then (λ p. if_last p.0 p.1)) (value-json_tokens (read_value one) max_depth [] shallow)

pub read_back : (one : Json) → IsWritable one → depth (read_value one) ≤ max_depth
    → document (spelled one) ≡ Some (read_value one)
unfolding lex
read_back one fit shallow = ap document (sym (append-nil (spelled one))) ∙ before_nothing one [] fit shallow refl refl

pub line_read_back : (members : List Member) → AreWritable members → depth (read_value (object_of members)) ≤ max_depth
    → document (object_line members) ≡ Some (read_value (object_of members))
unfolding lex
line_read_back members fit shallow = before_nothing (object_of members) (codes "\n")
    (members_are_writable members fit) shallow refl refl
