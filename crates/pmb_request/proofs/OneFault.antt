-- A line spells one request at most, has one first fault at most, and never both: the laws
-- `one_request`, `one_request_fault` and `no_request_with_a_fault`. A reader that takes the words
-- is a function, so that one wording has them; faults are of three kinds, blank, at a word, or of
-- the line as a whole, and two first ones of any kinds are at the same place.
use Rattle.std.proofs.Common.{◌≡◌, ◌≢◌, ℕ, false, Option, Some, Ok, Err, List, [], ◌∷◌, ◌++◌, map, refl, sym, ap, subst}
use Rattle.std.proofs.Common.{inl, inr, ◌∙◌, append_assoc}
use Rattle.std.specs.Prelude.{codes}
use Rattle.std.proofs.lemmas.List.{map-append}
use Rattle.pmb_quantity.specs.Reading.{reading}
use Rattle.pmb_quantity.specs.declared.quantity.QuantityFault.{QuantityFault}
use Rattle.pmb_transaction.specs.Transaction.{PartData, TransactionData}
use Rattle.pmb_transaction.specs.Transaction as says
use Rattle.pmb_line.specs.declared.line_fault.LineFault.TheVariants as line_fault
use Rattle.pmb_line.specs.declared.token.Token.{Token}
use Rattle.pmb_line.specs.declared.token.Token.TheVariants.{Plus}
use Rattle.pmb_line.specs.declared.token.Token.TheVariants as said
use Rattle.pmb_line.specs.Spelling.{SpellsTransaction, part, parts}
use Rattle.pmb_line.specs.Token.{token_of}
use Rattle.pmb_line.specs.Words.{Word, texts, line_words}
use Rattle.pmb_line.proofs.OneWordsFault.{IsOfWhole, IsRoom, Kind, blank, stop, whole, bad, long, no_stop_fault}
use Rattle.pmb_line.proofs.OneWordsFault.{not_empty, one_fault}
use Rattle.pmb_request.specs.declared.request_fault.RequestFault.{RequestFault}
use Rattle.pmb_request.specs.declared.request_fault.RequestFault.TheVariants.{Line, Quantity}
use Rattle.pmb_request.specs.Request.{Command, RequestData}
use Rattle.pmb_request.specs.Spelling.{Task, to_read, to_call, to_set, to_get, Wording, Write, Ask, Spells}
use Rattle.pmb_request.specs.Fault.{BeginsRequest, HasRoom, goes_on, plus, IsCutShort, IsWithin}
use Rattle.pmb_request.specs.RequestFault.{IsBadQuantity, IsRequestFault, Means, SpellsRequest, of_words}
use Rattle.pmb_request.specs.machine.Reading.{writing, finish}
use Rattle.pmb_request.proofs.Steps.{append-nil}
use Rattle.pmb_request.proofs.Completeness.{finish_reached, last_place, reached}

-- ---- one wording

-- what words ask of a command is all that they ask for
one_ask : (words : List (List ℕ)) (c : Command) (task : Task) (wording : Wording) → Spells words (Ask c task)
    → Spells words wording → wording ≡ Ask c task
one_ask words c task (Write ps) one other =
    let there : Some (last_place (Ask c task)) ≡ Some writing = sym (reached words (Ask c task) one)
    ∙ reached words (Write ps) other in
    let same : last_place (Ask c task) ≡ writing = cc there in
    let both : Some (Ask c task) ≡ finish writing = sym (finish_reached c task) ∙ ap finish same in
    cc both
one_ask words c task (Ask d other_task) one other =
    let there : Some (last_place (Ask c task)) ≡ Some (last_place (Ask d other_task)) =
    sym (reached words (Ask c task) one) ∙ reached words (Ask d other_task) other in
    let same : last_place (Ask c task) ≡ last_place (Ask d other_task) = cc there in
    let both : Some (Ask c task) ≡ Some (Ask d other_task) = sym (finish_reached c task) ∙ ap finish same
    ∙ finish_reached d other_task in
    cc both

-- words spell one transaction at most
abbrev pub OneTransaction : Type 0
OneTransaction = (ws : List (List ℕ)) (t u : TransactionData) → SpellsTransaction ws t → SpellsTransaction ws u → t ≡ u

one_wording : (law : OneTransaction) (words : List (List ℕ)) (a b : Wording) → Spells words a → Spells words b → a ≡ b
one_wording law words (Ask c task) b one other = sym (one_ask words c task b one other)
one_wording law words (Write ps) (Ask c task) one other = one_ask words c task (Write ps) other one
one_wording law words (Write ps) (Write qs) one other =
    let same : says.Write ps ≡ says.Write qs = law words (says.Write ps) (says.Write qs) one other in
    cc same

one_meaning : (mode : ℕ → Option ℕ) (wording : Wording) (a b : RequestData) → Means mode wording a
    → Means mode wording b → a ≡ b
one_meaning mode (Write ps) a b one other = one ∙ sym other
one_meaning mode (Ask c to_read) a b one other = one ∙ sym other
one_meaning mode (Ask c (to_call bytes)) a b one other = one ∙ sym other
one_meaning mode (Ask c (to_set text)) a b one other =
    let both : Ok one.0 ≡ Ok other.0 = sym one.1 ∙ other.1 in
    let same : one.0 ≡ other.0 = cc both in
    one.2 ∙ cc (same, other.2)
one_meaning mode (Ask c to_get) a b one other = one ∙ sym other

pub one_request : (law : OneTransaction) (mode : ℕ → Option ℕ) (line : List ℕ) (a b : RequestData)
    → SpellsRequest mode line a → SpellsRequest mode line b → a ≡ b
one_request law mode line a b one other =
    let same = one_wording law (texts (line_words line)) other.wording one.wording other.spells one.spells in
    one_meaning mode one.wording a b one.means (subst (λ w. Means mode w b) same other.means)

-- ---- room

-- a part more
parts-push : (q : PartData) (ps : List PartData) (p : PartData) → parts (q ∷ ps ++ p ∷ []) ≡ parts (q ∷ ps) ++ Plus
    ∷ part p
parts-push q [] p = refl
parts-push q (r ∷ ps) p = ap (λ xs. part q ++ Plus ∷ xs) (parts-push r ps p)
    ∙ sym (append_assoc (part q) (Plus ∷ parts (r ∷ ps)) (Plus ∷ part p))

-- the part of the words `00 00`
abbrev zero_part : PartData
zero_part = record { addr = 0; code = 0; bytes = []; pec = false }

-- after the `+` of a write some line goes on
plus_begun : (before : List (List ℕ)) (word : List ℕ) (ps : List PartData) → token_of word ≡ Some Plus
    → SpellsTransaction before (says.Write ps)
    → BeginsRequest (before ++ word ∷ [])
plus_begun before word [] is spells = absurd (spells.has_line refl)
plus_begun before word (q ∷ ps) is spells =
    let more : List (List ℕ) = codes "00" ∷ codes "00" ∷ [] in
    let added : map token_of (word ∷ more) ≡ map Some (Plus ∷ part zero_part) = ap (λ t. t ∷ map token_of more) is in
    let whole : map token_of ((before ++ word ∷ []) ++ more)
    ≡ map Some (said.Write ∷ parts (q ∷ ps ++ zero_part ∷ [])) =
    ap (map token_of) (append_assoc before (word ∷ []) more) ∙ map-append token_of before (word ∷ more)
    ∙ ap (λ xs. xs ++ map token_of (word ∷ more)) spells.says
    ∙ ap (λ xs. map Some (said.Write ∷ parts (q ∷ ps)) ++ xs) added
    ∙ sym (map-append Some (said.Write ∷ parts (q ∷ ps)) (Plus ∷ part zero_part))
    ∙ ap (λ (xs : List Token). map Some (said.Write ∷ xs)) (sym (parts-push q ps zero_part)) in
    record {
      more = more;
      wording = Write (q ∷ ps ++ zero_part ∷ []);
      spells =
          record { has_line = λ none. cc none; says = whole };
    }

-- where there is room, some line goes on
begun : (front : List (List ℕ)) → HasRoom front → BeginsRequest front
begun front (goes_on more wording spells within) = record { more = more; wording = wording; spells = spells }
begun front (plus before word ps split is spells within) =
    subst BeginsRequest (sym split) (plus_begun before word ps is spells)

-- Words before others.
record Front (front before : List (List ℕ)) : Type 0 where
  rest : List (List ℕ)
  split : before ≡ front ++ rest

-- words that stand before the last one
front_of : (front back before : List (List ℕ)) (b w : List ℕ) → front ++ b ∷ back ≡ before ++ w ∷ []
    → Front front before
front_of [] back before b w is = record { rest = before; split = refl }
front_of (x ∷ front) back [] b w is =
    let tail : front ++ b ∷ back ≡ [] = cc is in
    absurd (not_empty front b back tail)
front_of (x ∷ front) back (y ∷ before) b w is =
    let head : x ≡ y = cc is in
    let tail : front ++ b ∷ back ≡ before ++ w ∷ [] = cc is in
    let f = front_of front back before b w tail in
    record { rest = f.rest; split = ap (λ xs. y ∷ xs) f.split ∙ ap (λ z. z ∷ front ++ f.rest) (sym head) }

-- and there was room before
room_before : (front back : List (List ℕ)) → HasRoom (front ++ back) → HasRoom front
room_before front back (goes_on more wording spells within) =
    goes_on (back ++ more) wording (subst (λ ws. Spells ws wording) (append_assoc front back more) spells) within
room_before front [] (plus before word ps split is spells within) =
    plus before word ps (sym (append-nil front) ∙ split) is spells within
room_before front (b ∷ back) (plus before word ps split is spells within) =
    let f = front_of front back before b word split in
    goes_on f.rest (Write ps) (subst (λ ws. SpellsTransaction ws (says.Write ps)) f.split spells) within

is_room : IsRoom BeginsRequest HasRoom
is_room = record { begun = begun; room_before = room_before }

-- ---- the faults, in three kinds

-- A fault of a line as a whole.
data WholeFault (line : List ℕ) (f : RequestFault) : Type 0 where
  -- the end of the line is where a word is missing
  short : (at : ℕ) → f ≡ Line (line_fault.BadWord at) → IsCutShort line at → WholeFault line f
  -- the quantity's text can't be read
  quantity : (why : QuantityFault) → f ≡ Quantity why → IsBadQuantity line why → WholeFault line f

abbrev KindOfLine : List ℕ → RequestFault → Type 0
KindOfLine line f = Kind BeginsRequest HasRoom of_words (WholeFault line) line f

kind : (line : List ℕ) (f : RequestFault) → IsRequestFault line f → KindOfLine line f
kind line (Line line_fault.Blank) is = blank refl is
kind line (Line (line_fault.BadWord at)) (inl is) = stop (bad at refl is)
kind line (Line (line_fault.BadWord at)) (inr is) = whole (short at refl is)
kind line (Line (line_fault.TooLong at)) is = stop (long at refl is)
kind line (Line (line_fault.Invalid why)) is = absurd is
kind line (Quantity why) is = whole (quantity why refl is)

-- there is room for words that ask for something that is not too large
room_for : (line : List ℕ) (wording : Wording) → Spells (texts (line_words line)) wording → IsWithin wording
    → HasRoom (texts (line_words line))
room_for line wording spells within = goes_on [] wording
    (subst (λ ws. Spells ws wording) (sym (append-nil (texts (line_words line)))) spells) within

-- and there are some
spelled_some : (ws : List Word) (wording : Wording) → Spells (texts ws) wording → ws ≢ []
spelled_some [] (Write ps) spells none = cc spells.says
spelled_some [] (Ask c task) spells none = absurd spells
spelled_some (w ∷ ws) wording spells none = cc none

whole_has_room : (line : List ℕ) (f : RequestFault) → WholeFault line f → HasRoom (texts (line_words line))
whole_has_room line f (short at is cut) = cut.room
whole_has_room line f (quantity why is unread) =
    room_for line (Ask unread.command (to_set unread.text)) unread.spells tt

whole_has_words : (line : List ℕ) (f : RequestFault) → WholeFault line f → line_words line ≢ []
whole_has_words line f (short at is cut) = cut.some
whole_has_words line f (quantity why is unread) =
    spelled_some (line_words line) (Ask unread.command (to_set unread.text)) unread.spells

-- ---- one fault

-- the text of a quantity, and so its fault
one_quantity : (line : List ℕ) (why reason : QuantityFault) → IsBadQuantity line why → IsBadQuantity line reason
    → why ≡ reason
one_quantity line why reason one other =
    let same : Ask other.command (to_set other.text) ≡ Ask one.command (to_set one.text) =
    one_ask (texts (line_words line)) one.command (to_set one.text) (Ask other.command (to_set other.text)) one.spells
    other.spells in
    let text_is : other.text ≡ one.text = cc same in
    let both : Err why ≡ Err reason = sym one.bad ∙ ap reading (sym text_is) ∙ other.bad in
    cc both

one_whole_fault : (line : List ℕ) (a b : RequestFault) → WholeFault line a → WholeFault line b → a ≡ b
one_whole_fault line a b (short at is one) (short place fault_is other) = is ∙ ap (λ n. Line (line_fault.BadWord n))
    (one.place ∙ sym other.place) ∙ sym fault_is
one_whole_fault line a b (short at is one) (quantity why fault_is other) =
    absurd (one.unfinished (Ask other.command (to_set other.text)) other.spells)
one_whole_fault line a b (quantity why is one) (short place fault_is other) =
    absurd (other.unfinished (Ask one.command (to_set one.text)) one.spells)
one_whole_fault line a b (quantity why is one) (quantity reason fault_is other) = is
    ∙ ap Quantity (one_quantity line why reason one other) ∙ sym fault_is

of_whole : (line : List ℕ) → IsOfWhole HasRoom (WholeFault line) line
of_whole line = record { has_words = whole_has_words line; has_room = whole_has_room line; one = one_whole_fault line }

pub one_request_fault : (line : List ℕ) (a b : RequestFault) → IsRequestFault line a → IsRequestFault line b → a ≡ b
one_request_fault line a b one other = one_fault BeginsRequest HasRoom is_room of_words (WholeFault line) line
    (of_whole line) a b (kind line a one) (kind line b other)

-- ---- no fault where a line spells a request

-- a quantity is read or not
no_quantity : (mode : ℕ → Option ℕ) (line : List ℕ) (request : RequestData) (why : QuantityFault)
    → SpellsRequest mode line request → IsBadQuantity line why → ⊥
no_quantity mode line request why spells unread =
    let same = one_ask (texts (line_words line)) unread.command (to_set unread.text) spells.wording unread.spells
    spells.spells in
    let means : Means mode (Ask unread.command (to_set unread.text)) request =
    subst (λ w. Means mode w request) same spells.means in
    let both : Ok means.0 ≡ Err why = sym means.1 ∙ unread.bad in
    cc both

no_kind : (mode : ℕ → Option ℕ) (line : List ℕ) (request : RequestData) (f : RequestFault)
    → SpellsRequest mode line request → KindOfLine line f → ⊥
no_kind mode line request f spells (blank is none) = spelled_some (line_words line) spells.wording spells.spells none
no_kind mode line request f spells (stop one) = no_stop_fault BeginsRequest HasRoom is_room line of_words f one
    (room_for line spells.wording spells.spells spells.within)
no_kind mode line request f spells (whole (short at is cut)) = cut.unfinished spells.wording spells.spells
no_kind mode line request f spells (whole (quantity why is unread)) = no_quantity mode line request why spells unread

pub no_request_with_a_fault : (mode : ℕ → Option ℕ) (line : List ℕ) (request : RequestData) (f : RequestFault)
    → SpellsRequest mode line request → IsRequestFault line f → ⊥
no_request_with_a_fault mode line request f spells is = no_kind mode line request f spells (kind line f is)
