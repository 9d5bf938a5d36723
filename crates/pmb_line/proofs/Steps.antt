-- What one word more adds to the words so far (`spelled`), and that there was room before it. For
-- the laws `one_transaction` and `line_spells`, and for each function that reads words. One lemma a
-- place of the reader, each going through the tokens that may come there; then for several words in
-- a row (`ran`).
use Rattle.std.proofs.Common.{◌≡◌, ℕ, ◌≤◌, Bool, true, false, Option, Some, None, List, [], ◌∷◌, ◌++◌, map, length}
use Rattle.std.proofs.Common.{refl, sym, ap, subst, ◌⊎◌, inl, inr, ◌∙◌, append_assoc, arith, length-append}
use Rattle.std.specs.List.{AllByRecursion}
use Rattle.std.proofs.lemmas.List.{map-append}
use Rattle.pmb_transaction.specs.Transaction.{PartData}
use Rattle.pmb_line.specs.declared.token.Token.{Token}
use Rattle.pmb_line.specs.declared.token.Token.TheVariants.{Byte, Write, Read, Call, Refused, Alert, Nobody, Pec, Plus}
use Rattle.pmb_line.specs.declared.token.Token.TheVariants.{Colon}
use Rattle.pmb_line.specs.Spelling.{bytes, part, tokens}
use Rattle.pmb_line.specs.Fault.{ArePartsWithin, IsPartWithin}
use Rattle.pmb_line.specs.machine.Reading.{Partial, nothing, write_next, write_code, write_data, write_pec, read_next}
use Rattle.pmb_line.specs.machine.Reading.{read_code, read_colon, read_reply, read_pec, call_next, call_code, call_data}
use Rattle.pmb_line.specs.machine.Reading.{call_reply, call_pec, refused_next, refused_sent, refused_pec, refused_read}
use Rattle.pmb_line.specs.machine.Reading.{alert_next, alert_byte, alert_pec, alert_none, part_with, run, step, Room}
use Rattle.pmb_line.specs.machine.Reading.{HasRoomForPart}
use Rattle.pmb_line.proofs.Partials.{spelled, bytes-push, append-nil, parts_before, parts_before-push}

-- a word that leads from `s` to `after`
pub record Leads (s : Partial) (token : Token) (after : Partial) : Type 0 where
  -- the token is the next of the words, and room after it is room before it
  pub adds : spelled after ≡ spelled s ++ token ∷ []
  pub had_room : Room after → Room s

-- A word that says a token, and where that leads.
pub record LeadsBy (s : Partial) (word : Option Token) (after : Partial) : Type 0 where
  pub token : Token
  pub is : word ≡ Some token
  pub leads : Leads s token after

-- parts without the last one
pub each_before : (ps : List PartData) (p : PartData) → AllByRecursion IsPartWithin (ps ++ p ∷ [])
    → AllByRecursion IsPartWithin ps × IsPartWithin p
each_before [] p each = (tt, each.0)
each_before (q ∷ ps) p each = let rest = each_before ps p each.1 in ((each.0, rest.0), rest.1)

pub room_before : (most : ℕ) (ps : List PartData) (a c : ℕ) (bs : List ℕ) (pec : Bool)
    → ArePartsWithin most (ps ++ part_with a c bs pec ∷ []) → HasRoomForPart most ps bs
room_before most ps a c bs pec room =
    let parts = each_before ps (part_with a c bs pec) room.each in
    record {
      few = omega (arith, length-append ps (part_with a c bs pec ∷ []), room.few);
      each = parts.0;
      few_bytes = parts.1;
    }

-- fewer bytes
pub fewer : (n : ℕ) (bs : List ℕ) (b : ℕ) → length (bs ++ b ∷ []) ≤ n → length bs ≤ n
fewer n bs b h = omega (arith, length-append bs (b ∷ []))

pub parts_room : (most : ℕ) (ps : List PartData) (bs : List ℕ) → HasRoomForPart most ps bs → ArePartsWithin most ps
parts_room most ps bs room = record { few = omega (arith, room.few); each = room.each }

-- what the next place adds, at the place that a step led to
led : {s : Partial} {token : Token} (next : Partial) {after : Partial} → Leads s token next → Some next ≡ Some after
    → LeadsBy s (Some token) after
led {s} {token} next {after} leads is =
    let same : next ≡ after = cc is in
    record { token = token; is = refl; leads = subst (λ x. Leads s token x) same leads }

-- one byte more, after some tokens
more_bytes : (front mid : List Token) (bs : List ℕ) (b : ℕ) → front ++ (mid ++ bytes (bs ++ b ∷ []))
    ≡ (front ++ (mid ++ bytes bs)) ++ Byte b ∷ []
more_bytes front mid bs b =
    ap (λ xs. front ++ (mid ++ xs)) (bytes-push bs b) ∙ simp append_assoc

-- a part that ends in a `+`
pub ends_part : (front : Token) (ps : List PartData) (p : PartData) → front ∷ parts_before (ps ++ p ∷ [])
    ≡ (front ∷ parts_before ps ++ part p) ++ Plus ∷ []
ends_part front ps p = ap (λ xs. front ∷ xs) (parts_before-push ps p)

-- and without `pec`
ends_data : (front : Token) (ps : List PartData) (a c : ℕ) (bs : List ℕ)
    → front ∷ parts_before (ps ++ part_with a c bs false ∷ []) ≡ (front ∷ parts_before ps ++ Byte a ∷ Byte c ∷ bytes bs)
    ++ Plus ∷ []
ends_data front ps a c bs =
    ends_part front ps (part_with a c bs false)
    ∙ ap (λ xs. (front ∷ parts_before ps ++ xs) ++ Plus ∷ []) (append-nil (Byte a ∷ Byte c ∷ bytes bs))

leads_nothing : (word : Option Token) (after : Partial) → step nothing word ≡ Some after → LeadsBy nothing word after
leads_nothing (Some Write) after is = led (write_next []) (record { adds = refl; had_room = λ room. tt }) is
leads_nothing (Some Read) after is = led read_next (record { adds = refl; had_room = λ room. tt }) is
leads_nothing (Some Call) after is = led call_next (record { adds = refl; had_room = λ room. tt }) is
leads_nothing (Some Refused) after is = led (refused_next []) (record { adds = refl; had_room = λ room. tt }) is
leads_nothing (Some Alert) after is = led alert_next (record { adds = refl; had_room = λ room. tt }) is
leads_nothing _ after is = cc is

leads_write_next : (ps : List PartData) (word : Option Token) (after : Partial) → step (write_next ps) word ≡ Some after
    → LeadsBy (write_next ps) word after
leads_write_next ps (Some (Byte b)) after is =
    led (write_code ps b) (record { adds = refl; had_room = λ room. parts_room 16 ps [] room }) is
leads_write_next ps _ after is = cc is

leads_write_code : (ps : List PartData) (a : ℕ) (word : Option Token) (after : Partial)
    → step (write_code ps a) word ≡ Some after → LeadsBy (write_code ps a) word after
leads_write_code ps a (Some (Byte b)) after is =
    led (write_data ps a b []) (record {
      adds =
          sym (append_assoc (Write ∷ parts_before ps) (Byte a ∷ []) (Byte b ∷ []));
      had_room = λ room. room;
    }) is
leads_write_code ps a _ after is = cc is

leads_write_data : (ps : List PartData) (a c : ℕ) (bs : List ℕ) (word : Option Token) (after : Partial)
    → step (write_data ps a c bs) word ≡ Some after
    → LeadsBy (write_data ps a c bs) word after
leads_write_data ps a c bs (Some (Byte b)) after is =
    led (write_data ps a c (bs ++ b ∷ [])) (record {
      adds = more_bytes (Write ∷ parts_before ps) (Byte a ∷ Byte c ∷ []) bs b;
      had_room = λ room. record { few = room.few; each = room.each; few_bytes = fewer 255 bs b room.few_bytes };
    }) is
leads_write_data ps a c bs (Some Pec) after is =
    led (write_pec ps a c bs) (record {
      adds = sym (append_assoc (Write ∷ parts_before ps) (Byte a ∷ Byte c ∷ bytes bs) (Pec ∷ []));
      had_room = λ room. room;
    }) is
leads_write_data ps a c bs (Some Plus) after is =
    led (write_next (ps ++ part_with a c bs false ∷ []))
    (record { adds = ends_data Write ps a c bs; had_room = room_before 16 ps a c bs false }) is
leads_write_data ps a c bs _ after is = cc is

leads_write_pec : (ps : List PartData) (a c : ℕ) (bs : List ℕ) (word : Option Token) (after : Partial)
    → step (write_pec ps a c bs) word ≡ Some after
    → LeadsBy (write_pec ps a c bs) word after
leads_write_pec ps a c bs (Some Plus) after is =
    led (write_next (ps ++ part_with a c bs true ∷ []))
    (record { adds = ends_part Write ps (part_with a c bs true); had_room = room_before 16 ps a c bs true }) is
leads_write_pec ps a c bs _ after is = cc is

leads_read_next : (word : Option Token) (after : Partial) → step read_next word ≡ Some after
    → LeadsBy read_next word after
leads_read_next (Some (Byte b)) after is = led (read_code b) (record { adds = refl; had_room = λ room. tt }) is
leads_read_next _ after is = cc is

leads_read_code : (a : ℕ) (word : Option Token) (after : Partial) → step (read_code a) word ≡ Some after
    → LeadsBy (read_code a) word after
leads_read_code a (Some (Byte b)) after is = led (read_colon a b) (record { adds = refl; had_room = λ room. tt }) is
leads_read_code a _ after is = cc is

leads_read_colon : (a c : ℕ) (word : Option Token) (after : Partial) → step (read_colon a c) word ≡ Some after
    → LeadsBy (read_colon a c) word after
leads_read_colon a c (Some Colon) after is = led (read_reply a c []) (record { adds = refl; had_room = λ room. tt }) is
leads_read_colon a c _ after is = cc is

leads_read_reply : (a c : ℕ) (bs : List ℕ) (word : Option Token) (after : Partial)
    → step (read_reply a c bs) word ≡ Some after
    → LeadsBy (read_reply a c bs) word after
leads_read_reply a c bs (Some (Byte b)) after is =
    led (read_reply a c (bs ++ b ∷ [])) (record {
      adds = more_bytes (Read ∷ []) (Byte a ∷ Byte c ∷ Colon ∷ []) bs b;
      had_room = λ (room : length (bs ++ b ∷ []) ≤ 255). fewer 255 bs b room;
    }) is
leads_read_reply a c bs (Some Pec) after is = led (read_pec a c bs) (record { adds = refl; had_room = λ room. room }) is
leads_read_reply a c bs _ after is = cc is

leads_call_next : (word : Option Token) (after : Partial) → step call_next word ≡ Some after
    → LeadsBy call_next word after
leads_call_next (Some (Byte b)) after is = led (call_code b) (record { adds = refl; had_room = λ room. tt }) is
leads_call_next _ after is = cc is

leads_call_code : (a : ℕ) (word : Option Token) (after : Partial) → step (call_code a) word ≡ Some after
    → LeadsBy (call_code a) word after
leads_call_code a (Some (Byte b)) after is = led (call_data a b []) (record { adds = refl; had_room = λ room. tt }) is
leads_call_code a _ after is = cc is

leads_call_data : (a c : ℕ) (bs : List ℕ) (word : Option Token) (after : Partial)
    → step (call_data a c bs) word ≡ Some after
    → LeadsBy (call_data a c bs) word after
leads_call_data a c bs (Some (Byte b)) after is =
    led (call_data a c (bs ++ b ∷ [])) (record {
      adds = more_bytes (Call ∷ []) (Byte a ∷ Byte c ∷ []) bs b;
      had_room = λ room. record { few_sent = fewer 255 bs b room.few_sent; few_replied = room.few_replied };
    }) is
leads_call_data a c bs (Some Colon) after is =
    led (call_reply a c bs []) (record { adds = refl; had_room = λ room. room }) is
leads_call_data a c bs _ after is = cc is

leads_call_reply : (a c : ℕ) (bs rs : List ℕ) (word : Option Token) (after : Partial)
    → step (call_reply a c bs rs) word ≡ Some after
    → LeadsBy (call_reply a c bs rs) word after
leads_call_reply a c bs rs (Some (Byte b)) after is =
    led (call_reply a c bs (rs ++ b ∷ [])) (record {
      adds = more_bytes (Call ∷ Byte a ∷ Byte c ∷ bytes bs) (Colon ∷ []) rs b;
      had_room = λ room. record { few_sent = room.few_sent; few_replied = fewer 255 rs b room.few_replied };
    }) is
leads_call_reply a c bs rs (Some Pec) after is =
    led (call_pec a c bs rs) (record { adds = refl; had_room = λ room. room }) is
leads_call_reply a c bs rs _ after is = cc is

leads_refused_next : (ps : List PartData) (word : Option Token) (after : Partial)
    → step (refused_next ps) word ≡ Some after → LeadsBy (refused_next ps) word after
leads_refused_next ps (Some (Byte b)) after is =
    led (refused_sent ps b []) (record { adds = refl; had_room = λ room. room.few_parts }) is
leads_refused_next ps _ after is = cc is

leads_refused_sent : (ps : List PartData) (a : ℕ) (bs : List ℕ) (word : Option Token) (after : Partial)
    → step (refused_sent ps a bs) word ≡ Some after
    → LeadsBy (refused_sent ps a bs) word after
-- 258: the bytes of a body, at most
leads_refused_sent ps a bs (Some (Byte b)) after is =
    led (refused_sent ps a (bs ++ b ∷ [])) (record {
      adds = more_bytes (Refused ∷ parts_before ps) (Byte a ∷ []) bs b;
      had_room = λ room. record { few_parts = room.few_parts; few_sent = fewer 258 bs b room.few_sent };
    }) is
leads_refused_sent ps a bs (Some Read) after is =
    led (refused_read ps a bs) (record { adds = refl; had_room = λ room. room }) is
-- 15: the parts before a refused leg, at most
leads_refused_sent ps a (c ∷ bs) (Some Pec) after is =
    led (refused_pec ps a c bs) (record {
      adds = sym (append_assoc (Refused ∷ parts_before ps) (Byte a ∷ Byte c ∷ bytes bs) (Pec ∷ []));
      had_room = λ room. record { few_parts = parts_room 15 ps bs room; few_sent = omega (arith, room.few_bytes) };
    }) is
leads_refused_sent ps a (c ∷ bs) (Some Plus) after is =
    led (refused_next (ps ++ part_with a c bs false ∷ [])) (record {
      adds = ends_data Refused ps a c bs;
      had_room = λ room.
          let for_part : HasRoomForPart 15 ps bs = room_before 15 ps a c bs false room in
          record { few_parts = parts_room 15 ps bs for_part; few_sent = omega (arith, for_part.few_bytes) };
    }) is
leads_refused_sent ps a [] _ after is = cc is
leads_refused_sent ps a (c ∷ bs) _ after is = cc is

leads_refused_pec : (ps : List PartData) (a c : ℕ) (bs : List ℕ) (word : Option Token) (after : Partial)
    → step (refused_pec ps a c bs) word ≡ Some after
    → LeadsBy (refused_pec ps a c bs) word after
leads_refused_pec ps a c bs (Some Plus) after is =
    led (refused_next (ps ++ part_with a c bs true ∷ []))
    (record { adds = ends_part Refused ps (part_with a c bs true); had_room = room_before 15 ps a c bs true }) is
leads_refused_pec ps a c bs _ after is = cc is

leads_alert_next : (word : Option Token) (after : Partial) → step alert_next word ≡ Some after
    → LeadsBy alert_next word after
leads_alert_next (Some (Byte b)) after is = led (alert_byte b) (record { adds = refl; had_room = λ room. tt }) is
leads_alert_next (Some Nobody) after is = led alert_none (record { adds = refl; had_room = λ room. tt }) is
leads_alert_next _ after is = cc is

leads_alert_byte : (b : ℕ) (word : Option Token) (after : Partial) → step (alert_byte b) word ≡ Some after
    → LeadsBy (alert_byte b) word after
leads_alert_byte b (Some Pec) after is = led (alert_pec b) (record { adds = refl; had_room = λ room. tt }) is
leads_alert_byte b _ after is = cc is

-- a word that fits
pub leads : (s : Partial) (word : Option Token) (after : Partial) → step s word ≡ Some after → LeadsBy s word after
leads nothing word after is = leads_nothing word after is
leads (write_next ps) word after is = leads_write_next ps word after is
leads (write_code ps a) word after is = leads_write_code ps a word after is
leads (write_data ps a c bs) word after is = leads_write_data ps a c bs word after is
leads (write_pec ps a c bs) word after is = leads_write_pec ps a c bs word after is
leads read_next word after is = leads_read_next word after is
leads (read_code a) word after is = leads_read_code a word after is
leads (read_colon a c) word after is = leads_read_colon a c word after is
leads (read_reply a c bs) word after is = leads_read_reply a c bs word after is
leads (read_pec a c bs) word after is = cc is
leads call_next word after is = leads_call_next word after is
leads (call_code a) word after is = leads_call_code a word after is
leads (call_data a c bs) word after is = leads_call_data a c bs word after is
leads (call_reply a c bs rs) word after is = leads_call_reply a c bs rs word after is
leads (call_pec a c bs rs) word after is = cc is
leads (refused_next ps) word after is = leads_refused_next ps word after is
leads (refused_sent ps a bs) word after is = leads_refused_sent ps a bs word after is
leads (refused_pec ps a c bs) word after is = leads_refused_pec ps a c bs word after is
leads (refused_read ps a bs) word after is = cc is
leads alert_next word after is = leads_alert_next word after is
leads (alert_byte b) word after is = leads_alert_byte b word after is
leads (alert_pec b) word after is = cc is
leads alert_none word after is = cc is

-- ---- words one after the other

pub run-none : (tokens : List (Option Token)) (s : Partial) → run None tokens ≡ Some s → ⊥
run-none tokens s is = cc is

pub run-append : (o : Option Partial) (xs ys : List (Option Token)) → run o (xs ++ ys) ≡ run (run o xs) ys
run-append None xs ys = refl
run-append (Some s) [] ys = refl
run-append (Some s) (x ∷ xs) ys = run-append (step s x) xs ys

-- What words say that all fit.
pub record Ran (s : Partial) (words : List (Option Token)) (after : Partial) : Type 0 where
  pub adds : map Some (spelled s) ++ words ≡ map Some (spelled after)
  pub had_room : Room after → Room s

-- an answer is some or none
pub cases : {A : Type 0} (o : Option A) → (o ≡ None) ⊎ ((x : A) × (o ≡ Some x))
cases None = inl refl
cases (Some x) = inr (x, refl)

more_said : (before next : List Token) (token : Token) (word : Option Token) (words : List (Option Token))
    → word ≡ Some token → next ≡ before ++ token ∷ []
    → map Some before ++ word ∷ words ≡ map Some next ++ words
more_said before next token word words is adds =
    ap (λ w. map Some before ++ w ∷ words) is ∙ sym (append_assoc (map Some before) (Some token ∷ []) words)
    ∙ ap (λ xs. xs ++ words) (sym (map-append Some before (token ∷ [])))
    ∙ ap (λ (xs : List Token). map Some xs ++ words) (sym adds)

pub ran : (s : Partial) (words : List (Option Token)) (after : Partial) → run (Some s) words ≡ Some after
    → Ran s words after
ran s [] after is =
    let same : s ≡ after = cc is in
    subst (λ x. Ran s [] x) same (record { adds = append-nil (map Some (spelled s)); had_room = λ room. room })
ran s (word ∷ words) after is =
    let goes_on : run (step s word) words ≡ Some after = is in
    elim (cases (step s word)) [
      | inl refused ↦ absurd (run-none words after (rw refused at goes_on))
      | inr found ↦
          let next = found.0 in
          let by = leads s word next found.1 in
          let then : run (Some next) words ≡ Some after = rw found.1 at goes_on in
          let rest = ran next words after then in
          record {
            adds = more_said (spelled s) (spelled next) by.token word words by.is by.leads.adds ∙ rest.adds;
            had_room = λ room. by.leads.had_room (rest.had_room room);
          }
    ]
