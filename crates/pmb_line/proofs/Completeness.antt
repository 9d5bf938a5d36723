-- A reader (`run` of specs/machine/Reading) takes each word of a transaction's line and stands at
-- its end, where the transaction is found. For the laws `one_transaction`, `line_spells` and
-- `parse_or_fault`, and for faults: what the reader doesn't take begins no line. A line is its
-- keyword, its parts and its bytes, each list taken word by word.
use Rattle.std.proofs.Common.{◌≡◌, ℕ, Bool, true, false, Option, Some, List, [], ◌∷◌, ◌++◌, map, refl, sym, ap, subst}
use Rattle.std.proofs.Common.{◌∙◌, append_assoc}
use Rattle.std.proofs.lemmas.List.{map-append}
use Rattle.pmb_transaction.specs.Transaction.{PartData, TransactionData, ReadData, CallData, RefusedData, AlertData}
use Rattle.pmb_transaction.specs.Transaction as says
use Rattle.pmb_line.specs.declared.token.Token.{Token}
use Rattle.pmb_line.specs.declared.token.Token.TheVariants.{Byte, Write, Read, Pec, Plus, Colon}
use Rattle.pmb_line.specs.Spelling.{HasLine, bytes, mark, part, part_before, tokens}
use Rattle.pmb_line.specs.Fault.{IsWithin}
use Rattle.pmb_line.specs.machine.Reading.{Partial, nothing, write_next, write_data, write_pec, read_reply, read_pec}
use Rattle.pmb_line.specs.machine.Reading.{call_data, call_reply, call_pec, refused_next, refused_sent, refused_read}
use Rattle.pmb_line.specs.machine.Reading.{alert_byte, alert_pec, alert_none, part_with, run, step, finish, Room}
use Rattle.pmb_line.proofs.Partials.{append-nil, parts_before, parts-push}
use Rattle.pmb_line.proofs.Steps.{room_before}

-- Where a reader stands after the whole line of a transaction.
pub record Reached (t : TransactionData) : Type 0 where
  -- where the reader stands, and that all words lead there
  pub at : Partial
  pub ran : run (Some nothing) (map Some (tokens t)) ≡ Some at
  -- the transaction found there, and there is room where it isn't too large
  pub finished : finish at ≡ Some t
  pub room : IsWithin t → Room at

-- bytes are taken one after the other
run_bytes : (s : List ℕ → Partial) (takes : (bs : List ℕ) (b : ℕ)
    → step (s bs) (Some (Byte b)) ≡ Some (s (bs ++ b ∷ []))) (bs xs : List ℕ) (rest : List (Option Token))
    → run (Some (s bs)) (map Some (bytes xs) ++ rest) ≡ run (Some (s (bs ++ xs))) rest
run_bytes s takes bs [] rest = ap (λ ys. run (Some (s ys)) rest) (sym (append-nil bs))
run_bytes s takes bs (x ∷ xs) rest =
    ap (λ o. run o (map Some (bytes xs) ++ rest)) (takes bs x) ∙ run_bytes s takes (bs ++ x ∷ []) xs rest
    ∙ ap (λ ys. run (Some (s ys)) rest) (append_assoc bs (x ∷ []) xs)

-- parts, each with a `+` after it
run_parts : (s : List PartData → Partial)
    (takes : (ps : List PartData) (p : PartData) (rest : List (Option Token))
    → run (Some (s ps)) (map Some (part_before p) ++ rest) ≡ run (Some (s (ps ++ p ∷ []))) rest)
    (ps qs : List PartData) (rest : List (Option Token)) → run (Some (s ps)) (map Some (parts_before qs) ++ rest)
    ≡ run (Some (s (ps ++ qs))) rest
run_parts s takes ps [] rest = ap (λ ys. run (Some (s ys)) rest) (sym (append-nil ps))
run_parts s takes ps (q ∷ qs) rest =
    ap (λ xs. run (Some (s ps)) (xs ++ rest)) (map-append Some (part_before q) (parts_before qs))
    ∙ ap (run (Some (s ps))) (append_assoc (map Some (part_before q)) (map Some (parts_before qs)) rest)
    ∙ takes ps q (map Some (parts_before qs) ++ rest) ∙ run_parts s takes (ps ++ q ∷ []) qs rest
    ∙ ap (λ ys. run (Some (s ys)) rest) (append_assoc ps (q ∷ []) qs)

-- the words of a part, apart
part_words : (a c : ℕ) (bs : List ℕ) (pec : Bool) (rest : List (Option Token))
    → map Some (part (part_with a c bs pec)) ++ rest ≡ Some (Byte a) ∷ Some (Byte c)
    ∷ (map Some (bytes bs) ++ (map Some (mark Pec pec) ++ rest))
part_words a c bs pec rest =
    ap (λ xs. xs ++ rest) (map-append Some (Byte a ∷ Byte c ∷ bytes bs) (mark Pec pec))
    ∙ append_assoc (map Some (Byte a ∷ Byte c ∷ bytes bs)) (map Some (mark Pec pec)) rest

before_words : (p : PartData) (rest : List (Option Token)) → map Some (part_before p) ++ rest ≡ map Some (part p)
    ++ (Some Plus ∷ rest)
before_words p rest = ap (λ xs. xs ++ rest) (map-append Some (part p) (Plus ∷ []))
    ∙ append_assoc (map Some (part p)) (Some Plus ∷ []) rest

-- a part of a write, without its end
write_part : (ps : List PartData) (a c : ℕ) (bs : List ℕ) (rest : List (Option Token))
    → run (Some (write_next ps)) (Some (Byte a) ∷ Some (Byte c) ∷ (map Some (bytes bs) ++ rest))
    ≡ run (Some (write_data ps a c bs)) rest
write_part ps a c bs rest = run_bytes (write_data ps a c) (λ bs b. refl) [] bs rest

takes_write : (ps : List PartData) (a c : ℕ) (bs : List ℕ) (pec : Bool) (rest : List (Option Token))
    → run (Some (write_next ps)) (map Some (part_before (part_with a c bs pec)) ++ rest)
    ≡ run (Some (write_next (ps ++ part_with a c bs pec ∷ []))) rest
takes_write ps a c bs true rest =
    ap (run (Some (write_next ps))) (before_words (part_with a c bs true) rest
    ∙ part_words a c bs true (Some Plus ∷ rest))
    ∙ write_part ps a c bs (Some Pec ∷ Some Plus ∷ rest)
takes_write ps a c bs false rest =
    ap (run (Some (write_next ps))) (before_words (part_with a c bs false) rest
    ∙ part_words a c bs false (Some Plus ∷ rest))
    ∙ write_part ps a c bs (Some Plus ∷ rest)

-- one of a refused packet
refused_part : (ps : List PartData) (a c : ℕ) (bs : List ℕ) (rest : List (Option Token))
    → run (Some (refused_next ps)) (Some (Byte a) ∷ Some (Byte c) ∷ (map Some (bytes bs) ++ rest))
    ≡ run (Some (refused_sent ps a (c ∷ bs))) rest
refused_part ps a c bs rest = run_bytes (λ bs. refused_sent ps a (c ∷ bs)) (λ bs b. refl) [] bs rest

takes_refused : (ps : List PartData) (a c : ℕ) (bs : List ℕ) (pec : Bool) (rest : List (Option Token))
    → run (Some (refused_next ps)) (map Some (part_before (part_with a c bs pec)) ++ rest)
    ≡ run (Some (refused_next (ps ++ part_with a c bs pec ∷ []))) rest
takes_refused ps a c bs true rest =
    ap (run (Some (refused_next ps))) (before_words (part_with a c bs true) rest
    ∙ part_words a c bs true (Some Plus ∷ rest))
    ∙ refused_part ps a c bs (Some Pec ∷ Some Plus ∷ rest)
takes_refused ps a c bs false rest =
    ap (run (Some (refused_next ps))) (before_words (part_with a c bs false) rest
    ∙ part_words a c bs false (Some Plus ∷ rest))
    ∙ refused_part ps a c bs (Some Plus ∷ rest)

-- the last one of parts
pub record Last (ps : List PartData) : Type 0 where
  pub front : List PartData
  pub last : PartData
  pub split : ps ≡ front ++ last ∷ []

pub last_of : (p : PartData) (ps : List PartData) → Last (p ∷ ps)
last_of p [] = record { front = []; last = p; split = refl }
last_of p (q ∷ ps) = let rest = last_of q ps in
    record { front = p ∷ rest.front; last = rest.last; split = ap (λ xs. p ∷ xs) rest.split }

-- the words of a write
write_words : (ps : List PartData) (p : PartData) → map Some (tokens (says.Write (ps ++ p ∷ []))) ≡ Some Write
    ∷ (map Some (parts_before ps) ++ map Some (part p))
write_words ps p = ap (λ (xs : List Token). Some Write ∷ map Some xs) (parts-push ps p)
    ∙ ap (λ xs. Some Write ∷ xs) (map-append Some (parts_before ps) (part p))

-- and with its last part apart
write_ran : (ps : List PartData) (a c : ℕ) (bs : List ℕ) (pec : Bool)
    → run (Some nothing) (map Some (tokens (says.Write (ps ++ part_with a c bs pec ∷ []))))
    ≡ run (Some (write_data ps a c bs)) (map Some (mark Pec pec) ++ [])
write_ran ps a c bs pec =
    ap (run (Some nothing)) (write_words ps (part_with a c bs pec))
    ∙ run_parts write_next (λ qs q rest. takes_write qs q.addr q.code q.bytes q.pec rest) [] ps
    (map Some (part (part_with a c bs pec)))
    ∙ ap (run (Some (write_next ps))) (sym (append-nil (map Some (part (part_with a c bs pec))))
    ∙ part_words a c bs pec [])
    ∙ write_part ps a c bs (map Some (mark Pec pec) ++ [])

reached_write : (ps : List PartData) (a c : ℕ) (bs : List ℕ) (pec : Bool)
    → Reached (says.Write (ps ++ part_with a c bs pec ∷ []))
reached_write ps a c bs true = record {
  at = write_pec ps a c bs;
  ran = write_ran ps a c bs true;
  finished =
      refl;
  room = room_before 16 ps a c bs true;
}
reached_write ps a c bs false = record {
  at = write_data ps a c bs;
  ran = write_ran ps a c bs false;
  finished =
      refl;
  room = room_before 16 ps a c bs false;
}

reached_parts : (ps : List PartData) → HasLine (says.Write ps) → Reached (says.Write ps)
reached_parts [] some = absurd (some refl)
reached_parts (p ∷ ps) some =
    let split = last_of p ps in
    let last = split.last in
    subst (λ qs. Reached (says.Write qs)) (sym split.split)
    (reached_write split.front last.addr last.code last.bytes last.pec)

-- bytes with `pec` or not after them, to the end
reply_words : (bs : List ℕ) (pec : Bool) → map Some (bytes bs ++ mark Pec pec) ≡ map Some (bytes bs)
    ++ map Some (mark Pec pec)
reply_words bs pec = map-append Some (bytes bs) (mark Pec pec)

read_ran : (a c : ℕ) (bs : List ℕ) (pec : Bool)
    → run (Some nothing) (map Some (tokens (says.Read (record { addr = a; code = c; reply = bs; pec = pec }))))
    ≡ run (Some (read_reply a c bs)) (map Some (mark Pec pec))
read_ran a c bs pec =
    ap (run (Some (read_reply a c []))) (reply_words bs pec) ∙ run_bytes (read_reply a c) (λ xs b. refl) [] bs
    (map Some (mark Pec pec))

reached_read : (a c : ℕ) (bs : List ℕ) (pec : Bool)
    → Reached (says.Read (record { addr = a; code = c; reply = bs; pec = pec }))
reached_read a c bs true = record {
  at = read_pec a c bs;
  ran = read_ran a c bs true;
  finished = refl;
  room =
      λ within. within;
}
reached_read a c bs false = record {
  at = read_reply a c bs;
  ran = read_ran a c bs false;
  finished = refl;
  room =
      λ within. within;
}

call_words : (bs rs : List ℕ) (pec : Bool) → map Some (bytes bs ++ Colon ∷ bytes rs ++ mark Pec pec)
    ≡ map Some (bytes bs) ++ (Some Colon ∷ (map Some (bytes rs) ++ map Some (mark Pec pec)))
call_words bs rs pec =
    map-append Some (bytes bs ++ Colon ∷ bytes rs) (mark Pec pec)
    ∙ ap (λ xs. xs ++ map Some (mark Pec pec)) (map-append Some (bytes bs) (Colon ∷ bytes rs))
    ∙ append_assoc (map Some (bytes bs)) (map Some (Colon ∷ bytes rs)) (map Some (mark Pec pec))

call_ran : (a c : ℕ) (bs rs : List ℕ) (pec : Bool)
    → run (Some nothing) (map Some (tokens (says.Call
    (record { addr = a; code = c; bytes = bs; reply = rs; pec = pec }))))
    ≡ run (Some (call_reply a c bs rs)) (map Some (mark Pec pec))
call_ran a c bs rs pec =
    ap (run (Some (call_data a c []))) (call_words bs rs pec)
    ∙ run_bytes (call_data a c) (λ xs b. refl) [] bs (Some Colon ∷ (map Some (bytes rs) ++ map Some (mark Pec pec)))
    ∙ run_bytes (call_reply a c bs) (λ xs b. refl) [] rs (map Some (mark Pec pec))

reached_call : (a c : ℕ) (bs rs : List ℕ) (pec : Bool)
    → Reached (says.Call (record { addr = a; code = c; bytes = bs; reply = rs; pec = pec }))
reached_call a c bs rs true = record {
  at = call_pec a c bs rs;
  ran = call_ran a c bs rs true;
  finished = refl;
  room =
      λ within. within;
}
reached_call a c bs rs false = record {
  at = call_reply a c bs rs;
  ran = call_ran a c bs rs false;
  finished =
      refl;
  room = λ within. within;
}

refused_words : (ps : List PartData) (a : ℕ) (bs : List ℕ) (at_read : Bool)
    → map Some (parts_before ps ++ Byte a ∷ bytes bs ++ mark Read at_read) ≡ map Some (parts_before ps)
    ++ (Some (Byte a) ∷ (map Some (bytes bs) ++ map Some (mark Read at_read)))
refused_words ps a bs at_read =
    map-append Some (parts_before ps ++ Byte a ∷ bytes bs) (mark Read at_read)
    ∙ ap (λ xs. xs ++ map Some (mark Read at_read)) (map-append Some (parts_before ps) (Byte a ∷ bytes bs))
    ∙ append_assoc (map Some (parts_before ps)) (map Some (Byte a ∷ bytes bs)) (map Some (mark Read at_read))

refused_ran : (ps : List PartData) (a : ℕ) (bs : List ℕ) (at_read : Bool)
    → run (Some nothing) (map Some (tokens (says.Refused
    (record { parts = ps; addr = a; sent = bs; at_read = at_read }))))
    ≡ run (Some (refused_sent ps a bs)) (map Some (mark Read at_read))
refused_ran ps a bs at_read =
    ap (run (Some (refused_next []))) (refused_words ps a bs at_read)
    ∙ run_parts refused_next (λ qs q rest. takes_refused qs q.addr q.code q.bytes q.pec rest) [] ps
    (Some (Byte a) ∷ (map Some (bytes bs) ++ map Some (mark Read at_read)))
    ∙ run_bytes (refused_sent ps a) (λ xs b. refl) [] bs (map Some (mark Read at_read))

reached_refused : (ps : List PartData) (a : ℕ) (bs : List ℕ) (at_read : Bool)
    → Reached (says.Refused (record { parts = ps; addr = a; sent = bs; at_read = at_read }))
reached_refused ps a bs true = record {
  at = refused_read ps a bs;
  ran = refused_ran ps a bs true;
  finished =
      refl;
  room = λ within. within;
}
reached_refused ps a bs false = record {
  at = refused_sent ps a bs;
  ran = refused_ran ps a bs false;
  finished =
      refl;
  room = λ within. within;
}

reached_alert : (b : ℕ) (pec : Bool) → Reached (says.Alert (record { byte = b; pec = pec }))
reached_alert b true = record { at = alert_pec b; ran = refl; finished = refl; room = λ within. tt }
reached_alert b false = record { at = alert_byte b; ran = refl; finished = refl; room = λ within. tt }

pub reached : (t : TransactionData) → HasLine t → Reached t
reached (says.Write ps) some = reached_parts ps some
reached (says.Read t) some = reached_read t.addr t.code t.reply t.pec
reached (says.Call t) some = reached_call t.addr t.code t.bytes t.reply t.pec
reached (says.Refused t) some = reached_refused t.parts t.addr t.sent t.at_read
reached (says.Alert t) some = reached_alert t.byte t.pec
reached says.NoAlert some = record { at = alert_none; ran = refl; finished = refl; room = λ within. tt }
