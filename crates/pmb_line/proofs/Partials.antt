-- The words that lead to a place of a reader (`spelled`), and lists of their tokens. For Steps,
-- Completeness, Completions and Faults, and so for `read_words` and its laws. Each place holds the
-- numbers that were read, so it tells the words.
use Rattle.std.proofs.Common.{◌≡◌, ℕ, true, List, [], ◌∷◌, ◌++◌, refl, sym, ap, ◌∙◌, append_assoc}
use Rattle.std.specs.List.{flat_map}
use Rattle.std.proofs.lemmas.List.{map-append}
use Rattle.pmb_transaction.specs.Transaction.{PartData}
use Rattle.pmb_line.specs.declared.token.Token.{Token}
use Rattle.pmb_line.specs.declared.token.Token.TheVariants.{Byte, Write, Read, Call, Refused, Alert, Nobody, Pec, Plus}
use Rattle.pmb_line.specs.declared.token.Token.TheVariants.{Colon}
use Rattle.pmb_line.specs.Spelling.{bytes, part, parts, part_before}
use Rattle.pmb_line.specs.machine.Reading.{Partial, nothing, write_next, write_code, write_data, write_pec, read_next}
use Rattle.pmb_line.specs.machine.Reading.{read_code, read_colon, read_reply, read_pec, call_next, call_code, call_data}
use Rattle.pmb_line.specs.machine.Reading.{call_reply, call_pec, refused_next, refused_sent, refused_pec, refused_read}
use Rattle.pmb_line.specs.machine.Reading.{alert_next, alert_byte, alert_pec, alert_none, part_with}

-- parts, each with a `+` after it
abbrev pub parts_before : List PartData → List Token
parts_before ps = flat_map part_before ps

-- the tokens so far
abbrev pub spelled : Partial → List Token
spelled nothing = []
spelled (write_next ps) = Write ∷ parts_before ps
spelled (write_code ps a) = Write ∷ parts_before ps ++ Byte a ∷ []
spelled (write_data ps a c bs) = Write ∷ parts_before ps ++ Byte a ∷ Byte c ∷ bytes bs
spelled (write_pec ps a c bs) = Write ∷ parts_before ps ++ part (part_with a c bs true)
spelled read_next = Read ∷ []
spelled (read_code a) = Read ∷ Byte a ∷ []
spelled (read_colon a c) = Read ∷ Byte a ∷ Byte c ∷ []
spelled (read_reply a c bs) = Read ∷ Byte a ∷ Byte c ∷ Colon ∷ bytes bs
spelled (read_pec a c bs) = Read ∷ Byte a ∷ Byte c ∷ Colon ∷ bytes bs ++ Pec ∷ []
spelled call_next = Call ∷ []
spelled (call_code a) = Call ∷ Byte a ∷ []
spelled (call_data a c bs) = Call ∷ Byte a ∷ Byte c ∷ bytes bs
spelled (call_reply a c bs rs) = Call ∷ Byte a ∷ Byte c ∷ bytes bs ++ Colon ∷ bytes rs
spelled (call_pec a c bs rs) = Call ∷ Byte a ∷ Byte c ∷ bytes bs ++ Colon ∷ bytes rs ++ Pec ∷ []
spelled (refused_next ps) = Refused ∷ parts_before ps
spelled (refused_sent ps a bs) = Refused ∷ parts_before ps ++ Byte a ∷ bytes bs
spelled (refused_pec ps a c bs) = Refused ∷ parts_before ps ++ part (part_with a c bs true)
spelled (refused_read ps a bs) = Refused ∷ parts_before ps ++ Byte a ∷ bytes bs ++ Read ∷ []
spelled alert_next = Alert ∷ []
spelled (alert_byte b) = Alert ∷ Byte b ∷ []
spelled (alert_pec b) = Alert ∷ Byte b ∷ Pec ∷ []
spelled alert_none = Alert ∷ Nobody ∷ []

-- ---- lists of tokens

pub bytes-push : (bs : List ℕ) (b : ℕ) → bytes (bs ++ b ∷ []) ≡ bytes bs ++ Byte b ∷ []
bytes-push bs b = map-append Byte bs (b ∷ [])

pub append-nil : {A : Type 0} (xs : List A) → xs ++ [] ≡ xs
append-nil [] = refl
append-nil (x ∷ xs) = ap (λ ys. x ∷ ys) (append-nil xs)

pub parts_before-append : (ps qs : List PartData) → parts_before (ps ++ qs) ≡ parts_before ps ++ parts_before qs
parts_before-append [] qs = refl
parts_before-append (p ∷ ps) qs =
    let rest : parts_before (ps ++ qs) ≡ parts_before ps ++ parts_before qs = parts_before-append ps qs in
    ap (λ xs. part_before p ++ xs) rest ∙ sym (append_assoc (part_before p) (parts_before ps) (parts_before qs))

pub parts_before-push : (ps : List PartData) (p : PartData) → parts_before (ps ++ p ∷ []) ≡ parts_before ps ++ part p
    ++ Plus ∷ []
parts_before-push ps p =
    parts_before-append ps (p ∷ []) ∙ ap (λ xs. parts_before ps ++ xs) (append-nil (part_before p))
    ∙ sym (append_assoc (parts_before ps) (part p) (Plus ∷ []))

regroup : (front mid back : List Token) (x : Token) → front ++ x ∷ (mid ++ back) ≡ ((front ++ x ∷ []) ++ mid) ++ back
regroup front mid back x = simp append_assoc

-- the parts of a write, the last one told apart
pub parts-push : (ps : List PartData) (p : PartData) → parts (ps ++ p ∷ []) ≡ parts_before ps ++ part p
parts-push [] p = refl
parts-push (q ∷ []) p = sym (ap (λ xs. xs ++ part p) (append-nil (part_before q))
    ∙ append_assoc (part q) (Plus ∷ []) (part p))
parts-push (q ∷ r ∷ ps) p =
    let rest : parts (r ∷ ps ++ p ∷ []) ≡ parts_before (r ∷ ps) ++ part p = parts-push (r ∷ ps) p in
    ap (λ xs. part q ++ Plus ∷ xs) rest ∙ regroup (part q) (parts_before (r ∷ ps)) (part p) Plus
