-- From each place where a reader of a line may stand, words that complete the line: so words that
-- fit begin some line. For Faults, and so for `read_words` and the law `no_parse_with_a_fault`: a
-- word that doesn't fit is the first at fault, and no word before it. Missing bytes are `00`, and
-- the reply of a read may be empty.
use Rattle.std.proofs.Common.{◌≡◌, ◌≢◌, ℕ, true, false, Some, List, [], ◌∷◌, ◌++◌, map, refl, sym, ap, ◌∙◌}
use Rattle.std.proofs.Common.{append_assoc, arith, length-append}
use Rattle.std.specs.Prelude.{codes}
use Rattle.std.specs.List.{AllByRecursion}
use Rattle.pmb_transaction.specs.Transaction.{PartData, TransactionData}
use Rattle.pmb_transaction.specs.Transaction as says
use Rattle.pmb_line.specs.declared.token.Token.{Token}
use Rattle.pmb_line.specs.declared.token.Token.TheVariants.{Byte, Write, Read, Call, Refused, Alert, Nobody, Pec, Plus}
use Rattle.pmb_line.specs.declared.token.Token.TheVariants.{Colon}
use Rattle.pmb_line.specs.Token.{token_of}
use Rattle.pmb_line.specs.Spelling.{HasLine, bytes, mark, part, tokens}
use Rattle.pmb_line.specs.Fault.{ArePartsWithin, IsPartWithin, IsWithin}
use Rattle.pmb_line.specs.machine.Reading.{Partial, nothing, write_next, write_code, write_data, write_pec, read_next}
use Rattle.pmb_line.specs.machine.Reading.{read_code, read_colon, read_reply, read_pec, call_next, call_code, call_data}
use Rattle.pmb_line.specs.machine.Reading.{call_reply, call_pec, refused_next, refused_sent, refused_pec, refused_read}
use Rattle.pmb_line.specs.machine.Reading.{alert_next, alert_byte, alert_pec, alert_none, part_with, finish, Room}
use Rattle.pmb_line.specs.machine.Reading.{HasRoomForPart}
use Rattle.pmb_line.proofs.Partials.{spelled, append-nil, parts_before, parts-push}
use Rattle.pmb_line.proofs.Steps.{ends_part}

-- room for what is to come: after a `+` there is a part more
abbrev pub RoomMore : Partial → Type 0
RoomMore (write_next ps) = ArePartsWithin 15 ps
RoomMore (refused_pec ps a c bs) = HasRoomForPart 15 ps bs
RoomMore s = Room s

-- Words that end a line.
pub record Completes (s : Partial) : Type 0 where
  -- the words that are missing, and what they say
  pub more : List (List ℕ)
  pub said : List Token
  -- the transaction of the whole line
  pub t : TransactionData
  pub says : map token_of more ≡ map Some said
  pub spells : spelled s ++ said ≡ tokens t
  pub has_line : HasLine t
  -- it isn't too large if there was room, and no word is missing where the line may end here
  pub within : RoomMore s → IsWithin t
  pub finishes : (u : TransactionData) → finish s ≡ Some u → (said ≡ []) × (t ≡ u)

pub not_nil : (ps : List PartData) (p : PartData) → ps ++ p ∷ [] ≢ []
not_nil [] p same = cc same
not_nil (q ∷ ps) p same = cc same

pub each_push : (ps : List PartData) (p : PartData) → AllByRecursion IsPartWithin ps → IsPartWithin p
    → AllByRecursion IsPartWithin (ps ++ p ∷ [])
each_push [] p each within = (within, tt)
each_push (q ∷ ps) p each within = (each.0, each_push ps p each.1 within)

pub parts_push : (most : ℕ) (ps : List PartData) (p : PartData) → HasRoomForPart most ps p.bytes
    → ArePartsWithin most (ps ++ p ∷ [])
parts_push most ps p room = record {
  few = omega (arith, length-append ps (p ∷ []), room.few);
  each = each_push ps p room.each room.few_bytes;
}

-- a part without `pec`
pub no_pec : (xs : List Token) → xs ++ mark Pec false ≡ xs
no_pec xs = append-nil xs

pub completes : (s : Partial) → Completes s
-- before the first word: `alert none`
completes nothing = record {
  more = codes "alert" ∷ codes "none" ∷ [];
  said = Alert ∷ Nobody ∷ [];
  t =
      says.NoAlert;
  says = refl;
  spells = refl;
  has_line = tt;
  finishes = λ u is. cc is;
  within = λ room. tt;
}
-- in a write: an address and a code, and its parts so far stay
completes (write_next ps) =
    let p = part_with 0 0 [] false in
    record {
      more = codes "00" ∷ codes "00" ∷ [];
      said = Byte 0 ∷ Byte 0 ∷ [];
      t = says.Write (ps ++ p ∷ []);
      says = refl;
      spells = ap (λ xs. Write ∷ xs) (sym (parts-push ps p));
      has_line = not_nil ps p;
      finishes = λ u is. cc is;
      within = λ room. parts_push 16 ps p (record {
        few = omega (arith, room.few);
        each = room.each;
        few_bytes =
            omega arith;
      });
    }
-- a code
completes (write_code ps a) =
    let p = part_with a 0 [] false in
    record {
      more = codes "00" ∷ [];
      said = Byte 0 ∷ [];
      t = says.Write (ps ++ p ∷ []);
      says = refl;
      spells = append_assoc (Write ∷ parts_before ps) (Byte a ∷ []) (Byte 0 ∷ [])
          ∙ ap (λ xs. Write ∷ xs) (sym (parts-push ps p));
      has_line = not_nil ps p;
      finishes = λ u is. cc is;
      within = λ room. parts_push 16 ps p room;
    }
-- the part may end here, or after its `pec`
completes (write_data ps a c bs) =
    let p = part_with a c bs false in
    record {
      more = [];
      said = [];
      t = says.Write (ps ++ p ∷ []);
      says = refl;
      spells = append-nil (Write ∷ parts_before ps ++ Byte a ∷ Byte c ∷ bytes bs)
          ∙ ap (λ xs. Write ∷ parts_before ps ++ xs) (sym (no_pec (Byte a ∷ Byte c ∷ bytes bs)))
          ∙ ap (λ xs. Write ∷ xs) (sym (parts-push ps p));
      has_line = not_nil ps p;
      finishes = λ u is. (refl, cc is);
      within = λ room. parts_push 16 ps p room;
    }
completes (write_pec ps a c bs) =
    let p = part_with a c bs true in
    record {
      more = [];
      said = [];
      t = says.Write (ps ++ p ∷ []);
      says = refl;
      spells = append-nil (Write ∷ parts_before ps ++ part p) ∙ ap (λ xs. Write ∷ xs) (sym (parts-push ps p));
      has_line = not_nil ps p;
      finishes = λ u is. (refl, cc is);
      within = λ room. parts_push 16 ps p room;
    }
-- in a read: address, code and `:`, with an empty reply
completes read_next = record {
  more = codes "00" ∷ codes "00" ∷ codes ":" ∷ [];
  said = Byte 0 ∷ Byte 0 ∷ Colon ∷ [];
  t = says.Read (record { addr = 0; code = 0; reply = []; pec = false });
  says = refl;
  spells = refl;
  has_line = tt;
  finishes = λ u is. cc is;
  within = λ room. omega arith;
}
-- a code and `:`
completes (read_code a) = record {
  more = codes "00" ∷ codes ":" ∷ [];
  said = Byte 0 ∷ Colon ∷ [];
  t = says.Read (record { addr = a; code = 0; reply = []; pec = false });
  says = refl;
  spells = refl;
  has_line = tt;
  finishes = λ u is. cc is;
  within = λ room. omega arith;
}
-- `:`
completes (read_colon a c) = record {
  more = codes ":" ∷ [];
  said = Colon ∷ [];
  t = says.Read (record { addr = a; code = c; reply = []; pec = false });
  says = refl;
  spells = refl;
  has_line = tt;
  finishes = λ u is. cc is;
  within = λ room. omega arith;
}
-- the reply may end anywhere, and after its `pec`
completes (read_reply a c bs) = record {
  more = [];
  said = [];
  t = says.Read (record { addr = a; code = c; reply = bs; pec = false });
  says = refl;
  spells = refl;
  has_line = tt;
  finishes = λ u is. (refl, cc is);
  within = λ room. room;
}
completes (read_pec a c bs) = record {
  more = [];
  said = [];
  t = says.Read (record { addr = a; code = c; reply = bs; pec = true });
  says = refl;
  spells = append-nil (Read ∷ Byte a ∷ Byte c ∷ Colon ∷ bytes bs ++ Pec ∷ []);
  has_line = tt;
  finishes = λ u is. (refl, cc is);
  within = λ room. room;
}
-- in a call: likewise
completes call_next = record {
  more = codes "00" ∷ codes "00" ∷ codes ":" ∷ [];
  said = Byte 0 ∷ Byte 0 ∷ Colon ∷ [];
  t = says.Call (record { addr = 0; code = 0; bytes = []; reply = []; pec = false });
  says = refl;
  spells = refl;
  has_line = tt;
  finishes = λ u is. cc is;
  within = λ room. record { few_sent = omega arith; few_replied = omega arith };
}
-- a code and `:`
completes (call_code a) = record {
  more = codes "00" ∷ codes ":" ∷ [];
  said = Byte 0 ∷ Colon ∷ [];
  t = says.Call (record { addr = a; code = 0; bytes = []; reply = []; pec = false });
  says = refl;
  spells = refl;
  has_line = tt;
  finishes = λ u is. cc is;
  within = λ room. record { few_sent = omega arith; few_replied = omega arith };
}
-- `:`, and the bytes so far are sent
completes (call_data a c bs) = record {
  more = codes ":" ∷ [];
  said = Colon ∷ [];
  t = says.Call (record { addr = a; code = c; bytes = bs; reply = []; pec = false });
  says = refl;
  spells = sym (append-nil (Call ∷ Byte a ∷ Byte c ∷ bytes bs ++ Colon ∷ []));
  has_line = tt;
  finishes = λ u is. cc is;
  within = λ room. room;
}
-- the reply may end anywhere, and after its `pec`
completes (call_reply a c bs rs) = record {
  more = [];
  said = [];
  t = says.Call (record { addr = a; code = c; bytes = bs; reply = rs; pec = false });
  says = refl;
  spells = refl;
  has_line = tt;
  finishes = λ u is. (refl, cc is);
  within = λ room. room;
}
completes (call_pec a c bs rs) = record {
  more = [];
  said = [];
  t = says.Call (record { addr = a; code = c; bytes = bs; reply = rs; pec = true });
  says = refl;
  spells = append-nil (Call ∷ Byte a ∷ Byte c ∷ bytes bs ++ Colon ∷ bytes rs ++ Pec ∷ []);
  has_line = tt;
  finishes = λ u is. (refl, cc is);
  within = λ room. room;
}
-- in what a device refused: an address
completes (refused_next ps) = record {
  more = codes "00" ∷ [];
  said = Byte 0 ∷ [];
  t = says.Refused (record { parts = ps; addr = 0; sent = []; at_read = false });
  says = refl;
  spells = sym (append-nil (Refused ∷ parts_before ps ++ Byte 0 ∷ []));
  has_line = tt;
  finishes = λ u is. cc is;
  within = λ room. record { few_parts = room; few_sent = omega arith };
}
-- what was sent may end anywhere
completes (refused_sent ps a bs) = record {
  more = [];
  said = [];
  t = says.Refused (record { parts = ps; addr = a; sent = bs; at_read = false });
  says = refl;
  spells = refl;
  has_line = tt;
  finishes = λ u is. (refl, cc is);
  within = λ room. room;
}
-- after a part with its `pec`: `+`, then an address
completes (refused_pec ps a c bs) =
    let p = part_with a c bs true in
    record {
      more = codes "+" ∷ codes "00" ∷ [];
      said = Plus ∷ Byte 0 ∷ [];
      t = says.Refused (record { parts = ps ++ p ∷ []; addr = 0; sent = []; at_read = false });
      says = refl;
      spells = sym (append-nil (Refused ∷ parts_before (ps ++ p ∷ []) ++ Byte 0 ∷ [])
          ∙ ap (λ xs. xs ++ Byte 0 ∷ []) (ends_part Refused ps p) ∙ append_assoc (Refused ∷ parts_before ps ++ part p)
          (Plus ∷ []) (Byte 0 ∷ []));
      has_line = tt;
      finishes = λ u is. cc is;
      within = λ room. record { few_parts = parts_push 15 ps p room; few_sent = omega arith };
    }
-- after `read` the line ends
completes (refused_read ps a bs) = record {
  more = [];
  said = [];
  t = says.Refused (record { parts = ps; addr = a; sent = bs; at_read = true });
  says = refl;
  spells = append-nil (Refused ∷ parts_before ps ++ Byte a ∷ bytes bs ++ Read ∷ []);
  has_line = tt;
  finishes = λ u is. (refl, cc is);
  within = λ room. room;
}
-- after `alert`: `none`
completes alert_next = record {
  more = codes "none" ∷ [];
  said = Nobody ∷ [];
  t = says.NoAlert;
  says = refl;
  spells = refl;
  has_line = tt;
  finishes = λ u is. cc is;
  within = λ room. tt;
}
-- after the byte the line may end, and after its `pec`
completes (alert_byte b) = record {
  more = [];
  said = [];
  t = says.Alert (record { byte = b; pec = false });
  says = refl;
  spells = refl;
  has_line = tt;
  finishes = λ u is. (refl, cc is);
  within = λ room. tt;
}
completes (alert_pec b) = record {
  more = [];
  said = [];
  t = says.Alert (record { byte = b; pec = true });
  says = refl;
  spells = refl;
  has_line = tt;
  finishes = λ u is. (refl, cc is);
  within = λ room. tt;
}
-- after `none` it ends
completes alert_none = record {
  more = [];
  said = [];
  t = says.NoAlert;
  says = refl;
  spells = refl;
  has_line =
      tt;
  finishes = λ u is. (refl, cc is);
  within = λ room. tt;
}
