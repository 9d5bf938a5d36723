-- What a writer and a reader are left with after one call and then another: bytes are appended and
-- consumed in turn. For `IoSink::write_all`, the law `texts_add_up` and all that runs over both.
-- Where their bytes are known, what was held is what is held before the new ones.
use Rattle.std.proofs.Common.{◌≡◌, ℕ, ◌<◌, ◌≢◌, ◌∙◌, Bool, true, false, length, Option, Some, None, Result, Ok, Err}
use Rattle.std.proofs.Common.{OnOk, List, [], ◌++◌, sym, ap, subst, refl, append_assoc, append-nil, take, drop}
use Rattle.std.proofs.Common.{take-append-drop, rules, arith}
use Rattle.std.specs.Io.KnownBytes.{Appends, Consumes, Keeps}
use Rattle.std.proofs.lemmas.Bool.Decides.{nat_tests}
use Rattle.pmb_io.specs.Calls.{TellsEnd, AppendsFront}
use Rattle.pmb_io.specs.Outgoing.{PutsText}
use Rattle.pmb_io.specs.declared.fault.RunFault.{RunFault}

-- appended twice
pub appends_then : (a b c : Option (List ℕ)) (x y : List ℕ) → Appends a b x → Appends b c y → Appends a c (x ++ y)
appends_then None b c x y h k = tt
appends_then (Some a) None c x y h k = absurd h
appends_then (Some a) (Some b) None x y h k = absurd k
appends_then (Some a) (Some b) (Some c) x y h k = k ∙ (ap (λ l. l ++ y) h ∙ append_assoc a x y)

-- nothing appended
pub appends_nothing : (a : Option (List ℕ)) → Appends a a []
appends_nothing None = tt
appends_nothing (Some a) = search rules

-- consumed twice
pub consumes_then : (a b c : Option (List ℕ)) (x y : List ℕ) → Consumes a b x → Consumes b c y → Consumes a c (x ++ y)
consumes_then None b c x y h k = tt
consumes_then (Some a) None c x y h k = absurd h
consumes_then (Some a) (Some b) None x y h k = absurd k
consumes_then (Some a) (Some b) (Some c) x y h k = h ∙ (ap (λ l. x ++ l) k ∙ sym (append_assoc x y c))

-- nothing consumed
pub consumes_nothing : (a : Option (List ℕ)) → Consumes a a []
consumes_nothing None = tt
consumes_nothing (Some a) = search rules

-- a text and then another
pub writes_then : (h0 h1 h2 : Option (List ℕ)) (w0 w1 w2 a b : List ℕ) → PutsText h0 w0 h1 w1 a → PutsText h1 w1 h2 w2 b
    → PutsText h0 w0 h2 w2 (a ++ b)
writes_then h0 h1 h2 w0 w1 w2 a b first second = record {
  sent = first.sent ++ second.sent;
  appended = appends_then h0 h1 h2 first.sent second.sent first.appended second.appended;
  whole = sym (append_assoc w0 a b) ∙ (ap (λ l. l ++ b) first.whole ∙ (append_assoc first.sent w1 b
      ∙ (ap (λ l. first.sent ++ l) second.whole ∙ sym (append_assoc first.sent second.sent w2))));
}

-- no text
pub writes_nothing : (h : Option (List ℕ)) (w : List ℕ) → PutsText h w h w []
writes_nothing h w = record { sent = []; appended = appends_nothing h; whole = search rules }

-- the same of equal texts and equal rests
pub writes_as : (h0 h1 : Option (List ℕ)) (w0 w1 w2 a b : List ℕ) → w1 ≡ w2 → a ≡ b → PutsText h0 w0 h1 w1 a
    → PutsText h0 w0 h1 w2 b
writes_as h0 h1 w0 w1 w2 a b e f h = subst (λ (w : List ℕ). PutsText h0 w0 h1 w b) e
    (subst (λ (t : List ℕ). PutsText h0 w0 h1 w1 t) f h)

-- where nothing waited and nothing waits, the text was appended
pub writes_all : (h0 h1 : Option (List ℕ)) (a : List ℕ) → PutsText h0 [] h1 [] a → Appends h0 h1 a
writes_all h0 h1 a h = subst (λ (t : List ℕ). Appends h0 h1 t) (search (rules, h.whole)) h.appended

-- two facts of a call's success together
pub on_ok_both : {T F P Q R : Type 0} (r : Result T F) → (P → Q → R) → OnOk r P → OnOk r Q → OnOk r R
on_ok_both (Ok x) join p q = join p q
on_ok_both (Err e) join p q = tt

-- known bytes that stay as they were lose none
pub keeps_consumes : (a b : Option (List ℕ)) → Keeps a b → Consumes a b []
keeps_consumes None b h = tt
keeps_consumes (Some a) None h = absurd h
keeps_consumes (Some a) (Some b) h = sym h

-- nor get more
pub keeps_appends : (a b : Option (List ℕ)) → Keeps a b → Appends a b []
keeps_appends None b h = tt
keeps_appends (Some a) None h = absurd h
keeps_appends (Some a) (Some b) h = h ∙ sym (append-nil a)

-- a read of nothing into a buffer with room tells the end
pub told_end : (old new : Bool) (count : ℕ) (buffer : List ℕ) → TellsEnd {F = RunFault} old new (Ok count) buffer
    → count ≡ 0 → 0 < length buffer → new ≡ true
told_end old new count buffer told none room = grind (arith, nat_tests)

-- and a read of something tells no more of it
pub told_no_end : (old new : Bool) (count : ℕ) (buffer : List ℕ) → TellsEnd {F = RunFault} old new (Ok count) buffer
    → count ≢ 0 → new ≡ old
told_no_end true new count buffer told some = told
told_no_end false new count buffer told some = grind (arith, nat_tests)

-- ---- bytes of which a front went out

-- and these are left of them
pub record WritesUpTo (held_old held_new : Option (List ℕ)) (bytes rest : List ℕ) : Type 0 where
  -- what went out
  pub sent : List ℕ
  pub whole : bytes ≡ sent ++ rest
  pub appended : Appends held_old held_new sent

pub up_to_none : (h : Option (List ℕ)) (bytes : List ℕ) → WritesUpTo h h bytes bytes
up_to_none h bytes = record { sent = []; whole = refl; appended = appends_nothing h }

-- nothing is left
pub up_to_all : (h0 h1 : Option (List ℕ)) (bytes rest : List ℕ) → WritesUpTo h0 h1 bytes rest → rest ≡ []
    → Appends h0 h1 bytes
up_to_all h0 h1 bytes rest so_far none =
    subst (λ (t : List ℕ). Appends h0 h1 t) (sym
    (so_far.whole ∙ (ap (λ r. so_far.sent ++ r) none ∙ append-nil so_far.sent))) so_far.appended

-- some more go out
pub up_to_more : (h0 h1 h2 : Option (List ℕ)) (bytes rest : List ℕ) (count : ℕ) → WritesUpTo h0 h1 bytes rest
    → Appends h1 h2 (take count rest) → WritesUpTo h0 h2 bytes (drop count rest)
up_to_more h0 h1 h2 bytes rest count so_far appended = record {
  sent = so_far.sent ++ take count rest;
  whole = so_far.whole ∙ (ap (λ r. so_far.sent ++ r) (sym (take-append-drop count rest))
      ∙ sym (append_assoc so_far.sent (take count rest) (drop count rest)));
  appended = appends_then h0 h1 h2 so_far.sent (take count rest) so_far.appended appended;
}

-- none does
pub up_to_kept : (h0 h1 h2 : Option (List ℕ)) (bytes rest : List ℕ) → WritesUpTo h0 h1 bytes rest → Keeps h1 h2
    → WritesUpTo h0 h2 bytes rest
up_to_kept h0 h1 h2 bytes rest so_far kept = record {
  sent = so_far.sent ++ [];
  whole = so_far.whole ∙ ap (λ t. t ++ rest) (sym (append-nil so_far.sent));
  appended = appends_then h0 h1 h2 so_far.sent [] so_far.appended (keeps_appends h1 h2 kept);
}

pub up_to_front : (h0 h1 : Option (List ℕ)) (bytes rest : List ℕ) → WritesUpTo h0 h1 bytes rest
    → AppendsFront h0 h1 bytes
up_to_front h0 h1 bytes rest so_far = record {
  sent = so_far.sent;
  rest = rest;
  whole = so_far.whole;
  appended =
      so_far.appended;
}
