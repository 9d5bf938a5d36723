-- What has gone on to a writer, and what is held, are those of all that was told: after a text, and at the end.
use Rattle.std.proofs.Common.{◌≡◌, ◌∙◌, ℕ, Bool, Option, Some, None, Result, Ok, Err, OnOk, List, [], ◌∷◌, ◌++◌, ap, arith}
use Rattle.std.proofs.Common.{append_assoc, append-nil, refl, subst, sym}
use Rattle.std.specs.Io.KnownBytes.{Appends}
use Rattle.std.specs.Option.{ForSome}
use Rattle.pmb_io.specs.Calls.{AppendsFront, CountsFailure}
use Rattle.pmb_io.specs.Count.{raised}
use Rattle.pmb_io.specs.Outgoing.{PutsText}
use Rattle.pmb_io.specs.declared.fault.IoFault.{IoFault}
use Rattle.pmb_colour.specs.declared.lines.Lines.{Lines}
use Rattle.pmb_colour.specs.Onward.{all_pieces, told_held, told_pieces}
use Rattle.pmb_colour.specs.Painting.{Held, held_after, nothing_held, pieces_of}
use Rattle.pmb_colour.specs.Pieces.{plain, shown}
use Rattle.pmb_colour.proofs.Puts.{appends_then, shown_append}
use Rattle.pmb_colour.proofs.Texts.{held_goes_on, pieces_go_on}

-- ---- no write has failed

one_more : (n : ℕ) → raised n 1 ≡ 0 → ⊥
one_more n none = omega (arith, none)

-- where no write has failed so far, none had before, and this one went well
pub went_well : {A P : Type 0} (result : Result A IoFault) (before after : ℕ) → CountsFailure before after result
    → after ≡ 0 → OnOk result P → (before ≡ 0) × P
went_well (Ok x) before after same none done = (sym same ∙ none, done)
went_well (Err fault) before after more none done = absurd (one_more before (sym more ∙ none))

-- ---- what a writer holds

appended : (bytes : List ℕ) (held : Option (List ℕ)) (more : List ℕ) → Appends (Some bytes) held more
    → held ≡ Some (bytes ++ more)
appended bytes None more never = absurd never
appended bytes (Some all) more is = ap Some is

pub holds_more : (before old new : Option (List ℕ)) (text more : List ℕ)
    → ForSome before (λ first. old ≡ Some (first ++ text)) → Appends old new more
    → ForSome before (λ first. new ≡ Some (first ++ (text ++ more)))
holds_more before old new text more holds appends first is =
    appended (first ++ text) new more (subst (λ (held : Option (List ℕ)). Appends held new more) (holds first is) appends)
    ∙ ap Some (append_assoc first text more)

pub as_appends : (before held : Option (List ℕ)) (text : List ℕ) → ForSome before (λ first. held ≡ Some (first ++ text))
    → Appends before held text
as_appends None held text holds = tt
as_appends (Some first) held text holds =
    subst (λ (is : Option (List ℕ)). Appends (Some first) is text) (sym (holds first refl)) refl

-- nothing waited, and nothing waits: all of the text was sent
pub all_sent : (old new : Option (List ℕ)) (waited waits text : List ℕ) → waited ≡ [] → waits ≡ []
    → PutsText old waited new waits text → Appends old new text
all_sent old new waited waits text none_old none_new puts =
    let same : text ≡ puts.sent = ap (λ (w : List ℕ). w ++ text) (sym none_old)
    ∙ (puts.whole ∙ (ap (λ (w : List ℕ). puts.sent ++ w) none_new ∙ append-nil puts.sent)) in
    subst (λ (t : List ℕ). Appends old new t) (sym same) puts.appended

-- a write failed: a front of all was written
pub front_onward : (before old new : Option (List ℕ)) (text more : List ℕ)
    → ForSome before (λ first. old ≡ Some (first ++ text)) → AppendsFront old new more → AppendsFront before new (text ++ more)
front_onward before old new text more holds front = record {
  sent = text ++ front.sent;
  rest = front.rest;
  whole = ap (λ (t : List ℕ). text ++ t) front.whole ∙ sym (append_assoc text front.sent front.rest);
  appended = appends_then before old new text front.sent (as_appends before old text holds) front.appended;
}

-- ---- a text more

held_same : (a b : Held) → a.line ≡ b.line → a.is_rest ≡ b.is_rest → a ≡ b
held_same a b line rest =
    let halfway : Held = record { line = b.line; is_rest = a.is_rest } in
    let first : a ≡ halfway = ap (λ (l : List ℕ). let it : Held = record { line = l; is_rest = a.is_rest } in it) line in
    let second : halfway ≡ b = ap (λ (r : Bool). let it : Held = record { line = b.line; is_rest = r } in it) rest in
    first ∙ second

-- what goes on of it, where lines are painted
pub painted_more : (lines : Option Lines) (painted : Lines) (text more both : List ℕ) (held : Held)
    → lines ≡ Some painted → both ≡ text ++ more
    → held.line ≡ (told_held lines text).line → held.is_rest ≡ (told_held lines text).is_rest
    → shown (told_pieces lines text) ++ shown (pieces_of painted held more) ≡ shown (told_pieces lines both)
painted_more lines painted text more both held is whole =
    let first = pieces_of painted nothing_held text in
    let after = held_after nothing_held text in
    subst (λ (ls : Option Lines). held.line ≡ (told_held ls text).line → held.is_rest ≡ (told_held ls text).is_rest
    → shown (told_pieces ls text) ++ shown (pieces_of painted held more) ≡ shown (told_pieces ls both)) (sym is)
    (λ line rest. ap (λ (h : Held). shown first ++ shown (pieces_of painted h more)) (held_same held after line rest)
    ∙ (sym (shown_append first (pieces_of painted after more))
    ∙ (ap shown (sym (pieces_go_on painted nothing_held text more))
    ∙ ap (λ (t : List ℕ). shown (pieces_of painted nothing_held t)) (sym whole))))

-- .. and what is held then
pub held_more : (lines : Option Lines) (painted : Lines) (text more both : List ℕ) (held new : Held)
    → lines ≡ Some painted → both ≡ text ++ more → new ≡ held_after held more
    → held.line ≡ (told_held lines text).line → held.is_rest ≡ (told_held lines text).is_rest
    → new ≡ told_held lines both
held_more lines painted text more both held new is whole after =
    subst (λ (ls : Option Lines). held.line ≡ (told_held ls text).line → held.is_rest ≡ (told_held ls text).is_rest
    → new ≡ told_held ls both) (sym is)
    (λ line rest. after ∙ (ap (λ (h : Held). held_after h more) (held_same held (held_after nothing_held text) line rest)
    ∙ (sym (held_goes_on nothing_held text more) ∙ ap (λ (t : List ℕ). held_after nothing_held t) (sym whole))))

-- the same where none are
pub passed_more : (lines : Option Lines) (text more both : List ℕ) → lines ≡ None → both ≡ text ++ more
    → shown (told_pieces lines text) ++ more ≡ shown (told_pieces lines both)
passed_more lines text more both is whole =
    subst (λ (ls : Option Lines). shown (told_pieces ls text) ++ more ≡ shown (told_pieces ls both)) (sym is)
    (ap (λ (t : List ℕ). t ++ more) (append-nil text) ∙ (sym whole ∙ sym (append-nil both)))

pub held_none : (lines : Option Lines) (text both : List ℕ) → lines ≡ None → told_held lines text ≡ told_held lines both
held_none lines text both is =
    subst (λ (ls : Option Lines). told_held ls text ≡ told_held ls both) (sym is) refl

-- ---- the end

-- what is held goes on too
pub shown_all : (lines : Option Lines) (text line : List ℕ) → line ≡ (told_held lines text).line
    → shown (told_pieces lines text) ++ line ≡ shown (all_pieces lines text)
shown_all lines text line is =
    let last = (told_held lines text).line in
    ap (λ (l : List ℕ). shown (told_pieces lines text) ++ l) (is ∙ sym (append-nil last))
    ∙ sym (shown_append (told_pieces lines text) (plain last ∷ []))
