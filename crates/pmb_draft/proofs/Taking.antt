-- What a draft has read, with more of a capture's text and at its end. For `Draft::take_piece` and `take_end`.
use Rattle.std.proofs.Common.{◌≡◌, ◌∙◌, ◌+◌, ◌-◌, ◌≤◌, ℕ, Option, Some, List, [], ◌∷◌, ◌++◌, length, take, drop}
use Rattle.std.proofs.Common.{ap, refl, sym, subst, arith, length-append, append_assoc, append-nil}
use Rattle.std.proofs.lemmas.List.{length-take, take-append-drop, take_rest}
use Rattle.pmb_bus.specs.Count.{capped}
use Rattle.pmb_bus.specs.LexFault.{IsFaultOf, OpenWordIsBad}
use Rattle.pmb_bus.specs.Lexer.{EndsWord, FinishRefuses, FinishesBetween, FinishesWord, LexerStandsAt, NeedsMore, Refuses}
use Rattle.pmb_bus.specs.Text.{FirstBadWord}
use Rattle.pmb_bus.specs.declared.event.Event.{Event}
use Rattle.pmb_bus.specs.declared.lexer.LexFault.{LexFault}
use Rattle.pmb_bus.specs.declared.lexer.LexFault.TheVariants.{BadToken}
use Rattle.pmb_bus.specs.declared.lexer.Lexer.{Lexer}
use Rattle.pmb_io.specs.Engines.{Either}
use Rattle.pmb_io.specs.declared.engine.Flow.{Flow}
use Rattle.pmb_io.specs.declared.engine.Flow.TheVariants.{More, Stop}
use Rattle.pmb_draft.specs.Draft.{Reads}
use Rattle.pmb_draft.specs.declared.draft.Draft.{Draft}
use Rattle.pmb_draft.specs.machine.Draft.{DraftStands, HasRead, HasStopped, Stopped, Taking}
use Rattle.pmb_draft.specs.machine.Seen.{HasSeen}

-- bytes and as many of a piece as were used
used_length : (bytes piece : List ℕ) (used : ℕ) → used ≤ length piece
    → length bytes + used ≡ length (bytes ++ take used piece)
used_length bytes piece used within =
    omega (arith, length-append bytes (take used piece), length-take used piece)

-- What is so far taken of a piece, whose front was taken before.
pub record TakenSoFar (start now : Draft) (front bytes : List ℕ) : Type 0 where
  pub after : List Event
  pub stands : DraftStands now (bytes ++ front) after

-- a word ended with an event, which was taken
pub takes_word : (start now new : Draft) (lexer : Lexer) (front rest bytes : List ℕ) (used : ℕ) (event : Event)
    → (so_far : TakenSoFar start now front bytes)
    → EndsWord (length (bytes ++ front)) (bytes ++ front) so_far.after rest used lexer event
    → new.lexer ≡ lexer → new.bad ≡ now.bad → HasSeen new.seen (so_far.after ++ event ∷ [])
    → TakenSoFar start new (front ++ take used rest) bytes
takes_word start now new lexer front rest bytes used event so_far ends same bad seen = record {
  after = so_far.after ++ event ∷ [];
  stands = record {
    lexer = subst (λ (l : Lexer). LexerStandsAt l (length (bytes ++ (front ++ take used rest)))
        (bytes ++ (front ++ take used rest)) (so_far.after ++ event ∷ [])) (sym same)
        (subst (λ (text : List ℕ). LexerStandsAt lexer (length text) text (so_far.after ++ event ∷ []))
        (append_assoc bytes front (take used rest))
        (subst (λ (n : ℕ). LexerStandsAt lexer n ((bytes ++ front) ++ take used rest) (so_far.after ++ event ∷ []))
        (used_length (bytes ++ front) rest used ends.within) ends.stands));
    seen = seen;
    bad = bad ∙ so_far.stands.bad;
  };
}

-- all of a piece is used
pub takes_rest : (start now new : Draft) (piece front rest bytes : List ℕ) (used : ℕ) → piece ≡ front ++ rest
    → (so_far : TakenSoFar start now front bytes)
    → NeedsMore (length (bytes ++ front)) (bytes ++ front) so_far.after rest used new.lexer
    → new.bad ≡ now.bad → new.seen ≡ now.seen → (events : List Event) × DraftStands new (bytes ++ piece) events
takes_rest start now new piece front rest bytes used whole so_far needs bad seen =
    let count : length (bytes ++ front) + used ≡ length ((bytes ++ front) ++ rest) =
    omega (arith, needs.all, length-append (bytes ++ front) rest) in
    let text : (bytes ++ front) ++ rest ≡ bytes ++ piece =
    append_assoc bytes front rest ∙ ap (λ (t : List ℕ). bytes ++ t) (sym whole) in (
      so_far.after,
      record {
        lexer = subst (λ (t : List ℕ). LexerStandsAt new.lexer (length t) t so_far.after) text
            (subst (λ (n : ℕ). LexerStandsAt new.lexer n ((bytes ++ front) ++ rest) so_far.after) count needs.stands);
        seen = subst (λ s. HasSeen s so_far.after) (sym seen) so_far.stands.seen;
        bad = bad ∙ so_far.stands.bad;
      },
    )

-- the place of a fault is that of the bad word
fault_place : (n : ℕ) (text whole : List ℕ) (events : List Event) (at : ℕ) → n ≡ length text
    → IsFaultOf n text (BadToken at) → OpenWordIsBad text whole events
    → (place : ℕ) × FirstBadWord whole events place × (at ≡ capped place)
fault_place n text whole events at count fault bad =
    let same : fault.0 ≡ bad.0 = omega (arith, fault.1, bad.1, count) in
    (bad.0, bad.2, fault.2 ∙ ap capped same)

-- a word is no token
pub stops : (start now new : Draft) (lexer : Lexer) (piece front rest bytes : List ℕ) (used : ℕ) (fault : LexFault)
    → piece ≡ front ++ rest → (so_far : TakenSoFar start now front bytes)
    → Refuses (length (bytes ++ front)) (bytes ++ front) so_far.after rest used lexer fault
    → ((at : ℕ) → fault ≡ BadToken at → new.bad ≡ Some at) → new.seen ≡ now.seen → HasStopped new (bytes ++ piece)
stops start now new lexer piece front rest bytes used (BadToken at) whole so_far refuses bad seen =
    let text : (bytes ++ front) ++ rest ≡ bytes ++ piece =
    append_assoc bytes front rest ∙ ap (λ (t : List ℕ). bytes ++ t) (sym whole) in
    let within : used ≤ length rest = omega (arith, refuses.within) in record {
      events = so_far.after;
      at = at;
      bad = bad at refl;
      reads = λ more. subst (λ (t : List ℕ). Reads (t ++ more) so_far.after (Some at)) text
          (fault_place (length (bytes ++ front) + used) ((bytes ++ front) ++ take used rest)
          (((bytes ++ front) ++ rest) ++ more) so_far.after at (used_length (bytes ++ front) rest used within) refuses.at
          (refuses.bad more));
      seen = subst (λ s. HasSeen s so_far.after) (sym seen) so_far.stands.seen;
    }

-- what is left of a piece, as code has it
pub next_front : (front rest : List ℕ) (used : ℕ)
    → front ++ rest ≡ (front ++ take used rest) ++ take (length rest - used) (drop used rest)
next_front front rest used =
    ap (λ (t : List ℕ). front ++ t) (sym (take-append-drop used rest))
    ∙ sym (append_assoc front (take used rest) (drop used rest))
    ∙ ap (λ (t : List ℕ). (front ++ take used rest) ++ t) (sym (take_rest rest used))

-- ---- the end

pub ends_between : (old new : Draft) (bytes : List ℕ) (events : List Event) → DraftStands old bytes events
    → FinishesBetween (length bytes) bytes events new.lexer → new.bad ≡ old.bad → new.seen ≡ old.seen → HasRead new bytes
ends_between old new bytes events stands ends bad seen = record {
  events = events;
  reads = subst (λ (b : Option ℕ). Reads bytes events b) (sym (bad ∙ stands.bad)) ends.spells;
  seen = subst (λ s. HasSeen s events) (sym seen) stands.seen;
}

pub ends_in_word : (old new : Draft) (lexer : Lexer) (bytes : List ℕ) (events : List Event) (event : Event)
    → DraftStands old bytes events → FinishesWord (length bytes) bytes events lexer event
    → new.bad ≡ old.bad → HasSeen new.seen (events ++ event ∷ []) → HasRead new bytes
ends_in_word old new lexer bytes events event stands ends bad seen = record {
  events = events ++ event ∷ [];
  reads = subst (λ (b : Option ℕ). Reads bytes (events ++ event ∷ []) b) (sym (bad ∙ stands.bad)) ends.spells;
  seen = seen;
}

pub ends_in_bad : (old new : Draft) (lexer : Lexer) (bytes : List ℕ) (events : List Event) (fault : LexFault)
    → DraftStands old bytes events → FinishRefuses (length bytes) bytes events lexer fault
    → ((at : ℕ) → fault ≡ BadToken at → new.bad ≡ Some at) → new.seen ≡ old.seen → HasRead new bytes
ends_in_bad old new lexer bytes events (BadToken at) stands refuses bad seen = record {
  events = events;
  reads = subst (λ (b : Option ℕ). Reads bytes events b) (sym (bad at refl))
      (fault_place (length bytes) bytes bytes events at refl refuses.at refuses.bad);
  seen = subst (λ s. HasSeen s events) (sym seen) stands.seen;
}

-- ---- as an engine

-- whether it wants more is told as of a piece
pub either_of : (flow : Flow) (start now : Draft) (bytes text : List ℕ) → text ≡ []
    → Either ((events : List Event) × DraftStands now bytes events) (HasStopped now bytes) flow
    → Either (Taking start now bytes (text ++ [])) (Stopped start now bytes (text ++ [])) flow
either_of More start now bytes text none stands = (append-nil text ∙ none, stands)
either_of Stop start now bytes text none stops = (append-nil text ∙ none, stops)
