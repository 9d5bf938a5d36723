-- The legs at the front of a text, by what was taken of it: one written leg, the first of a group,
-- a leg whose last byte has NACK, or two. For `front_legs` of `src/legs.rt`. The text is START, the
-- bytes that were taken with their ACKs, and what comes after them.
use Rattle.std.proofs.Common.{◌≡◌, ℕ, ◌+◌, ◌≤◌, Option, Some, None, List, [], ◌∷◌, ◌++◌, length, sym, ap, subst, ◌∙◌}
use Rattle.std.proofs.Common.{arith, append_assoc, length-append}
use Rattle.std.specs.Prelude.{IfSome}
use Rattle.pmb_bus.specs.declared.event.Event.TheVariants.{Start, Stop}
use Rattle.pmb_bus.specs.Event.{canonical_text}
use Rattle.pmb_canonical.specs.declared.legs.PacketShape.{PacketShape}
use Rattle.pmb_canonical.specs.declared.legs.PacketShape.TheVariants.{Written, Group, Nacked}
use Rattle.pmb_canonical.specs.Canonical.{read_events}
use Rattle.pmb_canonical.specs.Front.{TakenFront, acked_text, end_text}
use Rattle.pmb_canonical.specs.Legs.{BeginsWithLegs, TakenNacked, TakenSecond, least, leg_events}
use Rattle.pmb_canonical.proofs.Ends.{nacked_text, read_text, written_text}

abbrev pub start : List ℕ
start = canonical_text (Start ∷ [])

-- one written leg
pub written_there : (text first behind rest old new : List ℕ) → old ≡ [] → text ≡ start ++ first
    → TakenFront first old new behind
    → behind ≡ canonical_text (Stop ∷ []) ++ rest → BeginsWithLegs Written new text
written_there text first behind rest old new none begins taken ends =
    let same : taken.more ≡ new = sym (taken.added ∙ ap (λ (l : List ℕ). l ++ taken.more) none) in
    let split : text ≡ start ++ (acked_text new ++ (canonical_text (Stop ∷ []) ++ rest)) =
    begins
    ∙ ap (λ (l : List ℕ). start ++ l) taken.split
    ∙ ap (λ (l : List ℕ). start ++ (acked_text l ++ behind)) same
    ∙ ap (λ (l : List ℕ). start ++ (acked_text new ++ l)) ends in
    let joined : canonical_text (leg_events Written new) ++ rest ≡ start
    ++ (acked_text new ++ (canonical_text (Stop ∷ []) ++ rest)) =
    ap (λ (l : List ℕ). l ++ rest) (written_text new)
    ∙ ap (λ (l : List ℕ). start ++ l) (append_assoc (acked_text new) (canonical_text (Stop ∷ [])) rest) in
    (rest, split ∙ sym joined)

-- the first leg of a group
pub group_there : (text first behind old new : List ℕ) → old ≡ [] → text ≡ start ++ first
    → TakenFront first old new behind → BeginsWithLegs Group new text
group_there text first behind old new none begins taken =
    let same : taken.more ≡ new = sym (taken.added ∙ ap (λ (l : List ℕ). l ++ taken.more) none) in (
      behind,
      begins
          ∙ ap (λ (l : List ℕ). start ++ l) taken.split
          ∙ ap (λ (l : List ℕ). start ++ (acked_text l ++ behind)) same
          ∙ sym (append_assoc start (acked_text new) behind),
    )

-- a leg whose last byte has NACK
pub nacked_there : (text first behind old front new : List ℕ) (legs : PacketShape) → old ≡ [] → text ≡ start ++ first
    → TakenFront first old front behind → TakenNacked legs behind front new → BeginsWithLegs legs new text
nacked_there text first behind old front new legs none begins taken other =
    let same : taken.more ≡ front = sym (taken.added ∙ ap (λ (l : List ℕ). l ++ taken.more) none) in
    let split : text ≡ start ++ (acked_text front ++ (end_text other.last ++ other.rest)) =
    begins
    ∙ ap (λ (l : List ℕ). start ++ l) taken.split
    ∙ ap (λ (l : List ℕ). start ++ (acked_text l ++ behind)) same
    ∙ ap (λ (l : List ℕ). start ++ (acked_text front ++ l)) other.split in
    let joined : canonical_text (leg_events legs new) ++ other.rest ≡ start
    ++ (acked_text front ++ (end_text other.last ++ other.rest)) =
    ap (λ (l : PacketShape). canonical_text (leg_events l new) ++ other.rest) other.nacked
    ∙ ap (λ (l : List ℕ). canonical_text (leg_events Nacked l) ++ other.rest) other.added
    ∙ ap (λ (l : List ℕ). l ++ other.rest) (nacked_text front other.last)
    ∙ ap (λ (l : List ℕ). start ++ l) (append_assoc (acked_text front) (end_text other.last) other.rest) in
    (other.rest, split ∙ sym joined)

-- where it is found
pub nacked_found : (text first behind old front new : List ℕ) (result : Option PacketShape) → old ≡ []
    → text ≡ start ++ first
    → TakenFront first old front behind → IfSome result (λ legs. TakenNacked legs behind front new)
    → IfSome result (λ legs. BeginsWithLegs legs new text)
nacked_found text first behind old front new None none begins taken other = tt
nacked_found text first behind old front new (Some legs) none begins taken other =
    nacked_there text first behind old front new legs none begins taken other

-- the text of both, by what was taken of each
both_text : (front back : List ℕ) (last : ℕ)
    → canonical_text (read_events (length front) ((front ++ back) ++ last ∷ [])) ≡ start
    ++ (acked_text front ++ (start ++ (acked_text back ++ end_text last)))
both_text front back last =
    ap (λ (l : List ℕ). canonical_text (read_events (length front) l)) (append_assoc front back (last ∷ []))
    ∙ read_text front back last

regroup : (a b c d rest : List ℕ) → (a ++ (b ++ (c ++ d))) ++ rest ≡ a ++ (b ++ (c ++ (d ++ rest)))
regroup a b c d rest = simp append_assoc

-- both legs
pub both_there : (text first behind second old front new : List ℕ) (legs : PacketShape) → old ≡ []
    → text ≡ start ++ first
    → TakenFront first old front behind → behind ≡ start ++ second → TakenSecond legs second front new
    → BeginsWithLegs legs new text
both_there text first behind second old front new legs none begins one again other =
    let same : one.more ≡ front = sym (one.added ∙ ap (λ (l : List ℕ). l ++ one.more) none) in
    let split : text ≡ start ++ (acked_text front
    ++ (start ++ (acked_text other.back ++ (end_text other.last ++ other.rest)))) =
    begins
    ∙ ap (λ (l : List ℕ). start ++ l) one.split
    ∙ ap (λ (l : List ℕ). start ++ (acked_text l ++ behind)) same
    ∙ ap (λ (l : List ℕ). start ++ (acked_text front ++ l)) again
    ∙ ap (λ (l : List ℕ). start ++ (acked_text front ++ (start ++ l))) other.split in
    let joined : canonical_text (leg_events legs new) ++ other.rest
    ≡ start ++ (acked_text front ++ (start ++ (acked_text other.back ++ (end_text other.last ++ other.rest)))) =
    ap (λ (l : PacketShape). canonical_text (leg_events l new) ++ other.rest) other.both
    ∙ ap (λ (l : List ℕ). canonical_text (read_events (length front) l) ++ other.rest) other.added
    ∙ ap (λ (l : List ℕ). l ++ other.rest) (both_text front other.back other.last)
    ∙ ap (λ (l : List ℕ). start ++ l) (regroup (acked_text front) start (acked_text other.back)
    (end_text other.last) other.rest) in
    (other.rest, split ∙ sym joined)

-- where they are found
pub both_found : (text first behind second old front new : List ℕ) (result : Option PacketShape) → old ≡ []
    → text ≡ start ++ first
    → TakenFront first old front behind → behind ≡ start ++ second
    → IfSome result (λ legs. TakenSecond legs second front new)
    → IfSome result (λ legs. BeginsWithLegs legs new text)
both_found text first behind second old front new None none begins one again other = tt
both_found text first behind second old front new (Some legs) none begins one again other =
    both_there text first behind second old front new legs none begins one again other

-- ---- they have as many bytes as such legs have at least

pub enough_both : (second front new : List ℕ) (result : Option PacketShape)
    → IfSome result (λ legs. TakenSecond legs second front new)
    → IfSome result (λ legs. least legs ≤ length new)
enough_both second front new None other = tt
enough_both second front new (Some legs) other =
    let long : length front + 1 ≤ length new =
    omega (
      arith,
      ap length other.added,
      length-append (front ++ other.back) (other.last ∷ []),
      length-append front other.back,
    ) in
    subst (λ (l : PacketShape). least l ≤ length new) (sym other.both) long

pub enough_nacked : (behind front new : List ℕ) (result : Option PacketShape)
    → IfSome result (λ legs. TakenNacked legs behind front new)
    → IfSome result (λ legs. least legs ≤ length new)
enough_nacked behind front new None other = tt
enough_nacked behind front new (Some legs) other =
    let long : 1 ≤ length new = omega (arith, ap length other.added, length-append front (other.last ∷ [])) in
    subst (λ (l : PacketShape). least l ≤ length new) (sym other.nacked) long
