-- The parts of a group, one leg after the other, and what ends it: STOP, or a leg in which
-- something is refused. For `take_group` and `keep_nacked`. Each leg is a part of a device of its
-- own, and after it comes START and another leg, or the end; a leg that is kept is the one that
-- stands there, since its bytes tell it.
use Rattle.std.proofs.Common.{◌≡◌, ℕ, ◌+◌, ◌-◌, ◌*◌, ◌<◌, ◌≤◌, ◌⊎◌, inl, inr, Bool, false, List, [], ◌∷◌, ◌++◌, length}
use Rattle.std.proofs.Common.{drop, nat_eq, refl, sym, ap, subst, ◌∙◌, arith, append_assoc, length-append}
use Rattle.std.specs.List.{AllByRecursion, IsDistinct, list_any}
use Rattle.std.proofs.lemmas.Bool.{eqb-false, ne_eqb, or_from}
use Rattle.std.proofs.lemmas.Cmp.{nat_eq_equiv}
use Rattle.std.proofs.lemmas.List.{append-nil, length-map, map-append}
use Rattle.std.proofs.lemmas.Map.Keys.{IsDistinct-push}
use Rattle.std.proofs.Math.Seq.{drop-append_seam}
use Rattle.pmb_bus.specs.declared.event.Event.{Event}
use Rattle.pmb_bus.specs.declared.event.Event.TheVariants.{Stop}
use Rattle.pmb_bus.specs.Address.{write_address}
use Rattle.pmb_bus.specs.Event.{AreBytes, canonical_text}
use Rattle.pmb_command.specs.Parts.{DeviceParts, IsNew}
use Rattle.pmb_command.specs.Wire.{AreByteValues}
use Rattle.pmb_transaction.specs.Transaction.{PartData, Write}
use Rattle.pmb_transaction.specs.Packet.{PartEvents, PartsEvents, acked, addresses, leg, nacked}
use Rattle.pmb_canonical.specs.Canonical.{OneWritten, TakesPacket}
use Rattle.pmb_canonical.specs.Front.{NoneAcked, TakenFront, acked_text, end_text}
use Rattle.pmb_canonical.specs.Groups.{AddsPart, EndsGroup, MoreParts, RefusedAfter, SayGroup, TakenParts}
use Rattle.pmb_canonical.specs.Nacked.{SaysNacked}
use Rattle.pmb_canonical.proofs.Beginnings.{IsNacked, TakesAll, is_nacked, start, start_or_stop, stop}
use Rattle.pmb_canonical.proofs.LegBytes.{behind_acked, bytes_of_acked, few_in_leg, length-acked}
use Rattle.pmb_canonical.proofs.RefusedLegs.{NoneNacked, says_after}
use Rattle.pmb_canonical.proofs.Texts.{length-acked_text, nack_or_start, nack_or_stop, none_at_nack, none_at_start}
use Rattle.pmb_canonical.proofs.Texts.{none_at_stop, text-append}

-- ---- addresses

-- of distinct numbers none is one before it
other_than : (x a : ℕ) (front rest : List ℕ) → AllByRecursion (λ y. nat_eq x y ≡ false) (front ++ a ∷ rest)
    → nat_eq x a ≡ false
other_than x a [] rest all = all.0
other_than x a (y ∷ front) rest all = other_than x a front rest all.1

new_behind : (front : List ℕ) (a : ℕ) (rest : List ℕ) → IsDistinct nat_eq (front ++ a ∷ rest) → IsNew a front
unfolding IsDistinct
new_behind [] a rest own = refl
new_behind (x ∷ front) a rest own =
    let other : nat_eq x a ≡ false = other_than x a front rest own.0 in
    or_from (nat_eq a x) (list_any (nat_eq a) front) (ne_eqb a x (λ same. eqb-false x a other (sym same)))
    (new_behind front a rest own.1)

addresses-push : (parts : List PartData) (part : PartData) → addresses (parts ++ part ∷ []) ≡ addresses parts
    ++ part.addr ∷ []
addresses-push parts part = map-append (λ (p : PartData). p.addr) parts (part ∷ [])

distinct_with : (parts : List PartData) (part : PartData) → IsDistinct nat_eq (addresses parts)
    → IsNew part.addr (addresses parts)
    → IsDistinct nat_eq (addresses (parts ++ part ∷ []))
distinct_with parts part own new =
    subst (IsDistinct nat_eq) (sym (addresses-push parts part))
    (IsDistinct-push nat_eq_equiv (addresses parts) part.addr own new)

-- ---- the text of a leg

pub leg_text : (bytes : List ℕ) (behind : List ℕ) → canonical_text (leg bytes) ++ behind ≡ start
    ++ (acked_text bytes ++ behind)
leg_text bytes behind = append_assoc start (acked_text bytes) behind

length-leg_text : (bytes : List ℕ) → length (canonical_text (leg bytes)) ≡ 2 + 5 * length bytes
length-leg_text bytes = omega (arith, length-append start (acked_text bytes), length-acked_text bytes)

-- what stands after a leg
pub behind_leg : (text : List ℕ) (bytes : List ℕ) (rest : List ℕ) (n : ℕ) → text ≡ canonical_text (leg bytes) ++ rest
    → n ≡ 2 + 5 * length bytes → drop n text ≡ rest
behind_leg text bytes rest n split long =
    ap (drop n) split
    ∙ ap (λ (k : ℕ). drop k (canonical_text (leg bytes) ++ rest)) (long ∙ sym (length-leg_text bytes))
    ∙ drop-append_seam (canonical_text (leg bytes)) rest

pub leg_within : (text : List ℕ) (bytes : List ℕ) (rest : List ℕ) → text ≡ canonical_text (leg bytes) ++ rest
    → 2 + 5 * length bytes ≤ length text
leg_within text bytes rest split =
    omega (arith, ap length split, length-append (canonical_text (leg bytes)) rest, length-leg_text bytes)

-- ---- parts that were taken

parts_more : (profile : List DeviceParts) (parts : List PartData) (legs : List Event) (part : PartData)
    (own : List Event) → PartsEvents profile parts legs
    → PartEvents profile part own → PartsEvents profile (parts ++ part ∷ []) (legs ++ own)
parts_more profile [] legs part own each one =
    (own, [], ap (λ (l : List Event). l ++ own) each ∙ sym (append-nil own), one, refl)
parts_more profile (p ∷ parts) legs part own each one = (
  each.0,
  each.1 ++ own,
  ap (λ (l : List Event). l ++ own) each.2 ∙ append_assoc each.0 each.1 own,
  each.3,
  parts_more profile parts each.1 part own each.4 one,
)

pub none_taken : (profile : List DeviceParts) (text : List ℕ) → TakenParts profile text [] 1 text
unfolding IsDistinct
none_taken profile text = record {
  legs = [];
  each = refl;
  distinct = tt;
  few = omega arith;
  split = refl;
  counted =
      refl;
}

-- one more
pub part_taken : (profile : List DeviceParts) (text : List ℕ) (old new : List PartData)
    (bytes rest first behind : List ℕ) (count more : ℕ)
    → TakenParts profile text old count rest → AddsPart profile old new bytes → rest ≡ start ++ first
    → first ≡ acked_text bytes ++ behind
    → more ≡ count + (1 + 2 * length bytes) → TakenParts profile text new more behind
part_taken profile text old new bytes rest first behind count more taken adds begins split many =
    -- the leg is one more part
    let one : PartEvents profile adds.part (leg bytes) =
    record {
      device = adds.says.device;
      body = adds.says.body;
      known = adds.says.known;
      allowed =
          adds.says.allowed;
      spelled = ap leg adds.says.spelled;
    } in
    record {
      -- its events come after those of the parts before it
      legs = taken.legs ++ leg bytes;
      each = subst (λ (ps : List PartData). PartsEvents profile ps (taken.legs ++ leg bytes)) (sym adds.added)
          (parts_more profile old taken.legs adds.part (leg bytes) taken.each one);
      distinct = subst (λ (ps : List PartData). IsDistinct nat_eq (addresses ps)) (sym adds.added)
          (distinct_with old adds.part taken.distinct adds.other);
      few = omega (arith, ap length adds.added, length-append old (adds.part ∷ []), adds.room);
      -- so does its text
      split =
          taken.split
          ∙ ap (λ (l : List ℕ). canonical_text taken.legs ++ l)
          (begins ∙ ap (λ (l : List ℕ). start ++ l) split ∙ sym (leg_text bytes behind))
          ∙ sym (append_assoc (canonical_text taken.legs) (canonical_text (leg bytes)) behind)
          ∙ ap (λ (l : List ℕ). l ++ behind) (sym (text-append taken.legs (leg bytes)));
      counted = omega (arith, many, taken.counted, length-append taken.legs (leg bytes), length-acked bytes);
    }

-- the first
pub first_taken : (profile : List DeviceParts) (text : List ℕ) (old new : List PartData) (bytes rest : List ℕ) (n : ℕ)
    → old ≡ [] → AddsPart profile old new bytes
    → text ≡ canonical_text (leg bytes) ++ rest → n ≡ 2 + 5 * length bytes
    → TakenParts profile text new (2 + 2 * length bytes) (drop n text)
first_taken profile text old new bytes rest n none adds split long =
    let same : drop n text ≡ rest = behind_leg text bytes rest n split long in
    let begins : text ≡ start ++ (acked_text bytes ++ drop n text) =
    split ∙ leg_text bytes rest ∙ ap (λ (l : List ℕ). start ++ (acked_text bytes ++ l)) (sym same) in
    part_taken profile text old new bytes text (acked_text bytes ++ drop n text) (drop n text) 1 (2 + 2 * length bytes)
    (subst (λ (ps : List PartData). TakenParts profile text ps 1 text) (sym none) (none_taken profile text)) adds begins
    refl (omega arith)

-- all of them, up to STOP
pub takes_parts : (profile : List DeviceParts) (text : List ℕ) (parts : List PartData) (rest behind : List ℕ)
    (used count : ℕ) → TakenParts profile text parts count rest
    → 1 ≤ length parts → rest ≡ stop ++ behind → used ≡ length text - length behind
    → TakesPacket profile text used count (Write parts)
takes_parts profile text parts rest behind used count taken some ends long =
    -- STOP ends the text of the legs
    let split : text ≡ canonical_text (taken.legs ++ Stop ∷ []) ++ behind =
    taken.split
    ∙ ap (λ (l : List ℕ). canonical_text taken.legs ++ l) ends
    ∙ sym (append_assoc (canonical_text taken.legs) stop behind)
    ∙ ap (λ (l : List ℕ). l ++ behind) (sym (text-append taken.legs (Stop ∷ []))) in
    record {
      events = taken.legs ++ Stop ∷ [];
      packet = record {
        some = some;
        few = taken.few;
        distinct = taken.distinct;
        legs = taken.legs;
        each =
            taken.each;
        spelled = refl;
      };
      rest = behind;
      split = split;
      bytes = omega (arith, long, ap length split, length-append (canonical_text (taken.legs ++ Stop ∷ [])) behind);
      all = omega (arith, taken.counted, length-append taken.legs (Stop ∷ []));
    }

-- ---- parts that follow

-- The next one, after START.
-- The text after START is a part's leg: its bytes, and what follows them (`behind`), where no byte
-- with ACK or NACK stands. Its address is none of those taken.
pub record NextPart (profile : List DeviceParts) (taken : List ℕ) (text : List ℕ) : Type 0 where
  pub part : PartData
  pub bytes : List ℕ
  pub behind : List ℕ
  -- the bytes say the part
  pub says : OneWritten profile part.addr part.code part.bytes part.pec bytes
  pub small : AreByteValues bytes
  pub few : length bytes ≤ 516
  -- the text is these bytes with their ACKs, and after them neither a byte with ACK nor one with
  -- NACK
  pub split : text ≡ acked_text bytes ++ behind
  pub ended : NoneAcked behind
  pub no_nack : NoneNacked behind
  -- another address, room for a part, and the parts that follow it
  pub other : IsNew part.addr taken
  pub room : length taken < 16
  pub more : MoreParts profile (taken ++ part.addr ∷ []) behind

-- or, after START, a leg in which something is refused
pub record NextRefused (profile : List DeviceParts) (taken : List ℕ) (text : List ℕ) : Type 0 where
  -- the parts before it, by their addresses
  pub parts : List PartData
  pub same : addresses parts ≡ taken
  pub bytes : List ℕ
  pub few : length bytes ≤ 516
  pub says : SaysNacked profile parts bytes
  pub one : IsNacked bytes
  pub rest : List ℕ
  pub split : text ≡ acked_text one.front ++ (end_text one.last ++ rest)

abbrev pub NextLeg : List DeviceParts → List ℕ → List ℕ → Type 0
NextLeg profile taken text = NextPart profile taken text ⊎ NextRefused profile taken text

-- what stands after a part is the START of another leg, or STOP
abbrev pub StartOrStop : List ℕ → List ℕ → Type 0
StartOrStop rest text = ((more : List ℕ) × (text ≡ start ++ more)) ⊎ (text ≡ stop ++ rest)

begins_leg : (profile : List DeviceParts) (before : List ℕ) (parts : List PartData) (legs last : List Event)
    (rest text : List ℕ) → PartsEvents profile parts legs
    → EndsGroup profile before last → text ≡ canonical_text (legs ++ last) ++ rest → StartOrStop rest text
begins_leg profile before [] legs last rest text each (inl alone) split =
    inr (split ∙ ap (λ (l : List Event). canonical_text (l ++ last) ++ rest) each
    ∙ ap (λ (l : List Event). canonical_text l ++ rest) alone)
begins_leg profile before [] legs last rest text each (inr refused) split =
    let others = nacked refused.bytes ++ Stop ∷ [] in
    inl (
      canonical_text others ++ rest,
      split
          ∙ ap (λ (l : List Event). canonical_text (l ++ last) ++ rest) each
          ∙ ap (λ (l : List Event). canonical_text l ++ rest) refused.spelled
          ∙ append_assoc start (canonical_text others) rest,
    )
begins_leg profile before (part ∷ parts) legs last rest text each ends split =
    let events = acked (write_address part.addr ∷ each.3.body) ++ each.1 in
    let first : legs ≡ leg (write_address part.addr ∷ each.3.body) ++ each.1 = each.2
    ∙ ap (λ (l : List Event). l ++ each.1) each.3.spelled in
    inl (
      canonical_text (events ++ last) ++ rest,
      split ∙ ap (λ (l : List Event). canonical_text (l ++ last) ++ rest) first
          ∙ append_assoc start (canonical_text (events ++ last)) rest,
    )

none_acked : (rest text : List ℕ) → StartOrStop rest text → NoneAcked text
none_acked rest text (inl (more, is)) = subst NoneAcked (sym is) (none_at_start more)
none_acked rest text (inr is) = subst NoneAcked (sym is) (none_at_stop rest)

none_nacked : (rest text : List ℕ) → StartOrStop rest text → NoneNacked text
none_nacked rest text (inl (more, is)) last behind small same = nack_or_start last behind more text small same is
none_nacked rest text (inr is) last behind small same = nack_or_stop last behind rest text small same is

refused_next : (profile : List DeviceParts) (taken text : List ℕ) (last : List Event) (rest : List ℕ)
    → RefusedAfter profile (taken ++ []) last
    → start ++ text ≡ canonical_text last ++ rest → NextRefused profile taken text
refused_next profile taken text last rest refused split =
    let one = is_nacked refused.bytes (record {
      small = refused.small;
      enough = refused.some;
      few = refused.few;
      reads =
          tt;
    }) in
    let joined : start ++ text ≡ start ++ (acked_text one.front ++ (end_text one.last ++ rest)) =
    split ∙ ap (λ (l : List Event). canonical_text l ++ rest) refused.spelled ∙ one.text rest in
    record {
      parts = refused.parts;
      same = refused.same ∙ append-nil taken;
      bytes = refused.bytes;
      few = refused.few;
      says = refused.says;
      one = one;
      rest = rest;
      split = cc joined;
    }

next_by : (profile : List DeviceParts) (taken text : List ℕ) (parts : List PartData) (legs last : List Event)
    (rest : List ℕ) → PartsEvents profile parts legs
    → IsDistinct nat_eq (taken ++ addresses parts) → length taken + length parts ≤ 16 → AreBytes legs
    → EndsGroup profile (taken ++ addresses parts) last
    → start ++ text ≡ canonical_text (legs ++ last) ++ rest → NextLeg profile taken text
-- no part is left and STOP follows, but the text has START
next_by profile taken text [] legs last rest each distinct few small (inl alone) split =
    absurd (start_or_stop text rest (start ++ text) refl
    (split ∙ ap (λ (l : List Event). canonical_text (l ++ last) ++ rest) each
    ∙ ap (λ (l : List Event). canonical_text l ++ rest) alone))
-- no part is left: the leg in which something is refused
next_by profile taken text [] legs last rest each distinct few small (inr refused) split =
    inr (refused_next profile taken text last rest refused
    (split ∙ ap (λ (l : List Event). canonical_text (l ++ last) ++ rest) each))
-- another part: its leg's bytes, and the text after them
next_by profile taken text (part ∷ parts) legs last rest each distinct few small ends split =
    let one = each.3 in
    let bytes = write_address part.addr ∷ one.body in
    let first : legs ≡ leg bytes ++ each.1 = each.2 ∙ ap (λ (l : List Event). l ++ each.1) one.spelled in
    let own : AreBytes (acked bytes ++ each.1) = subst AreBytes first small in
    let behind = canonical_text (each.1 ++ last) ++ rest in
    -- the text is START, these bytes with their ACKs, and what is after them
    let whole : canonical_text (legs ++ last) ++ rest ≡ start ++ (acked_text bytes ++ behind) =
    ap (λ (l : List Event). canonical_text (l ++ last) ++ rest) first
    ∙ ap (λ (l : List Event). canonical_text l ++ rest) (append_assoc (leg bytes) each.1 last)
    ∙ ap (λ (l : List ℕ). l ++ rest) (text-append (leg bytes) (each.1 ++ last))
    ∙ append_assoc (canonical_text (leg bytes)) (canonical_text (each.1 ++ last)) rest
    ∙ leg_text bytes behind in
    let joined : start ++ text ≡ start ++ (acked_text bytes ++ behind) = split ∙ whole in
    -- which is another leg or STOP, so these bytes are all of the leg
    let stands : StartOrStop rest behind = begins_leg profile (taken ++ addresses (part ∷ parts)) parts each.1 last rest
    behind each.4 ends refl in
    inl (record {
      part = part;
      bytes = bytes;
      behind = behind;
      says = record { device = one.device; body = one.body; known = one.known; allowed = one.allowed; spelled = refl };
      small = bytes_of_acked bytes each.1 own;
      few = few_in_leg profile part one;
      split = cc joined;
      ended = none_acked rest behind stands;
      no_nack = none_nacked rest behind stands;
      other = new_behind taken part.addr (addresses parts) distinct;
      room = omega (arith, few);
      -- after it come the other parts, and what ends the group
      more = record {
        parts = parts;
        legs = each.1;
        each = each.4;
        distinct = subst (IsDistinct nat_eq) (sym (append_assoc taken (part.addr ∷ []) (addresses parts))) distinct;
        few = omega (arith, few, length-append taken (part.addr ∷ []));
        small = behind_acked bytes each.1 own;
        last = last;
        ends = subst (λ (l : List ℕ). EndsGroup profile l last)
            (sym (append_assoc taken (part.addr ∷ []) (addresses parts))) ends;
        rest = rest;
        split = refl;
      };
    })

pub next_leg : (profile : List DeviceParts) (taken text behind : List ℕ) → MoreParts profile taken text
    → text ≡ start ++ behind → NextLeg profile taken behind
next_leg profile taken text behind more begins =
    next_by profile taken behind more.parts more.legs more.last more.rest more.each more.distinct more.few more.small
    more.ends (sym begins ∙ more.split)

-- where no START is in front, STOP is
stops : (rest text : List ℕ) → StartOrStop rest text → ((behind : List ℕ) → text ≡ start ++ behind → ⊥)
    → text ≡ stop ++ rest
stops rest text (inl (more, is)) none = absurd (none more is)
stops rest text (inr is) none = is

pub ends_parts : (profile : List DeviceParts) (taken text : List ℕ) → (more : MoreParts profile taken text)
    → ((behind : List ℕ) → text ≡ start ++ behind → ⊥)
    → text ≡ stop ++ more.rest
ends_parts profile taken text more none =
    stops more.rest text (begins_leg profile (taken ++ addresses more.parts) more.parts more.legs more.last more.rest
    text more.each more.ends more.split) none

-- ---- the part that was kept is the one that stands there

same_address : (profile : List DeviceParts) (a b c d : ℕ) (data_bytes others : List ℕ) (pec other : Bool)
    (bytes : List ℕ) → OneWritten profile a c data_bytes pec bytes
    → OneWritten profile b d others other bytes → a ≡ b
same_address profile a b c d data_bytes others pec other bytes one two =
    let joined : write_address a ∷ one.body ≡ write_address b ∷ two.body = sym one.spelled ∙ two.spelled in
    let first : write_address a ≡ write_address b = cc joined in
    omega (arith, first)

pub more_behind : (profile : List DeviceParts) (old new : List PartData) (part : PartData) (bytes text : List ℕ)
    → AddsPart profile old new bytes
    → OneWritten profile part.addr part.code part.bytes part.pec bytes
    → MoreParts profile (addresses old ++ part.addr ∷ []) text → MoreParts profile (addresses new) text
more_behind profile old new part bytes text adds says more =
    let same : adds.part.addr ≡ part.addr =
    same_address profile adds.part.addr part.addr adds.part.code part.code adds.part.bytes part.bytes adds.part.pec
    part.pec bytes adds.says says in
    subst (λ (l : List ℕ). MoreParts profile l text)
    (ap (λ (a : ℕ). addresses old ++ a ∷ []) (sym same) ∙ sym (addresses-push old adds.part)
    ∙ ap addresses (sym adds.added)) more

-- after the first part
pub first_more : (profile : List DeviceParts) (text : List ℕ) (old new : List PartData) (bytes : List ℕ) (n : ℕ)
    → old ≡ [] → AddsPart profile old new bytes
    → SayGroup profile text bytes → n ≡ 2 + 5 * length bytes → MoreParts profile (addresses new) (drop n text)
first_more profile text old new bytes n none adds say long =
    subst (MoreParts profile (addresses new)) (sym (behind_leg text bytes say.behind n say.split long))
    (more_behind profile old new say.first bytes say.behind adds say.says
    (subst (λ (ps : List PartData). MoreParts profile (addresses ps ++ say.first.addr ∷ []) say.behind)
    (sym none) say.more))

-- ---- the bytes of a leg that was taken

-- those that were put after none
pub taken_leg : (leg_bytes behind old new bytes : List ℕ) → old ≡ [] → TakenFront leg_bytes old new behind → bytes ≡ new
    → leg_bytes ≡ acked_text bytes ++ behind
taken_leg leg_bytes behind old new bytes none taken same =
    let all : taken.more ≡ bytes = sym (same ∙ taken.added ∙ ap (λ (l : List ℕ). l ++ taken.more) none) in
    taken.split ∙ ap (λ (l : List ℕ). acked_text l ++ behind) all

module _ (profile : List DeviceParts) (taken text behind old new : List ℕ) (none : old ≡ [])
    (takes : TakesAll text old new behind) where
  -- those of a leg in which something is refused, but for the last
  taken_refused : (next : NextRefused profile taken text)
      → (new ≡ next.one.front) × (behind ≡ end_text next.one.last ++ next.rest)
  taken_refused next =
      let one = next.one in
      let few : length (old ++ one.front) ≤ 516 =
      omega (
        arith,
        length-append old one.front,
        ap length none,
        ap length one.whole,
        length-append one.front (one.last ∷ []),
        next.few,
      ) in
      let took = takes one.front (end_text one.last ++ next.rest) one.small_front (none_at_nack one.last next.rest) few
      next.split in
      (took.0 ∙ ap (λ (l : List ℕ). l ++ one.front) none, took.1)

  -- those of the next part, where it stands there
  pub taken_part : (bytes : List ℕ) → bytes ≡ new → (next : NextPart profile taken text)
      → (bytes ≡ next.bytes) × (behind ≡ next.behind)
  taken_part bytes same next =
      let few : length (old ++ next.bytes) ≤ 516 = subst (λ (l : List ℕ). length (l ++ next.bytes) ≤ 516)
      (sym none) next.few in
      let took = takes next.bytes next.behind next.small next.ended few next.split in
      (same ∙ took.0 ∙ ap (λ (l : List ℕ). l ++ next.bytes) none, took.1)

  -- it is a part, where no byte with NACK follows
  pub next_part : NoneNacked behind → NextLeg profile taken text → NextPart profile taken text
  next_part no_nack (inl next) = next
  next_part no_nack (inr next) = absurd (no_nack next.one.last next.rest next.one.small_last (taken_refused next).1)

  -- and else what is refused
  pub next_refused : (last : ℕ) (rest : List ℕ) (parts : List PartData) → last < 256 → behind ≡ end_text last ++ rest
      → ((byte : ℕ) (more : List ℕ) → byte < 256 → behind ≡ end_text byte ++ more → last ≡ byte)
      → addresses parts ≡ taken → NextLeg profile taken text
      → (length new ≤ 515) × SaysNacked profile parts (new ++ last ∷ [])
  next_refused last rest parts small ends only own (inl next) =
      let same = taken_part new refl next in
      absurd (next.no_nack last rest small (sym same.1 ∙ ends))
  next_refused last rest parts small ends only own (inr next) =
      let took = taken_refused next in
      let one = next.one in
      let same : last ≡ one.last = only one.last next.rest one.small_last took.1 in
      let all : next.bytes ≡ new ++ last ∷ [] =
      one.whole ∙ ap (λ (l : List ℕ). l ++ one.last ∷ []) (sym took.0) ∙ ap (λ (b : ℕ). new ++ b ∷ []) (sym same) in (
        omega (arith, ap length all, length-append new (last ∷ []), next.few),
        subst (SaysNacked profile parts) all (says_after profile next.parts parts next.bytes
            (next.same ∙ sym own) next.says),
      )

pub room_for_next : (parts : List PartData) → length (addresses parts) < 16 → length parts < 16
room_for_next parts room = omega (arith, room, length-map parts (λ (p : PartData). p.addr))

-- and what follows it
pub more_next : (profile : List DeviceParts) (old new : List PartData) (bytes text behind : List ℕ)
    (next : NextPart profile (addresses old) text) → AddsPart profile old new bytes
    → bytes ≡ next.bytes → behind ≡ next.behind → MoreParts profile (addresses new) behind
more_next profile old new bytes text behind next adds same same_behind =
    subst (MoreParts profile (addresses new)) (sym same_behind)
    (more_behind profile old new next.part bytes next.behind adds
    (subst (OneWritten profile next.part.addr next.part.code next.part.bytes next.part.pec) (sym same) next.says)
    next.more)
