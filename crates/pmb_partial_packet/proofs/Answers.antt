-- What is kept of the legs is what they say, where they are short: the bytes that were written, and
-- the reply. For `PartialPacket::sent` and `reply`. Of at most 258 bytes, a body's most, none is
-- left out; the last written leg is the first one found from the end.
use Rattle.std.proofs.Common.{◌≡◌, ℕ, ◌≤◌, ◌⊎◌, ◌%◌, ◌==◌, Bool, true, false, Option, Some, None, inl, inr, List, []}
use Rattle.std.proofs.Common.{◌∷◌, ◌++◌, length, reverse, option_map, refl, sym, ap, subst, ◌∙◌}
use Rattle.std.specs.List.{AllByRecursion, find}
use Rattle.std.proofs.lemmas.List.{reverse-append, take_all}
use Rattle.pmb_partial_packet.specs.declared.legs.LastLeg.TheVariants.{Absent, Begun, Written, Read}
use Rattle.pmb_partial_packet.specs.PartialPacket.{IsShort, behind_address, if_read, is_written}
use Rattle.pmb_partial_packet.specs.machine.KeptLegs.{KeepsLegs, LegsData, kept}

-- ---- the last leg first

short_append : (all more : List (List ℕ)) → AllByRecursion IsShort all → AllByRecursion IsShort more
    → AllByRecursion IsShort (all ++ more)
short_append [] more short behind = behind
short_append (leg ∷ all) more short behind = (short.0, short_append all more short.1 behind)

pub short_backwards : (all : List (List ℕ)) → AllByRecursion IsShort all → AllByRecursion IsShort (reverse all)
short_backwards [] short = tt
short_backwards (leg ∷ all) short =
    subst (λ (ls : List (List ℕ)). AllByRecursion IsShort ls) (sym (reverse-append (leg ∷ []) all))
    (short_append (reverse all) (leg ∷ []) (short_backwards all short.1) (short.0, tt))

-- ---- what was sent

-- a written leg is found, or none is there
record IsFound (all : List (List ℕ)) : Type 0 where
  address : ℕ
  bytes : List ℕ
  -- 258: the bytes of a body, at most
  few : length bytes ≤ 258
  found : find is_written all ≡ Some (address ∷ bytes)

found_behind : (leg : List ℕ) (all : List (List ℕ)) → is_written leg ≡ false
    → (find is_written all ≡ None) ⊎ IsFound all
    → (find is_written (leg ∷ all) ≡ None) ⊎ IsFound (leg ∷ all)
found_behind leg all other (inl none) = inl (rw other none)
found_behind leg all other (inr w) = inr
    (record { address = w.address; bytes = w.bytes; few = w.few; found = rw other (w.found) })

found_by : (even : Bool) (address : ℕ) (bytes : List ℕ) (all : List (List ℕ)) → is_written (address ∷ bytes) ≡ even
    → length bytes ≤ 258
    → (find is_written all ≡ None) ⊎ IsFound all → (find is_written ((address ∷ bytes) ∷ all) ≡ None)
    ⊎ IsFound ((address ∷ bytes) ∷ all)
found_by true address bytes all is few behind =
    inr (record { address = address; bytes = bytes; few = few; found = rw is refl })
found_by false address bytes all is few behind = found_behind (address ∷ bytes) all is behind

found_in : (all : List (List ℕ)) → AllByRecursion IsShort all → (find is_written all ≡ None) ⊎ IsFound all
found_in [] short = inl refl
found_in ([] ∷ all) short = found_behind [] all refl (found_in all short.1)
found_in ((address ∷ bytes) ∷ all) short =
    found_by (is_written (address ∷ bytes)) address bytes all refl short.0 (found_in all short.1)

abbrev Sent : List (List ℕ) → Option (List ℕ)
Sent all = option_map behind_address (find is_written all)

sent_by : (k : LegsData) (all : List (List ℕ)) (address : ℕ) → KeepsLegs k all → k.written_address ≡ Some address
    → (find is_written all ≡ None) ⊎ IsFound all → Some k.written ≡ Sent all
sent_by k all address keeps is (inl none) =
    let no_address : k.written_address ≡ None = keeps.written_address ∙ rw none refl in
    absurd (cc (no_address, is))
sent_by k all address keeps is (inr w) =
    let bytes : k.written ≡ kept w.bytes = keeps.written ∙ rw (w.found) refl in
    rw (w.found) (ap (λ (bs : List ℕ). Some bs) (bytes ∙ take_all 258 w.bytes w.few))

pub sent_is : (k : LegsData) (all : List (List ℕ)) (address : ℕ) → KeepsLegs k all → AllByRecursion IsShort all
    → k.written_address ≡ Some address
    → Some k.written ≡ Sent all
sent_is k all address keeps short is = sent_by k all address keeps is (found_in all short)

none_by : (k : LegsData) (all : List (List ℕ)) → KeepsLegs k all → k.written_address ≡ None
    → (find is_written all ≡ None) ⊎ IsFound all → None ≡ Sent all
none_by k all keeps is (inl none) = rw none refl
none_by k all keeps is (inr w) =
    let some : k.written_address ≡ Some w.address = keeps.written_address ∙ rw (w.found) refl in
    absurd (cc (some, is))

pub none_sent : (k : LegsData) (all : List (List ℕ)) → KeepsLegs k all → AllByRecursion IsShort all
    → k.written_address ≡ None → None ≡ Sent all
none_sent k all keeps short is = none_by k all keeps is (found_in all short)

-- ---- what was replied

reply_by : (even : Bool) (k : LegsData) (address : ℕ) (bytes : List ℕ) (before : List (List ℕ))
    → (address % 2 == 0) ≡ even
    → KeepsLegs k ((address ∷ bytes) ∷ before) → length bytes ≤ 258 → k.last ≡ Read
    → Some k.reply ≡ option_map behind_address (if_read (Some (address ∷ bytes)))
reply_by true k address bytes before is keeps few read =
    let written : k.last ≡ Written = keeps.last ∙ rw is refl in
    absurd (cc (written, read))
reply_by false k address bytes before is keeps few read =
    let had : k.reply ≡ kept bytes = keeps.reply ∙ rw is refl in
    rw is (ap (λ (bs : List ℕ). Some bs) (had ∙ take_all 258 bytes few))

pub reply_is : (k : LegsData) (all : List (List ℕ)) → KeepsLegs k all → AllByRecursion IsShort all → k.last ≡ Read
    → Some k.reply ≡ option_map behind_address (if_read (find (λ leg. true) all))
reply_is k [] keeps short read = let absent : k.last ≡ Absent = keeps.last in absurd (cc (absent, read))
reply_is k ([] ∷ before) keeps short read = let begun : k.last ≡ Begun = keeps.last in absurd (cc (begun, read))
reply_is k ((address ∷ bytes) ∷ before) keeps short read =
    reply_by (address % 2 == 0) k address bytes before refl keeps short.0 read
