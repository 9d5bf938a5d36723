-- STOP leads a device to one state at most. For the law `one_end`. A packet has one own leg
-- (`ends_at`, in OwnLegs of `pmb_devices`). If all its bytes were taken, they are a write of one code
-- and data; else the byte that was refused is at one place (`one_refused`).
use Rattle.std.proofs.Common.{◌≡◌, ℕ, Bool, true, false, List, [], ◌∷◌, ◌++◌, refl, sym, ap, subst, ◌∙◌, append_assoc}
use Rattle.std.proofs.lemmas.List.{append-nil}
use Rattle.pmb_command.specs.Parts.{DeviceParts}
use Rattle.pmb_bus.specs.Address.{read_address}
use Rattle.pmb_transaction.specs.Reason.{Whether}
use Rattle.pmb_registers.specs.State.{DeviceState}
use Rattle.pmb_registers.specs.Apply.{after_write, bit_of_sent, with_noted}
use Rattle.pmb_leg.specs.declared.place.LegPlace.{LegPlace}
use Rattle.pmb_device.specs.Legs.{Leg, Legs, Outside, Inside, leg_place, some_is_to}
use Rattle.pmb_device.specs.Rules.{GoesOn, TakesAll, TakesByte}
use Rattle.pmb_device.specs.Ends.{Acts, Ends, LegsEnd, NotesAnswer, OwnLegEnds, ReadOrActs, Refuses, asked, no_leg}
use Rattle.pmb_device.specs.Ends.{no_write, not_asked, own_leg, writes}
use Rattle.pmb_devices.proofs.Devices.{one_write}
use Rattle.pmb_devices.proofs.OwnLegs.{ends_at, ends_without}
use Rattle.pmb_device_laws.proofs.OneAnswer.{by_whether}

-- ---- the first byte that was refused

-- two places of a refused byte are one
record SameByte (front before : List ℕ) (byte other : ℕ) : Type 0 where
  front_is : before ≡ front
  byte_is : other ≡ byte

module _ (device : DeviceParts) (place : LegPlace) where
  -- a byte that was taken after some is not the one that was refused after them
  taken_and_refused : (taken : List ℕ) (byte other : ℕ) → other ≡ byte → TakesByte device place taken other
      → (TakesByte device place (taken ++ []) byte → ⊥) → ⊥
  taken_and_refused taken byte other same takes refused =
      refused (subst (λ (bytes : List ℕ). TakesByte device place bytes byte) (sym (append-nil taken))
      (subst (TakesByte device place taken) same takes))

  -- Bytes of which those in front were taken and the next one was refused are cut at one place.
  one_refused : (taken front before : List ℕ) (byte other : ℕ) (rest more : List ℕ)
      → front ++ byte ∷ rest ≡ before ++ other ∷ more
      → TakesAll device place taken front → TakesAll device place taken before
      → (TakesByte device place (taken ++ front) byte → ⊥) → (TakesByte device place (taken ++ before) other → ⊥)
      → SameByte front before byte other
  one_refused taken [] [] byte other rest more same all also refused nor =
      record { front_is = refl; byte_is = cc same }
  one_refused taken [] (b ∷ before) byte other rest more same all also refused nor =
      absurd (taken_and_refused taken byte b (cc same) also.0 refused)
  one_refused taken (a ∷ front) [] byte other rest more same all also refused nor =
      absurd (taken_and_refused taken other a (cc same) all.0 nor)
  one_refused taken (a ∷ front) (b ∷ before) byte other rest more same all also refused nor =
      let first : b ≡ a = cc same in
      let behind : front ++ byte ∷ rest ≡ before ++ other ∷ more = cc same in
      let later =
      one_refused (taken ++ a ∷ []) front before byte other rest more behind all.1
      (subst (λ (n : ℕ). TakesAll device place (taken ++ n ∷ []) before) first also.1)
      (λ takes. refused (subst (λ (bytes : List ℕ). TakesByte device place bytes byte)
      (append_assoc taken (a ∷ []) front) takes))
      (λ takes. nor (subst (λ (n : ℕ). TakesByte device place (taken ++ n ∷ before) other) (sym first)
      (subst (λ (bytes : List ℕ). TakesByte device place bytes other) (append_assoc taken (a ∷ []) before) takes))) in
      let front_is : before ≡ front = later.front_is in
      record { front_is = cc (first, front_is); byte_is = later.byte_is }

-- ---- what the own leg does

module _ (device : DeviceParts) (before after other : DeviceState) where
  -- a refused byte is noted in one way
  one_note : (place : LegPlace) (bytes : List ℕ) → Refuses device place bytes before after
      → Refuses device place bytes before other → after ≡ other
  one_note place bytes a b =
      let same =
      one_refused device place [] a.front b.front a.byte b.byte a.rest b.rest (sym a.split ∙ b.split) a.taken b.taken
      a.refused b.refused in
      -- what is noted of the second, said of the first's bytes
      let Noted : List ℕ → ℕ → Type 0 = λ front byte. Whether (GoesOn device place front)
      (other ≡ with_noted device (bit_of_sent (front ++ byte ∷ [])) before) (other ≡ before) in
      let also : Noted a.front a.byte =
      subst (λ (front : List ℕ). Noted front a.byte) same.front_is (subst (Noted b.front) same.byte_is b.noted) in
      by_whether _ _ _ _ _ _ (λ is too. is ∙ sym too) (λ is too. is ∙ sym too) a.noted also

  -- so does a write act, which is of one code and data
  one_act : (bytes : List ℕ) → Acts device bytes before after → Acts device bytes before other → after ≡ other
  one_act bytes (writes code content with_pec body is) (writes second words also other_body too) =
      let same = one_write device code second content words with_pec also bytes body other_body in
      is ∙ ap (λ (c : ℕ). after_write device c content before) same.code_is
      ∙ ap (λ (bs : List ℕ). after_write device second bs before) same.bytes_are ∙ sym too
  one_act bytes (writes code content with_pec body is) (no_write never too) =
      absurd (never (code, content, with_pec, body))
  one_act bytes (no_write never is) (writes code content with_pec body too) =
      absurd (never (code, content, with_pec, body))
  one_act bytes (no_write never is) (no_write nor too) = is ∙ sym too

  -- and an answer that is a refusal
  one_refusal : (earlier : List Leg) (bytes : List ℕ) (behind : List Leg)
      → NotesAnswer device earlier bytes behind before after → NotesAnswer device earlier bytes behind before other
      → after ≡ other
  one_refusal earlier bytes behind (asked first request next more split read is)
      (asked alone also second others cut to_read too) =
      is ∙ sym too
  one_refusal earlier bytes behind (asked first request next more split read is) (not_asked never too) =
      absurd (never first request next more split read)
  one_refusal earlier bytes behind (not_asked never is) (asked first request next more split read too) =
      absurd (never first request next more split read)
  one_refusal earlier bytes behind (not_asked never is) (not_asked nor too) = is ∙ sym too

  -- all bytes were taken: it is read after its leg, or not
  read_or_acts : (is_read : Bool) (earlier : List Leg) (bytes : List ℕ) (behind : List Leg)
      → ReadOrActs device is_read earlier bytes behind before after
      → ReadOrActs device is_read earlier bytes behind before other → after ≡ other
  read_or_acts true earlier bytes behind a b = one_refusal earlier bytes behind a b
  read_or_acts false earlier bytes behind a b = one_act bytes a b

  -- all bytes were taken, or one was refused
  own_leg_ends : (earlier : List Leg) (bytes : List ℕ) (behind : List Leg)
      → OwnLegEnds device earlier bytes behind before after → OwnLegEnds device earlier bytes behind before other
      → after ≡ other
  own_leg_ends earlier bytes behind =
      by_whether _ _ _ _ _ _
      (read_or_acts (some_is_to (read_address device.address) behind) earlier bytes behind)
      (one_note (leg_place earlier) bytes)

  -- ---- all legs

  legs_end : (legs : List Leg) → LegsEnd device legs before after → LegsEnd device legs before other → after ≡ other
  legs_end legs (own_leg bytes own is) b =
      own_leg_ends own.earlier bytes own.behind is
      (ends_at device before other own.earlier own.own own.behind bytes own.first own.bytes_are
      (subst (λ (legs : List Leg). LegsEnd device legs before other) own.split b))
  legs_end legs (no_leg none is) b = is ∙ sym (ends_without device before other legs none b)

  pub one_end : (legs : Legs) → Ends device legs before after → Ends device legs before other → after ≡ other
  one_end Outside a b = a ∙ sym b
  one_end (Inside earlier leg) a b = legs_end (earlier ++ leg ∷ []) a b
