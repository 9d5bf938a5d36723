-- The leg in which a device refused something, by what the code tests: its device, its command, and
-- whether the bytes begin a body, go on, or ask. For `check_refused_byte` and
-- `check_refused_reply`. Each test that passes is a rule that is kept, and the first that fails is
-- the fault.
use Rattle.std.proofs.Common.{◌≡◌, ℕ, suc, ◌<◌, get_or, Bool, true, false, Some, IsSome, is_some, List, [], ◌∷◌, ◌++◌}
use Rattle.std.proofs.Common.{refl, sym, ap, subst, ◌∙◌, inl, inr}
use Rattle.pmb_command.specs.declared.form.Shape.{Shape}
use Rattle.pmb_command.specs.declared.pec_mode.PecMode.{PecMode}
use Rattle.pmb_command.specs.Parts.{DeviceParts, command_with, device_with}
use Rattle.pmb_transaction.specs.Transaction.{PartData}
use Rattle.pmb_transaction.specs.Body.{forms, shape_of, IsRequest}
use Rattle.std.specs.Option.{option_and_then}
use Rattle.pmb_command.specs.Wire.{AreByteValues}
use Rattle.pmb_writer.specs.declared.invalid.Invalid.TheVariants.{WrongLength, NotAllowed}
use Rattle.pmb_writer.specs.Invalid.{AreKept, IsFirstBroken, OfDevice, MayBegin, MayGoOn, CanBeAsked, command_at}
use Rattle.pmb_writer.specs.Invalid.{forms_at, has_device, has_command, rule_unless, refused_leg_rules}
use Rattle.pmb_writer.specs.machine.Lengths.{may_go_on, is_request, may_begin}
use Rattle.pmb_writer.proofs.Bodies.{is_first, begins, begins_not, goes_on, goes_on_not, requests, requests_not}

-- the items of a slice of bytes
pub small_items : (bytes : List ℕ) → ((k : ℕ) → get_or bytes k 0 < 256) → AreByteValues bytes
small_items [] small = tt
small_items (b ∷ bytes) small = (small 0, small_items bytes (λ k. small (suc k)))

pub small_front : (bytes : List ℕ) (last : ℕ) → AreByteValues (bytes ++ last ∷ []) → AreByteValues bytes
small_front [] last small = tt
small_front (b ∷ bytes) last small = (small.0, small_front bytes last small.1)

-- What a leg's code finds in a profile.
pub record Found (profile : List DeviceParts) (addr : ℕ) (code : ℕ) (device : DeviceParts)
    (shape : Shape) : Type 0 where
  -- the device and the command are in the profile, and the forms are the device's
  pub known : Some device ≡ device_with addr profile
  pub command : IsSome (command_with code device.commands)
  pub shape_is : shape ≡ forms device code

module _ (profile : List DeviceParts) (parts : List PartData) (addr code : ℕ) (device : DeviceParts) (shape : Shape)
    (found : Found profile addr code device shape) where
  has_one : IsSome (device_with addr profile)
  has_one = ap is_some (sym found.known)

  has_its_command : IsSome (command_at profile addr code)
  has_its_command = rw (← found.known) found.command

  -- of the device and no other
  the_device : (P : DeviceParts → Type 0) → (P device → ⊥) → OfDevice profile addr P → ⊥
  the_device P none (other, known, holds) =
      let same : other ≡ device = cc (known, found.known) in
      none (subst P same holds)

  -- the tests of the code, of the bytes that were taken after the code
  abbrev Begins : Bool → Bool → Type 0
  Begins first answer = (first ≡ is_first parts) × (may_begin first shape ≡ answer)

  begun : (first answer : Bool) → Begins first answer → may_begin (is_first parts) (forms device code) ≡ answer
  begun first answer (first_is, is) = cc (first_is, found.shape_is, is)

  abbrev GoesOn : Bool → PecMode → List ℕ → Bool → Type 0
  GoesOn first mode taken answer = (first ≡ is_first parts) × (mode ≡ device.pec)
      × (may_go_on first mode shape taken ≡ answer)

  gone_on : (first answer : Bool) (mode : PecMode) (taken : List ℕ) → GoesOn first mode taken answer
      → may_go_on (is_first parts) device.pec (forms device code) taken ≡ answer
  gone_on first answer mode taken (first_is, mode_is, is) =
      subst (λ m. may_go_on (is_first parts) m (forms device code) taken ≡ answer) mode_is
      (subst (λ s. may_go_on (is_first parts) mode s taken ≡ answer) found.shape_is
      (subst (λ f. may_go_on f mode shape taken ≡ answer) first_is is))

  -- the rules of two bytes or more
  taken_rules : (taken : List ℕ) (last : ℕ) → refused_leg_rules profile parts addr (code ∷ taken ++ last ∷ []) false ≡
      has_device profile addr
      ∷ has_command profile addr code
      ∷ rule_unless NotAllowed (OfDevice profile addr (MayBegin parts code))
      ∷ rule_unless WrongLength (OfDevice profile addr (MayGoOn parts (code ∷ taken ++ last ∷ [])))
      ∷ []
  taken_rules [] last = refl
  taken_rules (b ∷ taken) last = refl

  pub byte_is_refused : (first : Bool) (mode : PecMode) (taken : List ℕ) (last : ℕ) → AreByteValues taken
      → Begins first true → GoesOn first mode taken true
      → AreKept (refused_leg_rules profile parts addr (code ∷ taken ++ last ∷ []) false)
  byte_is_refused first mode taken last small begins_so on =
      subst AreKept (sym (taken_rules taken last)) (
        has_one,
        (
          has_its_command,
          (
            (device, sym found.known, begins device code parts (begun first true begins_so)),
            (
              (device, sym found.known, goes_on device code parts taken small (gone_on first true mode taken on) last),
              tt,
            ),
          ),
        ),
      )

  pub byte_goes_on_not : (first : Bool) (mode : PecMode) (taken : List ℕ) (last : ℕ) → Begins first true
      → GoesOn first mode taken false
      → IsFirstBroken (refused_leg_rules profile parts addr (code ∷ taken ++ last ∷ []) false) WrongLength
  byte_goes_on_not first mode taken last begins_so on =
      subst (λ rules. IsFirstBroken rules WrongLength) (sym (taken_rules taken last))
      (inr (
        has_one,
        inr (
          has_its_command,
          inr (
            (device, sym found.known, begins device code parts (begun first true begins_so)),
            inl (
              the_device (MayGoOn parts (code ∷ taken ++ last ∷ []))
                  (goes_on_not device code parts taken (gone_on first false mode taken on) last),
              refl,
            ),
          ),
        ),
      ))

  pub byte_begins_not : (first : Bool) (taken : List ℕ) (last : ℕ) → Begins first false
      → IsFirstBroken (refused_leg_rules profile parts addr (code ∷ taken ++ last ∷ []) false) NotAllowed
  byte_begins_not first taken last begins_so =
      subst (λ rules. IsFirstBroken rules NotAllowed) (sym (taken_rules taken last))
      (inr (
        has_one,
        inr (
          has_its_command,
          inl
              (the_device (MayBegin parts code) (begins_not device code parts (begun first false begins_so)), refl),
        ),
      ))

  -- the command can be read or called
  asked : CanBeAsked shape → CanBeAsked (forms_at profile addr code)
  asked is = subst CanBeAsked (found.shape_is
      ∙ ap (λ d. shape_of (option_and_then (λ x. command_with code x.commands) d)) found.known) is

  pub reply_is_refused : (bytes : List ℕ) → parts ≡ [] → AreByteValues bytes → CanBeAsked shape
      → is_request shape bytes ≡ true
      → AreKept (refused_leg_rules profile parts addr (code ∷ bytes) true)
  reply_is_refused bytes alone small is passes = (
    has_one,
    (
      alone,
      (
        has_its_command,
        (
          asked is,
          (
            (
              device,
              sym found.known,
              requests device code bytes small
                  (subst (λ s. is_request s bytes ≡ true) found.shape_is passes),
            ),
            tt,
          ),
        ),
      ),
    ),
  )

  pub reply_is_no_request : (bytes : List ℕ) → parts ≡ [] → CanBeAsked shape → is_request shape bytes ≡ false
      → IsFirstBroken (refused_leg_rules profile parts addr (code ∷ bytes) true) WrongLength
  reply_is_no_request bytes alone is fails =
      inr (
        has_one,
        inr (
          alone,
          inr (
            has_its_command,
            inr (
              asked is,
              inl (
                the_device (λ d. IsRequest d (code ∷ bytes))
                    (requests_not device code bytes (subst (λ s. is_request s bytes ≡ false) found.shape_is fails)),
                refl,
              ),
            ),
          ),
        ),
      )
