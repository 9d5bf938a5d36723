-- The byte that a leg has after those that were sent. For `Host::asking_leg`, `Host::go_on` and
-- `Host::next_byte`. The leg is made anew at each byte from the task, with the code so far in
-- place of the packet error code; up to the code's own place both spellings agree, and there the
-- code is right.
use Rattle.std.proofs.Common.{◌≡◌, ℕ, ◌-◌, ◌≤◌, Bool, true, false, Option, Some, None, List, [], ◌∷◌, ◌++◌, length}
use Rattle.std.proofs.Common.{refl, sym, ap, subst, ◌∙◌, arith, suc}
use Rattle.std.specs.List.{slice_get}
use Rattle.std.specs.Option.{IfSome, option_map, option_to_list}
use Rattle.pmb_bus.specs.Pec.{pec}
use Rattle.pmb_command.specs.declared.form.Form.{Form}
use Rattle.pmb_transaction.specs.Transaction.{transaction_data}
use Rattle.pmb_devices.specs.Bus.{AnsweredSignal}
use Rattle.pmb_host.specs.declared.host.Host.{Host}
use Rattle.pmb_host.specs.declared.host_leg.HostLeg.{HostLeg}
use Rattle.pmb_host.specs.declared.reply.Incoming.{Incoming}
use Rattle.pmb_host.specs.Signals.{leg_form, legs_of, reply_form, reply_has_pec}
use Rattle.pmb_host.specs.machine.Legs.{coded_with, leg_bytes, plain_bytes}
use Rattle.pmb_host.specs.machine.Standing.{AreAddresses, BehindByte, InLeg, IsIncoming, IsLegSent, Job, covered}

-- the one after bytes
get_behind : {X : Type 0} (bytes more : List X) → slice_get (bytes ++ more) (length bytes) ≡ slice_get more 0
get_behind [] more = refl
get_behind (b ∷ bytes) more = get_behind bytes more

-- the leg after others
get_next : {X : Type 0} (before : List X) (leg : X) (behind : List X)
    → slice_get (before ++ leg ∷ behind) (length before) ≡ Some leg
get_next before leg behind = get_behind before (leg ∷ behind)

no_more : (bytes more : List ℕ) → bytes ++ more ≡ [] → (bytes ≡ []) × (more ≡ [])
no_more [] more is = (refl, is)
no_more (b ∷ bytes) more is = absurd (cc is)

-- where a code after them is right as soon as it is due
coded_at : (bytes more plain : List ℕ) (code right : ℕ) → bytes ++ more ≡ plain ++ right ∷ []
    → (bytes ≡ plain → code ≡ right)
    → slice_get (plain ++ code ∷ []) (length bytes) ≡ slice_get more 0
coded_at [] more [] code right is due = ap Some (due refl) ∙ sym (ap (λ (bs : List ℕ). slice_get bs 0) is)
coded_at [] more (p ∷ plain) code right is due = sym (ap (λ (bs : List ℕ). slice_get bs 0) is)
coded_at (b ∷ bytes) more [] code right is due =
    let rest : bytes ++ more ≡ [] = cc is in
    let none = no_more bytes more rest in
    ap (λ (bs : List ℕ). slice_get (code ∷ []) (suc (length bs))) none.0
    ∙ sym (ap (λ (bs : List ℕ). slice_get bs 0) none.1)
coded_at (b ∷ bytes) more (p ∷ plain) code right is due =
    let head : b ≡ p = cc is in
    let rest : bytes ++ more ≡ plain ++ right ∷ [] = cc is in
    coded_at bytes more plain code right rest (λ same. due (cc (head, same)))

byte_of_leg : (with_pec : Bool) (plain bytes more : List ℕ) (code : ℕ)
    → bytes ++ more ≡ coded_with with_pec (pec plain) plain → (with_pec ≡ true → code ≡ pec bytes)
    → slice_get (coded_with with_pec code plain) (length bytes) ≡ slice_get more 0
byte_of_leg false plain bytes more code is due = sym (ap (λ (bs : List ℕ). slice_get bs (length bytes)) is)
    ∙ get_behind bytes more
byte_of_leg true plain bytes more code is due = coded_at bytes more plain code (pec plain) is
    (λ same. due refl ∙ ap pec same)

covered_none : (reply : Option Incoming) (form : Option Form) (with_pec : Bool) (before : List (List ℕ))
    (bytes : List ℕ) → IsIncoming reply form with_pec [] → form ≡ None
    → covered reply before bytes ≡ bytes
covered_none None form with_pec before bytes is none = refl
covered_none (Some reply) None with_pec before bytes is none = absurd is
covered_none (Some reply) (Some form) with_pec before bytes is none = absurd (cc none)

module _ (host : Host) (job : Job) (heard : List AnsweredSignal) (at : InLeg host job heard) where
  in_legs : slice_get (legs_of host.profile.now (transaction_data host.transaction)) (host.leg - 1)
      ≡ Some (at.bytes ++ at.more)
  in_legs =
      -- the leg's number counts from 1, its place in the list from 0
      let leg_is = at.leg_is in
      let place : host.leg - 1 ≡ length at.before = omega (arith, leg_is) in
      ap (λ p. slice_get (legs_of p (transaction_data host.transaction)) (host.leg - 1)) at.writing.job_is.profile_is
      ∙ ap (λ t. slice_get (legs_of job.profile t) (host.leg - 1)) at.writing.job_is.task_is
      ∙ ap (λ (legs : List (List ℕ)). slice_get legs (host.leg - 1)) at.legs_are
      ∙ ap (λ (n : ℕ). slice_get (at.before ++ (at.bytes ++ at.more) ∷ at.behind) n) place
      ∙ get_next at.before (at.bytes ++ at.more) at.behind

  addresses_here : AreAddresses (transaction_data host.transaction)
  addresses_here = subst AreAddresses (sym at.writing.job_is.task_is) at.writing.job_is.addresses

  form_here : host.form ≡ leg_form host.profile.now (transaction_data host.transaction) (host.leg - 1)
  form_here =
      let leg_is = at.leg_is in
      let place : length at.before ≡ host.leg - 1 = omega (arith, leg_is) in
      at.form_is ∙ ap (λ (n : ℕ). leg_form job.profile job.task n) place
      ∙ sym (ap (λ t. leg_form job.profile t (host.leg - 1)) at.writing.job_is.task_is)
      ∙ sym (ap (λ p. leg_form p (transaction_data host.transaction) (host.leg - 1)) at.writing.job_is.profile_is)

  pub next_of_leg : (result : Option HostLeg)
      → (AreAddresses (transaction_data host.transaction) → 1 ≤ host.leg
      → host.form ≡ leg_form host.profile.now (transaction_data host.transaction) (host.leg - 1)
      → option_map leg_bytes result ≡ slice_get (legs_of host.profile.now (transaction_data host.transaction))
      (host.leg - 1))
      → IfSome result (λ leg. leg.pec ≡ true → reply_form host.profile.now (transaction_data host.transaction) ≡ None)
      → (leg : HostLeg) → result ≡ Some leg → slice_get (coded_with leg.pec host.crc (plain_bytes leg)) host.place
      ≡ slice_get at.more 0
  next_of_leg result bytes code leg is =
      let leg_is = at.leg_is in
      let found = bytes addresses_here (omega (arith, leg_is)) form_here ∙ in_legs in
      let same : leg_bytes leg ≡ at.bytes ++ at.more = cc (found, ap (option_map leg_bytes) is) in
      let codes = subst (λ (r : Option HostLeg). IfSome r (λ leg. leg.pec ≡ true
      → reply_form host.profile.now (transaction_data host.transaction) ≡ None)) is code in
      ap (λ (n : ℕ). slice_get (coded_with leg.pec host.crc (plain_bytes leg)) n) at.place_is
      ∙ byte_of_leg leg.pec (plain_bytes leg) at.bytes at.more host.crc (sym same) (λ coded.
      at.crc_is ∙ ap pec (covered_none host.reply (reply_form job.profile job.task)
      (reply_has_pec job.task) at.before at.bytes at.writing.empty
      (sym (ap (λ p. reply_form p job.task) at.writing.job_is.profile_is)
      ∙ sym (ap (λ t. reply_form host.profile.now t) at.writing.job_is.task_is) ∙ codes coded)))

  pub some_leg : (result : Option HostLeg)
      → (AreAddresses (transaction_data host.transaction) → 1 ≤ host.leg
      → host.form ≡ leg_form host.profile.now (transaction_data host.transaction) (host.leg - 1)
      → option_map leg_bytes result ≡ slice_get (legs_of host.profile.now (transaction_data host.transaction))
      (host.leg - 1))
      → result ≡ None → ⊥
  some_leg result bytes none =
      let leg_is = at.leg_is in
      let found = bytes addresses_here (omega (arith, leg_is)) form_here ∙ in_legs in
      cc (found, ap (option_map leg_bytes) none)

  behind_more : (more : List ℕ) → at.more ≡ more → (byte : ℕ) → Some byte ≡ slice_get more 0
      → BehindByte host job heard byte
  behind_more [] same byte is = absurd (cc is)
  behind_more (b ∷ rest) same byte is = let here : b ≡ byte = cc is in
      record { inside = at; rest = rest; next = same ∙ ap (λ (x : ℕ). x ∷ rest) here }

  pub has_byte : (byte : ℕ) → Some byte ≡ slice_get at.more 0 → BehindByte host job heard byte
  has_byte = behind_more at.more refl

  behind_none : (more : List ℕ) → at.more ≡ more → None ≡ slice_get more 0 → IsLegSent host job heard
  behind_none [] same is = record { inside = at; none = same }
  behind_none (b ∷ rest) same is = absurd (cc is)

  pub has_none : None ≡ slice_get at.more 0 → IsLegSent host job heard
  has_none = behind_none at.more refl

-- ---- the legs of a read or a call

pub asked_first : (address written code leg : ℕ) (count : Option ℕ) (content wire second : List ℕ) → address ≡ written
    → option_to_list count ++ content ≡ wire → leg ≡ 1
    → Some (address ∷ code ∷ (option_to_list count ++ content)) ≡ slice_get ((written ∷ code ∷ wire) ∷ second ∷ [])
    (leg - 1)
asked_first address written code leg count content wire second address_is wire_is leg_is =
    ap (λ (a : ℕ). Some (a ∷ code ∷ (option_to_list count ++ content))) address_is
    ∙ ap (λ (w : List ℕ). Some (written ∷ code ∷ w)) wire_is
    ∙ ap (λ (n : ℕ). slice_get ((written ∷ code ∷ wire) ∷ second ∷ []) (n - 1)) (sym leg_is)

pub asked_second : (address read leg : ℕ) (first : List ℕ) → address ≡ read → leg ≡ 2
    → Some (address ∷ []) ≡ slice_get (first ∷ (read ∷ []) ∷ []) (leg - 1)
asked_second address read leg first address_is leg_is =
    ap (λ (a : ℕ). Some (a ∷ [])) address_is ∙ ap (λ (n : ℕ). slice_get (first ∷ (read ∷ []) ∷ []) (n - 1)) (sym leg_is)
