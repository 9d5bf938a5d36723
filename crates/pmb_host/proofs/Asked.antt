-- What an allowed request asks for has a packet: for the law `allowed_requests_have_packets`. A
-- READ, CALL or GET keeps the rules of its transaction, and the reply fits the form that they
-- found; a quantity that is set is a write of one part with the two bytes of its word (`Words`).
use Rattle.std.proofs.Common.{ℕ, Option, Some, None, IfSome, is_some, List, [], ◌∷◌, refl, sym, ap, subst, arith}
use Rattle.pmb_command.specs.declared.form.Form.{Form}
use Rattle.pmb_command.specs.Bus.{IsBus}
use Rattle.pmb_command.specs.Parts.{DeviceParts}
use Rattle.pmb_command.specs.Wire.{Fits}
use Rattle.pmb_quantity.specs.Fraction.{Fraction}
use Rattle.pmb_transaction.specs.Transaction.{Write}
use Rattle.pmb_writer.specs.Invalid.{HasPacket, forms_at}
use Rattle.pmb_writer.proofs.Packets.{kept_has_packet}
use Rattle.pmb_request.specs.Request.{Command, RequestData, WriteParts, ReadBytes, CallBytes, Set, Get}
use Rattle.pmb_value.specs.declared.number_format.NumberFormat.{NumberFormat}
use Rattle.pmb_host.specs.Rules.{CanSet, IsAllowed}
use Rattle.pmb_host.specs.Signals.{reply_form}
use Rattle.pmb_host.specs.Task.{replied, task_of, word_bytes}
use Rattle.pmb_host.proofs.Words.{set_is_word, word_fits}

module _ (profile : List DeviceParts) (bus : IsBus profile) where
  -- a quantity that is set is a write of one part, with the two bytes of its word
  pub set_packet : (c : Command) (value : Fraction) (mode : Option ℕ) (word : ℕ) → CanSet profile c value mode word
      → HasPacket profile (Write (record { addr = c.addr; code = c.code; bytes = word_bytes word; pec = c.pec } ∷ []))
  set_packet c value mode word can =
      let two = set_is_word profile bus c value mode word can in
      let fits = word_fits word two.1 in
      kept_has_packet profile (task_of (Set c value mode) word) (omega arith) (
        omega arith,
        (
          can.kept.0,
          (
            refl,
            (
              can.kept.1.0,
              (
                ap is_some two.0,
                (
                  subst (λ (it : Option Form). IfSome it (λ it. Fits it (word_bytes word))) (sym two.0) fits,
                  (can.has.kept, tt),
                ),
              ),
            ),
          ),
        ),
      )

  -- ---- a command that is read or called

  both_fit : (form : Option Form) (P Q : Form → Type 0) → IfSome form P → IfSome form Q
      → IfSome form (λ it. P it × Q it)
  both_fit None P Q first second = tt
  both_fit (Some form) P Q first second = (first, second)

  pub asked_packet : (request : RequestData) (word : ℕ) (number : Option NumberFormat) (reply : List ℕ)
      → IsAllowed profile request word number
      → IfSome (reply_form profile (task_of request word)) (λ form. Fits form reply)
      → HasPacket profile (replied (task_of request word) reply)
  asked_packet (WriteParts parts) word number reply allowed fits = allowed.0
  -- READ: the rules of the request are those of the transaction, and the reply fits
  asked_packet (ReadBytes c) word number reply (kept, none) fits =
      kept_has_packet profile (replied (task_of (ReadBytes c) word) reply) tt
      (kept.0, (kept.1.0, (kept.1.1.0, (fits, (kept.1.1.1.0, tt)))))
  -- CALL: the bytes that are sent fit as well
  asked_packet (CallBytes c bytes) word number reply (kept, none) fits =
      kept_has_packet profile (replied (task_of (CallBytes c bytes) word) reply) tt (
        kept.0,
        (
          kept.1.0,
          (
            kept.1.1.0,
            (
              both_fit (forms_at profile c.addr c.code).call (λ form. Fits form bytes)
                  (λ form. Fits form reply) kept.1.1.1.0 fits,
              (kept.1.1.1.1.0, tt),
            ),
          ),
        ),
      )
  -- SET is a write
  asked_packet (Set c value mode) word number reply (can, none) fits = set_packet c value mode word can
  -- GET: as READ
  asked_packet (Get c mode) word None reply (kept, has, some) fits = absurd (some refl)
  asked_packet (Get c mode) word (Some number) reply (kept, has, some) fits =
      kept_has_packet profile (replied (task_of (Get c mode) word) reply) tt
      (kept.0, (kept.1.0, (kept.1.1.0, (fits, (has.kept, tt)))))
