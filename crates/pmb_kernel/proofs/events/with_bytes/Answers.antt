use Rattle.std.proofs.Common.{◌≡◌, ◌∙◌, ℕ, Bool, Some, List, [], ◌∷◌, ap, sym}
use Rattle.pmb_words.specs.Left.{pieces_left}
use Rattle.pmb_trace.specs.Fields.{bytes_field}
use Rattle.pmb_trace.specs.Views.{shown}
use Rattle.pmb_kernel.specs.Events as events
use Rattle.pmb_kernel.specs.Views.{role_of, with_shown}
use Rattle.pmb_kernel.proofs.events.with_bytes.Goals as goal

-- the five fields, of which the last is bytes
pub returns-then-read_bytes : goal.returns-then-read_bytes
returns-then-read_bytes c bus =
    let number = c.in_ok-number.number.now in
    let address = c.in_ok-address.address.now in
    let flags = c.in_ok-flags.flags.now in
    let length = c.in_ok-length.length.now in
    let bytes = c.in_ok-shown.shown.now in
    let five : pieces_left c.args.fields ≡ number ∷ address ∷ flags ∷ length ∷ bytes ∷ [] =
    c.in_ok-number.ensures.some
    ∙ ap (λ (t : List (List ℕ)). number ∷ t) (c.in_ok-address.ensures.some
    ∙ ap (λ (t : List (List ℕ)). address ∷ t) (c.in_ok-flags.ensures.some
    ∙ ap (λ (t : List (List ℕ)). flags ∷ t) (c.in_ok-length.ensures.some
    ∙ ap (λ (t : List (List ℕ)). length ∷ t) (c.in_ok-shown.ensures.some
    ∙ ap (λ (t : List (List ℕ)). bytes ∷ t) (c.next_piece-6.ensures.none c.in-None.is))))) in
    let read : Some c.read_bytes.new.bytes.items ≡ bytes_field bytes =
    sym (ap (λ (b : Bool). shown b c.read_bytes.new.bytes.items) c.if-read_bytes.true) ∙ c.read_bytes.ensures in
    ap (with_shown (Some c.in_ok-message.message)) read
    ∙ (c.in_ok-message.ensures (bytes_field bytes)
    ∙ sym (ap (λ (ps : List (List ℕ)). events.with_bytes (role_of c.args.role) (bus ∷ ps)) five))
