-- The last START of events, and the bytes of a leg that were taken or refused: events are cut at
-- the last START in one way, and the events of bytes tell these bytes. For LastStarts and the laws
-- on what may follow. Bytes and their answers hold no START, and a byte's event holds its value.
use Rattle.std.proofs.Common.{◌≡◌, ℕ, ◌+◌, ◌*◌, Bool, true, false, List, [], ◌∷◌, ◌++◌, refl, sym, ap, arith}
use Rattle.pmb_bus.specs.declared.event.Event.{Event}
use Rattle.pmb_bus.specs.declared.event.Event.TheVariants.{Start, Byte, Ack, Nack, Stop}
use Rattle.pmb_bus.specs.Address.{write_address, read_address}
use Rattle.pmb_transaction.specs.Packet.{acked, nacked}
use Rattle.pmb_transaction.specs.Viable.{AnswerBegins, answer_taken, answer_sent}

-- ---- the last START

-- whether a START stands among the events
abbrev pub has_start : List Event → Bool
has_start [] = false
has_start (Start ∷ events) = true
has_start (Byte b ∷ events) = has_start events
has_start (Ack ∷ events) = has_start events
has_start (Nack ∷ events) = has_start events
has_start (Stop ∷ events) = has_start events

pub starts : (a b : List Event) → has_start (a ++ Start ∷ b) ≡ true
starts [] b = refl
starts (Start ∷ a) b = refl
starts (Byte x ∷ a) b = starts a b
starts (Ack ∷ a) b = starts a b
starts (Nack ∷ a) b = starts a b
starts (Stop ∷ a) b = starts a b

-- where no START is, none is found
no_start : (events a b : List Event) → has_start events ≡ false → events ≡ a ++ Start ∷ b → ⊥
no_start events a b none split = cc (none, sym (starts a b), ap has_start split)

-- Events can be cut at their last START in one way.
pub same_last_start : (a b x y : List Event) → has_start x ≡ false → has_start y ≡ false
    → a ++ Start ∷ x ≡ b ++ Start ∷ y → (a ≡ b) × (x ≡ y)
same_last_start [] [] x y none_x none_y same = (refl, cc same)
same_last_start [] (e ∷ b) x y none_x none_y same =
    let rest : x ≡ b ++ Start ∷ y = cc same in
    absurd (no_start x b y none_x rest)
same_last_start (e ∷ a) [] x y none_x none_y same =
    let rest : y ≡ a ++ Start ∷ x = cc same in
    absurd (no_start y a x none_y rest)
same_last_start (d ∷ a) (e ∷ b) x y none_x none_y same =
    let rest : a ++ Start ∷ x ≡ b ++ Start ∷ y = cc same in
    let later = same_last_start a b x y none_x none_y rest in
    let first : d ≡ e = cc same in
    let tails : a ≡ b = later.0 in
    (cc (first, tails), later.1)

pub no_start-acked : (bytes : List ℕ) → has_start (acked bytes) ≡ false
no_start-acked [] = refl
no_start-acked (b ∷ bytes) = no_start-acked bytes

pub no_start-sent : (bytes : List ℕ) (byte : ℕ) → has_start (acked bytes ++ Byte byte ∷ []) ≡ false
no_start-sent [] byte = refl
no_start-sent (b ∷ bytes) byte = no_start-sent bytes byte

-- ---- bytes that were taken

pub one_row_of_bytes : (a b : List ℕ) → acked a ≡ acked b → a ≡ b
one_row_of_bytes [] [] same = refl
one_row_of_bytes [] (y ∷ b) same = absurd (cc same)
one_row_of_bytes (x ∷ a) [] same = absurd (cc same)
one_row_of_bytes (x ∷ a) (y ∷ b) same =
    let first : x ≡ y = cc same in
    let rest : acked a ≡ acked b = cc same in
    let later : a ≡ b = one_row_of_bytes a b rest in
    cc (first, later)

-- bytes of which each was answered are not bytes of which the last was not
pub all_answered : (a b : List ℕ) (byte : ℕ) → acked a ≡ acked b ++ Byte byte ∷ [] → ⊥
all_answered [] [] byte same = cc same
all_answered [] (y ∷ b) byte same = cc same
all_answered (x ∷ a) [] byte same = cc same
all_answered (x ∷ a) (y ∷ b) byte same = all_answered a b byte (cc same)

-- bytes of which each was taken are not bytes of which the last was refused
pub none_refused : (b : ℕ) (bytes a : List ℕ) → nacked (b ∷ bytes) ≡ acked a → ⊥
none_refused b [] [] same = cc same
none_refused b [] (x ∷ a) same = cc same
none_refused b (c ∷ bytes) [] same = cc same
none_refused b (c ∷ bytes) (x ∷ a) same = none_refused c bytes a (cc same)

pub no_start-nacked : (bytes : List ℕ) → has_start (nacked bytes) ≡ false
no_start-nacked [] = refl
no_start-nacked (b ∷ []) = refl
no_start-nacked (b ∷ c ∷ bytes) = no_start-nacked (c ∷ bytes)

-- the last byte of a leg was taken
pub ends_taken : (b : ℕ) (bytes : List ℕ) → (front : List Event) × (acked (b ∷ bytes) ≡ front ++ Ack ∷ [])
ends_taken b [] = (Byte b ∷ [], refl)
ends_taken b (c ∷ bytes) =
    let rest = ends_taken c bytes in
    (Byte b ∷ Ack ∷ rest.0, ap (λ (es : List Event). Byte b ∷ Ack ∷ es) rest.1)

pub acked_push : (bytes : List ℕ) (byte : ℕ) → acked (bytes ++ byte ∷ []) ≡ acked bytes ++ Byte byte ∷ Ack ∷ []
acked_push [] byte = refl
acked_push (b ∷ bytes) byte = ap (λ (es : List Event). Byte b ∷ Ack ∷ es) (acked_push bytes byte)

pub not_both : (a b : ℕ) → Byte (write_address a) ≡ Byte (read_address b) → ⊥
not_both a b same =
    let bytes : 2 * a ≡ 2 * b + 1 = cc same in
    omega (arith, bytes)

pub same_half : (a b : ℕ) → Byte (write_address a) ≡ Byte (write_address b) → a ≡ b
same_half a b same =
    let bytes : 2 * a ≡ 2 * b = cc same in
    omega (arith, bytes)

-- what an answer begins with has no further START
pub no_start-answer : (address : ℕ) (answer : List ℕ) (last : List Event) → AnswerBegins address answer last
    → (tail : List Event) × (last ≡ Start ∷ Byte address ∷ tail) × (has_start tail ≡ false)
no_start-answer address answer last (answer_taken bytes fewer spelled) =
    (Ack ∷ acked bytes, spelled, no_start-acked bytes)
no_start-answer address answer last (answer_sent bytes byte rest split spelled) =
    (Ack ∷ (acked bytes ++ Byte byte ∷ []), spelled, no_start-sent bytes byte)

pub same_read_half : (a b : ℕ) → Byte (read_address a) ≡ Byte (read_address b) → a ≡ b
same_read_half a b same =
    let bytes : 2 * a + 1 ≡ 2 * b + 1 = cc same in
    omega (arith, bytes)

-- bytes of which the last was refused are told by their events
pub one_row_of_refused : (a b : List ℕ) → nacked a ≡ nacked b → a ≡ b
one_row_of_refused [] [] same = refl
one_row_of_refused [] (y ∷ []) same = absurd (cc same)
one_row_of_refused [] (y ∷ z ∷ b) same = absurd (cc same)
one_row_of_refused (x ∷ []) [] same = absurd (cc same)
one_row_of_refused (x ∷ w ∷ a) [] same = absurd (cc same)
one_row_of_refused (x ∷ []) (y ∷ []) same =
    let first : x ≡ y = cc same in
    ap (λ (b : ℕ). b ∷ []) first
one_row_of_refused (x ∷ []) (y ∷ z ∷ b) same = absurd (cc same)
one_row_of_refused (x ∷ w ∷ a) (y ∷ []) same = absurd (cc same)
one_row_of_refused (x ∷ w ∷ a) (y ∷ z ∷ b) same =
    let first : x ≡ y = cc same in
    let rest : nacked (w ∷ a) ≡ nacked (z ∷ b) = cc same in
    let later : w ∷ a ≡ z ∷ b = one_row_of_refused (w ∷ a) (z ∷ b) rest in
    cc (first, later)
