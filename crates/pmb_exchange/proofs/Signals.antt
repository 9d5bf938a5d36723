-- The signals of a task: where a byte stands in its legs, and an Ask after them. For the law
-- `runs_are_exchanges`. A leg is START and bytes, and what comes after the legs begins with
-- neither: so the signals before a byte tell the leg and the bytes of it that were sent, and the
-- signals before an Ask are all legs, and as many Asks with their ACKs as bytes were read.
use Rattle.std.proofs.Common.{◌≡◌, ◌≢◌, ℕ, zero, suc, ◌<◌, List, [], ◌∷◌, ◌++◌, length, map, flat_map, refl, sym, ap}
use Rattle.std.proofs.Common.{◌∙◌, append_assoc, arith}
use Rattle.std.specs.List.{AllByRecursion}
use Rattle.pmb_device.specs.declared.signal.HostSignal.{HostSignal}
use Rattle.pmb_device.specs.declared.signal.HostSignal.TheVariants.{Start, Byte, Ask, Ack, Stop}
use Rattle.pmb_host.specs.Signals.{leg_signals, reading_signals}

-- ---- a byte in legs

-- some signals do not begin with a byte, or not with START
abbrev pub NoByteFirst : List HostSignal → Type 0
NoByteFirst xs = (b : ℕ) (more : List HostSignal) → xs ≡ Byte b ∷ more → ⊥

abbrev pub NoStartFirst : List HostSignal → Type 0
NoStartFirst xs = (more : List HostSignal) → xs ≡ Start ∷ more → ⊥

-- bytes of a leg, and one more of them
byte_within : (all bytes : List ℕ) (tail : List HostSignal) (b : ℕ) (behind : List HostSignal) → NoByteFirst tail
    → map Byte all ++ tail ≡ map Byte bytes ++ Byte b ∷ behind → (more : List ℕ) × (all ≡ bytes ++ b ∷ more)
byte_within [] [] tail b behind none is = absurd (none b behind is)
byte_within [] (c ∷ bytes) tail b behind none is = absurd (none c (map Byte bytes ++ Byte b ∷ behind) is)
byte_within (c ∷ all) [] tail b behind none is = (all, ap (λ (n : ℕ). n ∷ all) (cc is))
byte_within (c ∷ all) (d ∷ bytes) tail b behind none is =
    let rest : map Byte all ++ tail ≡ map Byte bytes ++ Byte b ∷ behind = cc is in
    let same : c ≡ d = cc is in
    let more = byte_within all bytes tail b behind none rest in
    let all_are : all ≡ bytes ++ b ∷ more.0 = more.1 in
    (more.0, cc)

-- all bytes of a leg
same_bytes : (all bytes : List ℕ) (tail behind : List HostSignal) → NoByteFirst tail → NoByteFirst behind
    → map Byte all ++ tail ≡ map Byte bytes ++ behind
    → (all ≡ bytes) × (tail ≡ behind)
same_bytes [] [] tail behind none nor is = (refl, is)
same_bytes [] (c ∷ bytes) tail behind none nor is = absurd (none c (map Byte bytes ++ behind) is)
same_bytes (c ∷ all) [] tail behind none nor is = absurd (nor c (map Byte all ++ tail) (sym is))
same_bytes (c ∷ all) (d ∷ bytes) tail behind none nor is =
    let rest : map Byte all ++ tail ≡ map Byte bytes ++ behind = cc is in
    let same : c ≡ d = cc is in
    let more = same_bytes all bytes tail behind none nor rest in
    let all_are : all ≡ bytes = more.0 in
    (cc, more.1)

-- legs begin with START
legs_first : (legs : List (List ℕ)) (tail : List HostSignal) → NoByteFirst tail
    → NoByteFirst (flat_map leg_signals legs ++ tail)
legs_first [] tail none = none
legs_first (leg ∷ legs) tail none = λ b more is. cc is

leg_behind_first : (legs : List (List ℕ)) (bytes : List ℕ) (tail : List HostSignal)
    → NoByteFirst ((flat_map leg_signals legs ++ leg_signals bytes) ++ tail)
leg_behind_first [] bytes tail = λ b more is. cc is
leg_behind_first (leg ∷ legs) bytes tail = λ b more is. cc is

-- A byte stands in one of some legs, after some of the leg's bytes.
pub record InLegs (legs before : List (List ℕ)) (bytes : List ℕ) (b : ℕ) : Type 0 where
  -- the bytes of the leg after it,
  pub more : List ℕ
  -- and the legs after that one
  pub behind : List (List ℕ)
  pub split : legs ≡ before ++ (bytes ++ b ∷ more) ∷ behind

pub in_legs : (legs before : List (List ℕ)) (bytes : List ℕ) (b : ℕ) (tail behind : List HostSignal) → NoByteFirst tail
    → NoStartFirst tail
    → flat_map leg_signals legs ++ tail ≡ (flat_map leg_signals before ++ leg_signals bytes) ++ Byte b ∷ behind
    → InLegs legs before bytes b
-- no leg is left: then no byte comes
in_legs [] [] bytes b tail behind no_byte no_start is = absurd (no_start (map Byte bytes ++ Byte b ∷ behind) is)
in_legs [] (first ∷ before) bytes b tail behind no_byte no_start is =
    absurd (no_start (((map Byte first ++ flat_map leg_signals before) ++ leg_signals bytes) ++ Byte b ∷ behind) is)
-- the byte is in the first leg that is left
in_legs (leg ∷ legs) [] bytes b tail behind no_byte no_start is =
    let rest : (map Byte leg ++ flat_map leg_signals legs) ++ tail ≡ map Byte bytes ++ Byte b ∷ behind = cc is in
    let within =
    byte_within leg bytes (flat_map leg_signals legs ++ tail) b behind (legs_first legs tail no_byte)
    (sym (append_assoc (map Byte leg) (flat_map leg_signals legs) tail) ∙ rest) in
    record { more = within.0; behind = legs; split = ap (λ (l : List ℕ). l ∷ legs) within.1 }
-- the first leg was sent: it is the same on both sides, and the byte is in a later one
in_legs (leg ∷ legs) (first ∷ before) bytes b tail behind no_byte no_start is =
    let rest : (map Byte leg ++ flat_map leg_signals legs) ++ tail
    ≡ ((map Byte first ++ flat_map leg_signals before) ++ leg_signals bytes) ++ Byte b ∷ behind =
    cc is in
    let right : ((map Byte first ++ flat_map leg_signals before) ++ leg_signals bytes) ++ Byte b ∷ behind
    ≡ map Byte first ++ ((flat_map leg_signals before ++ leg_signals bytes) ++ Byte b ∷ behind) =
    ap (λ (xs : List HostSignal). xs ++ Byte b ∷ behind)
    (append_assoc (map Byte first) (flat_map leg_signals before) (leg_signals bytes))
    ∙ append_assoc (map Byte first) (flat_map leg_signals before ++ leg_signals bytes) (Byte b ∷ behind) in
    let parts =
    same_bytes leg first (flat_map leg_signals legs ++ tail)
    ((flat_map leg_signals before ++ leg_signals bytes) ++ Byte b ∷ behind)
    (legs_first legs tail no_byte) (leg_behind_first before bytes (Byte b ∷ behind))
    (sym (append_assoc (map Byte leg) (flat_map leg_signals legs) tail) ∙ rest ∙ right) in
    let more = in_legs legs before bytes b tail behind no_byte no_start parts.1 in
    let same : leg ≡ first = parts.0 in
    let legs_are : legs ≡ before ++ (bytes ++ b ∷ more.more) ∷ more.behind = more.split in
    record { more = more.more; behind = more.behind; split = cc }

-- ---- after the legs

-- an Ask and the ACK after it, so many times
abbrev pub asks : ℕ → List HostSignal
asks zero = []
asks (suc n) = Ask ∷ Ack ∷ asks n

-- what is after the legs begins with no byte and no START
pub reading_no_byte : (bytes : List ℕ) → NoByteFirst (reading_signals bytes ++ Stop ∷ [])
reading_no_byte [] = λ b more is. cc is
reading_no_byte (x ∷ []) = λ b more is. cc is
reading_no_byte (x ∷ y ∷ bytes) = λ b more is. cc is

pub reading_no_start : (bytes : List ℕ) → NoStartFirst (reading_signals bytes ++ Stop ∷ [])
reading_no_start [] = λ more is. cc is
reading_no_start (x ∷ []) = λ more is. cc is
reading_no_start (x ∷ y ∷ bytes) = λ more is. cc is

-- no signal is an Ask
abbrev NoAsk : List HostSignal → Type 0
NoAsk xs = AllByRecursion (λ s. s ≢ Ask) xs

no_ask_bytes : (bytes : List ℕ) (tail : List HostSignal) → NoAsk tail → NoAsk (map Byte bytes ++ tail)
no_ask_bytes [] tail none = none
no_ask_bytes (b ∷ bytes) tail none = ((λ is. cc is), no_ask_bytes bytes tail none)

-- legs have none
no_ask_legs : (legs : List (List ℕ)) → NoAsk (flat_map leg_signals legs)
no_ask_legs [] = tt
no_ask_legs (leg ∷ legs) = ((λ is. cc is), no_ask_bytes leg (flat_map leg_signals legs) (no_ask_legs legs))

-- An Ask is after signals without one.
pub record AskBehind (front xs tail behind : List HostSignal) : Type 0 where
  -- the Asks and ACKs after the front
  pub asked : List HostSignal
  pub front_is : xs ≡ front ++ asked
  pub tail_is : tail ≡ asked ++ Ask ∷ behind

ask_behind : (front xs tail behind : List HostSignal) → NoAsk front → front ++ tail ≡ xs ++ Ask ∷ behind
    → AskBehind front xs tail behind
ask_behind [] xs tail behind none is = record { asked = xs; front_is = refl; tail_is = is }
ask_behind (signal ∷ front) [] tail behind none is = absurd (none.0 (cc is))
ask_behind (signal ∷ front) (x ∷ xs) tail behind none is =
    let rest : front ++ tail ≡ xs ++ Ask ∷ behind = cc is in
    let here : x ≡ signal = cc is in
    let more = ask_behind front xs tail behind none.1 rest in
    let front_is : xs ≡ front ++ more.asked = more.front_is in
    record { asked = more.asked; front_is = cc; tail_is = more.tail_is }

pub ask_behind_legs : (legs : List (List ℕ)) (xs tail behind : List HostSignal) → flat_map leg_signals legs ++ tail ≡ xs
    ++ Ask ∷ behind
    → AskBehind (flat_map leg_signals legs) xs tail behind
ask_behind_legs legs xs tail behind is = ask_behind (flat_map leg_signals legs) xs tail behind (no_ask_legs legs) is

-- Of some bytes fewer were asked for.
pub record AskedOf (bytes : List ℕ) (asked : List HostSignal) : Type 0 where
  -- how many bytes were asked for before
  pub count : ℕ
  pub asked_are : asked ≡ asks count
  pub fewer : count < length bytes

no_signal : (front : List HostSignal) (signal : HostSignal) (back : List HostSignal) → [] ≡ front ++ signal ∷ back → ⊥
no_signal [] signal back is = cc is
no_signal (x ∷ front) signal back is = cc is

pub asked_of : (bytes : List ℕ) (asked behind : List HostSignal) → reading_signals bytes ++ Stop ∷ [] ≡ asked ++ Ask
    ∷ behind → AskedOf bytes asked
asked_of [] [] behind is = absurd (cc is)
asked_of [] (x ∷ asked) behind is =
    let rest : [] ≡ asked ++ Ask ∷ behind = cc is in
    absurd (no_signal asked Ask behind rest)
asked_of (b ∷ []) [] behind is = record { count = 0; asked_are = refl; fewer = omega arith }
asked_of (b ∷ []) (x ∷ []) behind is = absurd (cc is)
asked_of (b ∷ []) (x ∷ y ∷ []) behind is = absurd (cc is)
asked_of (b ∷ []) (x ∷ y ∷ z ∷ asked) behind is =
    let rest : [] ≡ asked ++ Ask ∷ behind = cc is in
    absurd (no_signal asked Ask behind rest)
asked_of (b ∷ c ∷ bytes) [] behind is = record { count = 0; asked_are = refl; fewer = omega arith }
asked_of (b ∷ c ∷ bytes) (x ∷ []) behind is = absurd (cc is)
asked_of (b ∷ c ∷ bytes) (x ∷ y ∷ asked) behind is =
    let rest : reading_signals (c ∷ bytes) ++ Stop ∷ [] ≡ asked ++ Ask ∷ behind = cc is in
    let first : x ≡ Ask = cc is in
    let second : y ≡ Ack = cc is in
    let more = asked_of (c ∷ bytes) asked behind rest in
    let asked_are : asked ≡ asks more.count = more.asked_are in
    record { count = suc more.count; asked_are = cc; fewer = omega (arith, more.fewer) }

-- where nothing is read, nothing is asked for
pub nothing_asked : (asked behind : List HostSignal) → Stop ∷ [] ≡ asked ++ Ask ∷ behind → ⊥
nothing_asked [] behind is = cc is
nothing_asked (x ∷ asked) behind is =
    let rest : [] ≡ asked ++ Ask ∷ behind = cc is in
    no_signal asked Ask behind rest
