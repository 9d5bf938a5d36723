-- Whether the bytes of a reply are all, and the signals with which they are read. For
-- `Host::take`, `Host::ask` and the other steps of a host. As many bytes as the form says, or as
-- the count of a Block says, are all (`are_all`); of fewer the missing ones can be put in as
-- zeros, so that one more is to be read (`to_be_read`).
use Rattle.std.proofs.Common.{◌≡◌, ℕ, ◌+◌, ◌-◌, ◌<◌, ◌≤◌, Bool, if◌then◌else◌, List, [], ◌∷◌, ◌++◌, length, replicate}
use Rattle.std.proofs.Common.{take, drop, refl, sym, ap, ◌∙◌, arith, length-append, zero, suc}
use Rattle.std.proofs.lemmas.List.{length-replicate, length-take-le, take-append-drop}
use Rattle.pmb_command.specs.declared.form.Form.{Form}
use Rattle.pmb_command.specs.declared.form.Form.TheVariants.{Zero, One, Two, Four, Eight, Block}
use Rattle.pmb_command.specs.Wire.{AreByteValues, Fits, wire, wire_length}
use Rattle.pmb_device.specs.declared.signal.HostSignal.{HostSignal}
use Rattle.pmb_device.specs.declared.signal.HostSignal.TheVariants.{Ask, Ack, Nack}
use Rattle.pmb_host.specs.Signals.{AreAll, reading_signals}
use Rattle.pmb_host.specs.machine.Standing.{acked_asks}

pub small_both : (xs ys : List ℕ) → AreByteValues xs → AreByteValues ys → AreByteValues (xs ++ ys)
small_both [] ys all more = more
small_both (x ∷ xs) ys all more = (all.0, small_both xs ys all.1 more)

small_take : (n : ℕ) (xs : List ℕ) → AreByteValues xs → AreByteValues (take n xs)
small_take zero xs all = tt
small_take (suc n) [] all = tt
small_take (suc n) (x ∷ xs) all = (all.0, small_take n xs all.1)

zeros_small : (n : ℕ) → AreByteValues (replicate n 0)
zeros_small zero = tt
zeros_small (suc n) = (omega arith, zeros_small n)

length_drop : (n m : ℕ) (xs : List ℕ) → length xs ≡ n + m → length (drop n xs) ≡ m
length_drop zero m xs is = omega (arith, is)
length_drop (suc n) m [] is = absurd (omega (arith, is))
length_drop (suc n) m (x ∷ xs) is = length_drop n m xs (omega (arith, is))

-- one more byte where there is a packet error code
abbrev pub code_length : Bool → ℕ
code_length with_pec = if with_pec then 1 else 0

-- ---- bytes that are as many as the first ones say are all

at_least : (n m k : ℕ) → k ≡ n + m → n ≤ k
at_least n m k is = omega (arith, is)

all_of : (n : ℕ) (form : Form) (with_pec : Bool) (full : List ℕ) → AreByteValues full
    → length full ≡ n + code_length with_pec
    → ((reply : List ℕ) → AreByteValues reply → length reply ≡ n → Fits form reply)
    → ((reply : List ℕ) → wire form reply ≡ reply) → AreAll form with_pec full
all_of n form with_pec full small many fits plain =
    let front = length-take-le n full (at_least n (code_length with_pec) (length full) many) in record {
      reply = take n full;
      code = drop n full;
      fits = fits (take n full) (small_take n full small) front;
      one = length_drop n (code_length with_pec) full many;
      spelled = sym (take-append-drop n full) ∙ ap (λ (bs : List ℕ). bs ++ drop n full) (sym (plain (take n full)));
    }

pub are_all : (form : Form) (with_pec : Bool) (full : List ℕ) → AreByteValues full
    → length full ≡ wire_length form full + code_length with_pec → AreAll form with_pec full
-- the five forms of a fixed length
are_all Zero with_pec full small many = all_of 0 Zero with_pec full small many
    (λ reply small many. record { small = small; taken = many }) (λ reply. refl)
are_all One with_pec full small many = all_of 1 One with_pec full small many
    (λ reply small many. record { small = small; taken = many }) (λ reply. refl)
are_all Two with_pec full small many = all_of 2 Two with_pec full small many
    (λ reply small many. record { small = small; taken = many }) (λ reply. refl)
are_all Four with_pec full small many = all_of 4 Four with_pec full small many
    (λ reply small many. record { small = small; taken = many }) (λ reply. refl)
are_all Eight with_pec full small many = all_of 8 Eight with_pec full small many
    (λ reply small many. record { small = small; taken = many }) (λ reply. refl)
-- a Block: its first byte says how many follow
are_all Block with_pec [] small many = absurd (omega (arith, many))
are_all Block with_pec (count ∷ bytes) small many =
    let enough : length bytes ≡ count + code_length with_pec = omega (arith, many) in
    let front = length-take-le count bytes (at_least count (code_length with_pec) (length bytes) enough) in record {
      reply = take count bytes;
      code = drop count bytes;
      fits = record { small = small_take count bytes small.1; taken = omega (arith, front, small.0) };
      one = length_drop count (code_length with_pec) bytes enough;
      spelled = ap (λ (bs : List ℕ). count ∷ bs) (sym (take-append-drop count bytes))
          ∙ ap (λ (c : ℕ). c ∷ (take count bytes ++ drop count bytes)) (sym front);
    }

-- ---- more that would be all

-- zeros after them change nothing in their number
same_length : (form : Form) (bytes : List ℕ) (n : ℕ) → wire_length form (bytes ++ replicate n 0)
    ≡ wire_length form bytes
same_length Zero bytes n = refl
same_length One bytes n = refl
same_length Two bytes n = refl
same_length Four bytes n = refl
same_length Eight bytes n = refl
same_length Block [] zero = refl
same_length Block [] (suc n) = refl
same_length Block (count ∷ bytes) n = refl

-- so many are missing
missing : (m n : ℕ) → m < n → (k : ℕ) × (n ≡ m + suc k)
missing m n less = (n - suc m, omega (arith, less))

pub to_be_read : (form : Form) (with_pec : Bool) (bytes : List ℕ) → AreByteValues bytes
    → length bytes < wire_length form bytes + code_length with_pec
    → (byte : ℕ) × (rest : List ℕ) × AreAll form with_pec (bytes ++ byte ∷ rest)
to_be_read form with_pec bytes small less =
    let m = missing (length bytes) (wire_length form bytes + code_length with_pec) less in
    let long = length-append bytes (replicate (suc m.0) 0) in
    let zeros = length-replicate (suc m.0) 0 in
    let same = same_length form bytes (suc m.0) in (
      0,
      replicate m.0 0,
      are_all form with_pec (bytes ++ replicate (suc m.0) 0) (small_both bytes _ small (zeros_small (suc m.0)))
          (long ∙ ap (λ (n : ℕ). length bytes + n) zeros ∙ sym m.1 ∙ ap (λ (n : ℕ). n + code_length with_pec)
          (sym same)),
    )

-- ---- the signals

pub reading_behind : (bytes : List ℕ) (byte : ℕ) (rest : List ℕ)
    → (tail : List HostSignal) × (reading_signals (bytes ++ byte ∷ rest) ≡ acked_asks bytes ++ Ask ∷ tail)
reading_behind [] byte [] = (Nack ∷ [], refl)
reading_behind [] byte (c ∷ rest) = (Ack ∷ reading_signals (c ∷ rest), refl)
reading_behind (b ∷ []) byte rest =
    let more = reading_behind [] byte rest in
    (more.0, ap (λ (xs : List HostSignal). Ask ∷ Ack ∷ xs) more.1)
reading_behind (b ∷ c ∷ bytes) byte rest =
    let more = reading_behind (c ∷ bytes) byte rest in
    (more.0, ap (λ (xs : List HostSignal). Ask ∷ Ack ∷ xs) more.1)
