-- Each line spells a transaction that isn't too large, or has a first fault; and under a profile
-- such a transaction has a packet, or a first fault. For the law `parse_or_fault`, and for requests
-- in `pmb_request`. The reader is followed word by word: whether a word fits, and whether there is
-- room for it, is decided.
use Rattle.std.proofs.Common.{◌≡◌, ◌≢◌, ℕ, ◌+◌, ◌<◌, ◌≤◌, ◌⊎◌, Bool, true, false, Option, Some, None, IfSome, List, []}
use Rattle.std.proofs.Common.{◌∷◌, ◌++◌, map, length, refl, inl, inr, ◌∙◌, subst, append-nil, arith}
use Rattle.std.specs.Prelude.{codes, if◌then◌else◌}
use Rattle.std.specs.Str.{bytes_eq}
use Rattle.std.specs.List.{AllByRecursion, flat_map}
use Rattle.hex.specs.Hex.{hex_digit_value}
use Rattle.pmb_command.specs.Parts.{DeviceParts}
use Rattle.pmb_command.specs.Wire.{AreByteValues}
use Rattle.pmb_transaction.specs.Transaction.{PartData, TransactionData}
use Rattle.pmb_transaction.specs.Transaction as says
use Rattle.pmb_writer.specs.declared.invalid.Invalid.{Invalid}
use Rattle.pmb_writer.specs.Invalid.{HasPacket, IsFirstFault}
use Rattle.pmb_writer.specs.Typed.{IsTyped}
use Rattle.pmb_writer.proofs.Decisions.{IsDecided, both, decided_by, is_at_most}
use Rattle.pmb_line.specs.declared.line_fault.LineFault.{LineFault}
use Rattle.pmb_line.specs.declared.line_fault.LineFault.TheVariants as line_fault
use Rattle.pmb_line.specs.declared.token.Token.{Token}
use Rattle.pmb_line.specs.declared.token.Token.TheVariants.{Byte, Write, Read, Call, Refused, Alert, Nobody, Pec, Plus}
use Rattle.pmb_line.specs.declared.token.Token.TheVariants.{Colon}
use Rattle.pmb_line.specs.declared.word_fault.WordFault.{WordFault}
use Rattle.pmb_line.specs.declared.word_fault.WordFault.TheVariants.{Blank, BadWord, TooLong}
use Rattle.pmb_line.specs.declared.words.Located.{Located}
use Rattle.pmb_line.specs.Fault.{ArePartsWithin, IsCallWithin, IsFault, IsPartWithin, IsRefusedWithin, IsWithin}
use Rattle.pmb_line.specs.LineFault.{IsLineFault, Parses, word_fault}
use Rattle.pmb_line.specs.Spelling.{SpellsTransaction, bytes, mark, part_before, tokens}
use Rattle.pmb_line.specs.Token.{byte_of, byte_of_digits, keyword_of, or_keyword, token_of}
use Rattle.pmb_line.specs.Words.{line_words, texts, without_cr}
use Rattle.pmb_line.specs.machine.Reading.{HasRoomForPart, IsWordFaultOf, LineStandsAt, Partial, Room, SaysTransaction}
use Rattle.pmb_line.specs.machine.Reading.{nothing, write_next, write_code, write_data, write_pec, read_next, read_code}
use Rattle.pmb_line.specs.machine.Reading.{read_colon, read_reply, read_pec, call_next, call_code, call_data}
use Rattle.pmb_line.specs.machine.Reading.{call_reply, call_pec, refused_next, refused_sent, refused_pec, refused_read}
use Rattle.pmb_line.specs.machine.Reading.{alert_next, alert_byte, alert_pec, alert_none, finish, located, run, step}
use Rattle.pmb_line.specs.machine.Reading.{tokens_said}
use Rattle.pmb_line.proofs.Digits.{digit_value_small}
use Rattle.pmb_line.proofs.Faults.{fault_of, spelling, within}
use Rattle.pmb_line.proofs.Firsts.{begin}
use Rattle.pmb_line.proofs.Lines.{IsSmall}
use Rattle.pmb_line.proofs.Standing.{next}
use Rattle.pmb_line.proofs.Steps.{cases, ran}
use Rattle.pmb_line.proofs.NamedFault.{told}

-- ---- room

each_within : (ps : List PartData) → IsDecided (AllByRecursion IsPartWithin ps)
each_within [] = inl tt
each_within (p ∷ ps) = both (is_at_most (length p.bytes) 255) (each_within ps)

parts_within : (most : ℕ) (ps : List PartData) → IsDecided (ArePartsWithin most ps)
parts_within most ps =
    decided_by (λ (has : (length ps ≤ most) × AllByRecursion IsPartWithin ps). record { few = has.0; each = has.1 })
    (λ has. (has.few, has.each))
    (both (is_at_most (length ps) most) (each_within ps))

for_part : (most : ℕ) (ps : List PartData) (bs : List ℕ) → IsDecided (HasRoomForPart most ps bs)
for_part most ps bs =
    decided_by (λ (has : (length ps + 1 ≤ most) × (AllByRecursion IsPartWithin ps × (length bs ≤ 255))). record
    { few = has.0; each = has.1.0; few_bytes = has.1.1 })
    (λ has. (has.few, (has.each, has.few_bytes)))
    (both (is_at_most (length ps + 1) most) (both (each_within ps) (is_at_most (length bs) 255)))

call_within : (bs rs : List ℕ) → IsDecided (IsCallWithin bs rs)
call_within bs rs =
    decided_by (λ (has : (length bs ≤ 255) × (length rs ≤ 255)). record { few_sent = has.0; few_replied = has.1 })
    (λ has. (has.few_sent, has.few_replied))
    (both (is_at_most (length bs) 255) (is_at_most (length rs) 255))

refused_within : (ps : List PartData) (bs : List ℕ) → IsDecided (IsRefusedWithin ps bs)
refused_within ps bs =
    -- 15: the parts before a refused leg at most; 258: the bytes of a body at most
    decided_by (λ (has : ArePartsWithin 15 ps × (length bs ≤ 258)). record { few_parts = has.0; few_sent = has.1 })
    (λ has. (has.few_parts, has.few_sent))
    (both (parts_within 15 ps) (is_at_most (length bs) 258))

room_or_not : (s : Partial) → IsDecided (Room s)
room_or_not nothing = inl tt
room_or_not (write_next ps) = parts_within 16 ps
room_or_not (write_code ps a) = for_part 16 ps []
room_or_not (write_data ps a c bs) = for_part 16 ps bs
room_or_not (write_pec ps a c bs) = for_part 16 ps bs
room_or_not read_next = inl tt
room_or_not (read_code a) = inl tt
room_or_not (read_colon a c) = inl tt
room_or_not (read_reply a c bs) = is_at_most (length bs) 255
room_or_not (read_pec a c bs) = is_at_most (length bs) 255
room_or_not call_next = inl tt
room_or_not (call_code a) = inl tt
room_or_not (call_data a c bs) = call_within bs []
room_or_not (call_reply a c bs rs) = call_within bs rs
room_or_not (call_pec a c bs rs) = call_within bs rs
room_or_not (refused_next ps) = parts_within 15 ps
room_or_not (refused_sent ps a bs) = refused_within ps bs
room_or_not (refused_pec ps a c bs) = for_part 15 ps bs
room_or_not (refused_read ps a bs) = refused_within ps bs
room_or_not alert_next = inl tt
room_or_not (alert_byte b) = inl tt
room_or_not (alert_pec b) = inl tt
room_or_not alert_none = inl tt

-- ---- words

-- words say a transaction, or have a first fault
abbrev IsRead : List Located → ℕ → Type 0
IsRead all end = ((t : TransactionData) × SaysTransaction all t) ⊎ ((fault : WordFault) × IsWordFaultOf all end fault)

-- only no words say nothing
nothing_said : (before : List Located) → run (Some nothing) (tokens_said before) ≡ Some nothing → before ≡ []
nothing_said [] is = refl
nothing_said (word ∷ before) is =
    let said : word.token ∷ tokens_said before ≡ [] = (ran nothing (word.token ∷ tokens_said before) nothing is).adds in
    cc said

begun_or_not : (s : Partial) → (s ≡ nothing) ⊎ (nothing ≢ s)
begun_or_not nothing = inl refl
begun_or_not _ = inr (λ is. cc is)

at_end : (all : List Located) (end : ℕ) (s : Partial) → LineStandsAt all s [] → IsRead all end
at_end all end s stands =
    elim (cases (finish s)) [
      | inr finished ↦ inl (finished.0, record { s = s; stands = stands; finished = finished.1 })
      | inl unfinished ↦
          elim (begun_or_not s) [
            | inr begun ↦ inr (
              BadWord end,
              inr (record {
                s = s;
                stands = stands;
                begun = begun;
                unfinished =
                    unfinished;
                place_is = refl;
              }),
            )
            | inl is ↦ inr (
              Blank,
              stands.split ∙ append-nil stands.before
                  ∙ nothing_said stands.before (subst (λ x. run (Some nothing) (tokens_said stands.before) ≡ Some x) is
                  stands.ran),
            )
          ]
    ]

reads_on : (all : List Located) (end : ℕ) (s : Partial) (left : List Located) → LineStandsAt all s left → IsRead all end
-- all words were taken
reads_on all end s [] stands = at_end all end s stands
reads_on all end s (word ∷ left) stands =
    elim (cases (step s word.token)) [
      -- the next word doesn't fit
      | inl unfit ↦ inr (
        BadWord word.at,
        inl (record {
          s = s;
          word = word;
          left = left;
          stands = stands;
          unfit =
              unfit;
          place_is = refl;
        }),
      )
      | inr found ↦
          elim (room_or_not found.0) [
            -- it fits, and there is room: the rest is read from there
            | inl room ↦ reads_on all end found.0 left (next all s found.0 word left stands found.1 room)
            -- it fits, and there is no room
            | inr full ↦ inr (
              TooLong word.at,
              record {
                s = s;
                word = word;
                left = left;
                after = found.0;
                stands =
                    stands;
                fits = found.1;
                full = full;
                place_is = refl;
              },
            )
          ]
    ]

-- what a line spells, that is not too large
abbrev pub Spelled : List ℕ → Type 0
Spelled line = (t : TransactionData) × SpellsTransaction (texts (line_words line)) t × IsWithin t

pub spelled_or_fault : (line : List ℕ) → Spelled line ⊎ ((fault : WordFault) × IsFault line fault)
spelled_or_fault line =
    let all = map located (line_words line) in
    elim (reads_on all (length (without_cr line)) nothing all (begin all)) [
      | inl says_so ↦ inl (says_so.0, spelling line says_so.0 says_so.1, within all says_so.0 says_so.1)
      | inr fault ↦ inr (fault.0, fault_of line fault.0 fault.1)
    ]

-- ---- the bytes that words say

-- Where there is a token that is a byte, it is below 256.
record MaybeSmall (o : Option Token) : Type 0 where
  small : IfSome o IsSmall

is_digit : (o : Option ℕ) → ((v : ℕ) → o ≡ Some v → v < 16) → IfSome o (λ v. v < 16)
is_digit None small = tt
is_digit (Some v) small = small v refl

digits_small : (high low : Option ℕ) → IfSome high (λ v. v < 16) → IfSome low (λ v. v < 16)
    → MaybeSmall (byte_of_digits high low)
digits_small (Some high) (Some low) first second = record { small = omega (arith, first, second) }
digits_small (Some high) None first second = record { small = tt }
digits_small None low first second = record { small = tt }

byte_small : (word : List ℕ) → MaybeSmall (byte_of word)
byte_small [] = record { small = tt }
byte_small (a ∷ []) = record { small = tt }
byte_small (high ∷ low ∷ []) =
    digits_small (hex_digit_value high) (hex_digit_value low) (is_digit (hex_digit_value high) (digit_value_small high))
    (is_digit (hex_digit_value low) (digit_value_small low))
byte_small (a ∷ b ∷ c ∷ more) = record { small = tt }

if_small : (is : Bool) (token : Token) (other : Option Token) → IsSmall token → MaybeSmall other
    → MaybeSmall (if is then Some token else other)
if_small true token other small rest = record { small = small }
if_small false token other small rest = rest

keyword_small : (word : List ℕ) → MaybeSmall (keyword_of word)
keyword_small word =
    if_small (bytes_eq word (codes "write")) Write _ tt
    (if_small (bytes_eq word (codes "read")) Read _ tt
    (if_small (bytes_eq word (codes "call")) Call _ tt
    (if_small (bytes_eq word (codes "refused")) Refused _ tt
    (if_small (bytes_eq word (codes "alert")) Alert _ tt
    (if_small (bytes_eq word (codes "none")) Nobody _ tt
    (if_small (bytes_eq word (codes "pec")) Pec _ tt
    (if_small (bytes_eq word (codes "+")) Plus _ tt
    (if_small (bytes_eq word (codes ":")) Colon None tt (record { small = tt })))))))))

either_small : (byte keyword : Option Token) → MaybeSmall byte → MaybeSmall keyword
    → MaybeSmall (or_keyword byte keyword)
either_small (Some byte) keyword first second = first
either_small None keyword first second = second

word_small : (word : List ℕ) (token : Token) → token_of word ≡ Some token → IsSmall token
word_small word token is =
    (subst MaybeSmall is (either_small (byte_of word) (keyword_of word) (byte_small word) (keyword_small word))).small

said_small : (words : List (List ℕ)) (said : List Token) → map token_of words ≡ map Some said
    → AllByRecursion IsSmall said
said_small words [] is = tt
said_small [] (token ∷ said) is = cc is
said_small (word ∷ words) (token ∷ said) is =
    let first : token_of word ≡ Some token = cc is in
    let rest : map token_of words ≡ map Some said = cc is in
    (word_small word token first, said_small words said rest)

front_small : (front back : List Token) → AllByRecursion IsSmall (front ++ back) → AllByRecursion IsSmall front
front_small [] back small = tt
front_small (token ∷ front) back small = (small.0, front_small front back small.1)

back_small : (front back : List Token) → AllByRecursion IsSmall (front ++ back) → AllByRecursion IsSmall back
back_small [] back small = small
back_small (token ∷ front) back small = back_small front back small.1

are_bytes : (bs : List ℕ) → AllByRecursion IsSmall (bytes bs) → AreByteValues bs
are_bytes [] small = tt
are_bytes (b ∷ bs) small = (small.0, are_bytes bs small.1)

-- what is spelled and not too large is one of the type's
typed : (t : TransactionData) → IsWithin t → AllByRecursion IsSmall (tokens t) → IsTyped t
typed (says.Write ps) fits small = fits.few
typed (says.Read t) fits small = tt
typed (says.Call t) fits small = tt
typed (says.Refused t) fits small =
    let spoken = front_small (flat_map part_before t.parts ++ Byte t.addr ∷ bytes t.sent)
    (mark Read t.at_read) small.1 in (
      fits.few_parts.few,
      are_bytes t.sent (back_small (flat_map part_before t.parts)
          (Byte t.addr ∷ bytes t.sent) spoken).1,
    )
typed (says.Alert t) fits small = small.1.0
typed says.NoAlert fits small = tt

-- ---- lines

pub parse_or_fault : (profile : List DeviceParts)
    → ((t : TransactionData) → IsTyped t → HasPacket profile t ⊎ ((fault : Invalid) × IsFirstFault profile t fault))
    → (line : List ℕ) → ((t : TransactionData) × Parses profile line t)
    ⊎ ((fault : LineFault) × IsLineFault profile line fault)
parse_or_fault profile packet_or_fault line =
    elim (spelled_or_fault line) [
      | inl spelled ↦
          elim (packet_or_fault spelled.0 (typed spelled.0 spelled.2
          (said_small (texts (line_words line)) (tokens spelled.0) spelled.1.says))) [
            | inl packet ↦ inl (spelled.0, record { spells = spelled.1; packet = packet })
            | inr first ↦ inr (
              line_fault.Invalid first.0,
              record { t = spelled.0; spells = spelled.1; within = spelled.2; first = first.1 },
            )
          ]
      | inr fault ↦ inr (word_fault fault.0, told profile line fault.0 fault.1)
    ]
