-- Two lists of events end to end that are two others: where they are cut (`Within`, `Beyond`). And
-- the fronts of the events of bytes that were taken or refused. For Beginnings, and so for the law
-- `viable_lists`; for readings of captures, here and in `pmb_spans`. Both go through the events
-- from the front.
use Rattle.std.proofs.Common.{◌≡◌, ℕ, ◌⊎◌, inl, inr, List, [], ◌∷◌, ◌++◌, refl, sym, ap, ◌∙◌}
use Rattle.std.proofs.lemmas.List.{append-nil}
use Rattle.pmb_bus.specs.declared.event.Event.{Event}
use Rattle.pmb_bus.specs.declared.event.Event.TheVariants.{Byte, Ack, Stop}
use Rattle.pmb_transaction.specs.Body.{IsProperPrefix}
use Rattle.pmb_transaction.specs.Packet.{acked, nacked}

-- ---- two lists end to end that are two others

-- The first of two lists ends within the first of two others.
pub record Within (a b c d : List Event) : Type 0 where
  -- what the first of the others has more, with which the second begins
  pub rest : List Event
  pub first : c ≡ a ++ rest
  pub second : b ≡ rest ++ d

-- The first of two lists goes on beyond the first of two others.
pub record Beyond (a b c d : List Event) : Type 0 where
  -- the first event beyond, and those after it
  pub event : Event
  pub rest : List Event
  pub first : a ≡ c ++ event ∷ rest
  pub second : d ≡ event ∷ rest ++ b

one_more : (e f : Event) (a b c d : List Event) → e ≡ f → Within a b c d ⊎ Beyond a b c d
    → Within (e ∷ a) b (f ∷ c) d ⊎ Beyond (e ∷ a) b (f ∷ c) d
one_more e f a b c d same (inl w) =
    let first : c ≡ a ++ w.rest = w.first in
    inl (record { rest = w.rest; first = cc (same, first); second = w.second })
one_more e f a b c d same (inr w) =
    let first : a ≡ c ++ w.event ∷ w.rest = w.first in
    inr (record { event = w.event; rest = w.rest; first = cc (same, first); second = w.second })

pub cut : (a b c d : List Event) → a ++ b ≡ c ++ d → Within a b c d ⊎ Beyond a b c d
cut [] b c d same = inl (record { rest = c; first = refl; second = same })
cut (e ∷ a) b [] d same = inr (record { event = e; rest = a; first = refl; second = sym same })
cut (e ∷ a) b (f ∷ c) d same =
    let first : e ≡ f = cc same in
    let rest : a ++ b ≡ c ++ d = cc same in
    one_more e f a b c d first (cut a b c d rest)

-- nothing has no events in front
pub no_front : (a b : List Event) → a ++ b ≡ [] → a ≡ []
no_front [] b none = refl
no_front (e ∷ a) b none = cc none

-- and none at its end
pub no_end : (a : List Event) (e : Event) (b : List Event) → a ++ e ∷ b ≡ [] → ⊥
no_end [] e b none = cc none
no_end (f ∷ a) e b none = cc none

-- events that begin others with a STOP after them: all of them, or all but STOP, or fewer
pub record Fewer (events all : List Event) : Type 0 where
  pub event : Event
  pub rest : List Event
  pub split : events ++ event ∷ rest ≡ all

before_all : (events all rest : List Event) → all ≡ events ++ rest → (events ≡ all) ⊎ Fewer events all
before_all events all [] split = inl (sym (append-nil events) ∙ sym split)
before_all events all (e ∷ rest) split = inr (record { event = e; rest = rest; split = sym split })

at_stop : (events more all : List Event) → Within events more all (Stop ∷ []) ⊎ Beyond events more all (Stop ∷ [])
    → (events ≡ all ++ Stop ∷ []) ⊎ ((events ≡ all) ⊎ Fewer events all)
at_stop events more all (inl w) = inr (before_all events all w.rest w.first)
at_stop events more all (inr w) =
    let none : w.rest ++ more ≡ [] = cc (w.second) in
    let last : w.rest ≡ [] = no_front w.rest more none in
    let stop : w.event ≡ Stop = cc (w.second) in
    let first : events ≡ all ++ w.event ∷ w.rest = w.first in
    inl (cc (first, stop, last))

pub up_to_stop : (events more all : List Event) → events ++ more ≡ all ++ Stop ∷ []
    → (events ≡ all ++ Stop ∷ []) ⊎ ((events ≡ all) ⊎ Fewer events all)
up_to_stop events more all same = at_stop events more all (cut events more all (Stop ∷ []) same)

-- ---- the beginnings of bytes that were taken

-- some bytes, each with its ACK
pub record SomeTaken (bytes : List ℕ) (events : List Event) : Type 0 where
  pub front : List ℕ
  pub rest : List ℕ
  pub split : bytes ≡ front ++ rest
  pub spelled : events ≡ acked front

-- some bytes but not all, each with its ACK
pub record NotAllTaken (bytes : List ℕ) (events : List Event) : Type 0 where
  pub front : List ℕ
  -- the bytes taken are not all
  pub fewer : IsProperPrefix front bytes
  pub spelled : events ≡ acked front

-- some bytes, each with its ACK, and one that is not answered
pub record OneSent (bytes : List ℕ) (events : List Event) : Type 0 where
  pub front : List ℕ
  pub byte : ℕ
  pub rest : List ℕ
  pub split : bytes ≡ front ++ byte ∷ rest
  pub spelled : events ≡ acked front ++ Byte byte ∷ []

sent_more : (b : ℕ) (bytes : List ℕ) (e f : Event) (events : List Event) → e ≡ Byte b → f ≡ Ack → OneSent bytes events
    → OneSent (b ∷ bytes) (e ∷ f ∷ events)
sent_more b bytes e f events is_byte is_ack w =
    let split : bytes ≡ w.front ++ w.byte ∷ w.rest = w.split in
    let spelled : events ≡ acked w.front ++ Byte w.byte ∷ [] = w.spelled in
    record {
      front = b ∷ w.front;
      byte = w.byte;
      rest = w.rest;
      split = ap (λ (bs : List ℕ). b ∷ bs) split;
      spelled = cc (is_byte, is_ack, spelled);
    }

acked_more : (b : ℕ) (bytes : List ℕ) (e f : Event) (events : List Event) → e ≡ Byte b → f ≡ Ack
    → SomeTaken bytes events ⊎ OneSent bytes events
    → SomeTaken (b ∷ bytes) (e ∷ f ∷ events) ⊎ OneSent (b ∷ bytes) (e ∷ f ∷ events)
acked_more b bytes e f events is_byte is_ack (inl w) =
    let split : bytes ≡ w.front ++ w.rest = w.split in
    let spelled : events ≡ acked w.front = w.spelled in
    inl
    (record {
      front = b ∷ w.front;
      rest = w.rest;
      split = ap (λ (bs : List ℕ). b ∷ bs) split;
      spelled =
          cc (is_byte, is_ack, spelled);
    })
acked_more b bytes e f events is_byte is_ack (inr w) = inr (sent_more b bytes e f events is_byte is_ack w)

pub front_of_acked : (bytes : List ℕ) (events more : List Event) → events ++ more ≡ acked bytes
    → SomeTaken bytes events ⊎ OneSent bytes events
front_of_acked [] [] more same = inl (record { front = []; rest = []; split = refl; spelled = refl })
front_of_acked [] (e ∷ events) more same = absurd (cc same)
front_of_acked (b ∷ bytes) [] more same = inl (record { front = []; rest = b ∷ bytes; split = refl; spelled = refl })
front_of_acked (b ∷ bytes) (e ∷ []) more same =
    let is_byte : e ≡ Byte b = cc same in
    inr (record { front = []; byte = b; rest = bytes; split = refl; spelled = ap (λ (x : Event). x ∷ []) is_byte })
front_of_acked (b ∷ bytes) (e ∷ f ∷ events) more same =
    let is_byte : e ≡ Byte b = cc same in
    let is_ack : f ≡ Ack = cc same in
    let rest : events ++ more ≡ acked bytes = cc same in
    acked_more b bytes e f events is_byte is_ack (front_of_acked bytes events more rest)

-- ---- the beginnings of bytes of which the last was refused

nacked_more : (b : ℕ) (bytes : List ℕ) (e f : Event) (events : List Event) → e ≡ Byte b → f ≡ Ack
    → NotAllTaken bytes events ⊎ OneSent bytes events
    → NotAllTaken (b ∷ bytes) (e ∷ f ∷ events) ⊎ OneSent (b ∷ bytes) (e ∷ f ∷ events)
nacked_more b bytes e f events is_byte is_ack (inl w) =
    let split : bytes ≡ w.front ++ w.fewer.next ∷ w.fewer.rest = w.fewer.split in
    let spelled : events ≡ acked w.front = w.spelled in
    inl
    (record {
      front = b ∷ w.front;
      fewer = record { next = w.fewer.next; rest = w.fewer.rest; split = ap (λ (bs : List ℕ). b ∷ bs) split };
      spelled = cc (is_byte, is_ack, spelled);
    })
nacked_more b bytes e f events is_byte is_ack (inr w) = inr (sent_more b bytes e f events is_byte is_ack w)

-- what begins them and is not all
pub front_of_nacked : (bytes : List ℕ) (events : List Event) (next : Event) (more : List Event)
    → events ++ next ∷ more ≡ nacked bytes
    → NotAllTaken bytes events ⊎ OneSent bytes events
front_of_nacked [] events next more same = absurd (no_end events next more same)
front_of_nacked (b ∷ bytes) [] next more same =
    inl (record { front = []; fewer = record { next = b; rest = bytes; split = refl }; spelled = refl })
front_of_nacked (b ∷ []) (e ∷ []) next more same =
    let is_byte : e ≡ Byte b = cc same in
    inr (record { front = []; byte = b; rest = []; split = refl; spelled = ap (λ (x : Event). x ∷ []) is_byte })
front_of_nacked (b ∷ []) (e ∷ f ∷ events) next more same =
    let none : events ++ next ∷ more ≡ [] = cc same in
    absurd (no_end events next more none)
front_of_nacked (b ∷ c ∷ bytes) (e ∷ []) next more same =
    let is_byte : e ≡ Byte b = cc same in
    inr (record { front = []; byte = b; rest = c ∷ bytes; split = refl; spelled = ap (λ (x : Event). x ∷ []) is_byte })
front_of_nacked (b ∷ c ∷ bytes) (e ∷ f ∷ events) next more same =
    let is_byte : e ≡ Byte b = cc same in
    let is_ack : f ≡ Ack = cc same in
    let rest : events ++ next ∷ more ≡ nacked (c ∷ bytes) = cc same in
    nacked_more b (c ∷ bytes) e f events is_byte is_ack (front_of_nacked (c ∷ bytes) events next more rest)
