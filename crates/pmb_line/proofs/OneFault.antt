-- A line has one first fault at most, and none where it parses. For the laws `one_line_fault` and
-- `no_parse_with_a_fault`. OneWordsFault says it of lines of any kind, from what is meant by room
-- for words; here it is shown of room in a transaction's line, and of the faults of a whole line
-- (cut short, invalid).
use Rattle.std.proofs.Common.{◌≡◌, ◌≢◌, ℕ, Some, List, [], ◌∷◌, ◌++◌, map, refl, sym, ap, subst, inl, inr, ◌∙◌}
use Rattle.std.proofs.lemmas.List.{map-append}
use Rattle.pmb_command.specs.Bus.{IsBus}
use Rattle.pmb_command.specs.Parts.{DeviceParts}
use Rattle.pmb_transaction.specs.Transaction.{TransactionData}
use Rattle.pmb_transaction.specs.Transaction as says
use Rattle.pmb_writer.specs.declared.invalid.Invalid.{Invalid}
use Rattle.pmb_writer.specs.Invalid.{IsFirstFault, transaction_rules}
use Rattle.pmb_line.specs.declared.line_fault.LineFault.{LineFault}
use Rattle.pmb_line.specs.declared.line_fault.LineFault.TheVariants as fault
use Rattle.pmb_line.specs.Token.{token_of}
use Rattle.pmb_line.specs.Words.{Word, texts, line_words}
use Rattle.pmb_line.specs.Spelling.{SpellsTransaction, tokens}
use Rattle.pmb_line.specs.Fault.{BeginsLine, HasRoom, goes_on, plus, IsCutShort, IsWithin}
use Rattle.pmb_line.specs.LineFault.{IsInvalid, IsLineFault, Parses, word_fault}
use Rattle.pmb_line.specs.machine.Reading.{Partial, nothing, write_next, run, Room}
use Rattle.pmb_line.proofs.Partials.{append-nil}
use Rattle.pmb_line.proofs.Steps.{ran}
use Rattle.pmb_line.proofs.Faults.{begins, fits, has_room, passed, ran_plus}
use Rattle.pmb_line.proofs.OneWordsFault.{IsOfWhole, IsRoom, Kind, blank, stop, whole, bad, long, no_stop_fault}
use Rattle.pmb_line.proofs.OneWordsFault.{one_fault}
use Rattle.pmb_line.proofs.PacketsWithin.{BodiesAreShort, packet_within}
use Rattle.pmb_line.proofs.Uniqueness.{one_transaction}
use Rattle.pmb_writer.proofs.Packets.{packet_keeps}
use Rattle.pmb_writer.proofs.Rules.{not_both, one_broken}

-- ---- room

-- Where a reader stands after words for which there is room.
record Roomy (front : List (List ℕ)) : Type 0 where
  mid : Partial
  ran_front : run (Some nothing) (map token_of front) ≡ Some mid
  room : Room mid

roomy : (front : List (List ℕ)) → HasRoom front → Roomy front
roomy front (goes_on more t spells within) = let f = fits front more t spells in
    record { mid = f.mid; ran_front = f.ran; room = f.room within }
roomy front (plus before last ps split last_is spells within) = record {
  mid = write_next ps;
  ran_front = ap (λ ws. run (Some nothing) (map token_of ws)) split ∙ ran_plus before last ps last_is spells;
  room = within;
}

-- where there is room, some line goes on
begun : (front : List (List ℕ)) → HasRoom front → BeginsLine front
begun front room = let r = roomy front room in begins front r.mid r.ran_front

-- and there was room before
room_before : (front back : List (List ℕ)) → HasRoom (front ++ back) → HasRoom front
room_before front back room =
    let r = roomy (front ++ back) room in
    let whole : run (Some nothing) (map token_of front ++ map token_of back) ≡ Some r.mid =
    ap (run (Some nothing)) (sym (map-append token_of front back)) ∙ r.ran_front in
    let part = passed (map token_of front) (map token_of back) r.mid whole in
    has_room front part.mid part.ran ((ran part.mid (map token_of back) r.mid part.then).had_room r.room)

is_room : IsRoom BeginsLine HasRoom
is_room = record { begun = begun; room_before = room_before }

-- ---- the faults, in three kinds

-- A fault of a line as a whole.
data WholeFault (profile : List DeviceParts) (line : List ℕ) (f : LineFault) : Type 0 where
  short : (at : ℕ) → f ≡ fault.BadWord at → IsCutShort line at → WholeFault profile line f
  invalid : (why : Invalid) → f ≡ fault.Invalid why → IsInvalid profile line why → WholeFault profile line f

abbrev KindOfLine : List DeviceParts → List ℕ → LineFault → Type 0
KindOfLine profile line f = Kind BeginsLine HasRoom word_fault (WholeFault profile line) line f

kind : (profile : List DeviceParts) (line : List ℕ) (f : LineFault) → IsLineFault profile line f
    → KindOfLine profile line f
kind profile line fault.Blank is = blank refl is
kind profile line (fault.BadWord at) (inl is) = stop (bad at refl is)
kind profile line (fault.BadWord at) (inr is) = whole (short at refl is)
kind profile line (fault.TooLong at) is = stop (long at refl is)
kind profile line (fault.Invalid why) is = whole (invalid why refl is)

some_tokens : (t : TransactionData) → [] ≡ map Some (tokens t) → ⊥
some_tokens (says.Write ps) is = cc is
some_tokens (says.Read t) is = cc is
some_tokens (says.Call t) is = cc is
some_tokens (says.Refused t) is = cc is
some_tokens (says.Alert t) is = cc is
some_tokens says.NoAlert is = cc is

spelled_some : (ws : List Word) (t : TransactionData) → SpellsTransaction (texts ws) t → ws ≢ []
spelled_some [] t spells none = some_tokens t spells.says
spelled_some (w ∷ ws) t spells none = cc none

whole_has_words : (profile : List DeviceParts) (line : List ℕ) (f : LineFault) → WholeFault profile line f
    → line_words line ≢ []
whole_has_words profile line f (short at is cut) = cut.some
whole_has_words profile line f (invalid why is of) = spelled_some (line_words line) of.t of.spells

room_for : (line : List ℕ) (t : TransactionData) → SpellsTransaction (texts (line_words line)) t → IsWithin t
    → HasRoom (texts (line_words line))
room_for line t spells within = goes_on [] t
    (subst (λ ws. SpellsTransaction ws t) (sym (append-nil (texts (line_words line)))) spells) within

whole_has_room : (profile : List DeviceParts) (line : List ℕ) (f : LineFault) → WholeFault profile line f
    → HasRoom (texts (line_words line))
whole_has_room profile line f (short at is cut) = cut.room
whole_has_room profile line f (invalid why is of) = room_for line of.t of.spells of.within

-- ---- one fault

one_whole_fault : (profile : List DeviceParts) (line : List ℕ) (a b : LineFault) → WholeFault profile line a
    → WholeFault profile line b → a ≡ b
one_whole_fault profile line a b (short at is one) (short place fault_is other) = is
    ∙ ap fault.BadWord (one.place ∙ sym other.place) ∙ sym fault_is
one_whole_fault profile line a b (short at is one) (invalid why fault_is other) =
    absurd (one.unfinished other.t other.spells)
one_whole_fault profile line a b (invalid why is one) (short place fault_is other) =
    absurd (other.unfinished one.t one.spells)
one_whole_fault profile line a b (invalid why is one) (invalid reason fault_is other) =
    let t_is = one_transaction (texts (line_words line)) other.t one.t other.spells one.spells in
    is ∙ ap fault.Invalid (one_broken (transaction_rules profile one.t) why reason one.first
    (subst (λ t. IsFirstFault profile t reason) t_is other.first)) ∙ sym fault_is

of_whole : (profile : List DeviceParts) (line : List ℕ) → IsOfWhole HasRoom (WholeFault profile line) line
of_whole profile line = record {
  has_words = whole_has_words profile line;
  has_room = whole_has_room profile line;
  one =
      one_whole_fault profile line;
}

pub one_line_fault : (profile : List DeviceParts) (line : List ℕ) (a b : LineFault) → IsLineFault profile line a
    → IsLineFault profile line b → a ≡ b
one_line_fault profile line a b one other =
    one_fault BeginsLine HasRoom is_room word_fault (WholeFault profile line) line (of_whole profile line) a b
    (kind profile line a one) (kind profile line b other)

-- ---- no fault where a line parses

no_parse : BodiesAreShort → (profile : List DeviceParts) (line : List ℕ) (f : LineFault) (t : TransactionData)
    → IsBus profile → KindOfLine profile line f → Parses profile line t → ⊥
no_parse bodies profile line f t bus (blank is none) parses = spelled_some (line_words line) t parses.spells none
no_parse bodies profile line f t bus (stop one) parses =
    no_stop_fault BeginsLine HasRoom is_room line word_fault f one
    (room_for line t parses.spells (packet_within bodies profile t parses.packet.0 parses.packet.1))
no_parse bodies profile line f t bus (whole (short at is cut)) parses = cut.unfinished t parses.spells
no_parse bodies profile line f t bus (whole (invalid why is of)) parses =
    let t_is = one_transaction (texts (line_words line)) of.t t of.spells parses.spells in
    not_both (transaction_rules profile t) why (packet_keeps profile t bus.devices parses.packet)
    (subst (λ u. IsFirstFault profile u why) t_is of.first)

pub no_parse_with_a_fault : BodiesAreShort
    → (profile : List DeviceParts) (line : List ℕ) (f : LineFault) (t : TransactionData) → IsBus profile
    → IsLineFault profile line f → Parses profile line t → ⊥
no_parse_with_a_fault bodies profile line f t bus is parses = no_parse bodies profile line f t bus
    (kind profile line f is) parses
