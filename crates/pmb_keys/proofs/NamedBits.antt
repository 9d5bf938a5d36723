-- What the bits are that a table names: for `read_bits`. Each one that is added is the greatest so far, and
-- its name is new.
use Rattle.std.proofs.Common.{◌≡◌, ℕ, suc, ◌+◌, ◌<◌, ◌≤◌, Bool, true, false, not, ◌&&◌, cond, List, [], ◌∷◌, ◌++◌, length}
use Rattle.std.proofs.Common.{map, take, length-take, Bor, Option, Some, None, Result, Ok, Err, refl, sym, ap, ◌∙◌}
use Rattle.std.proofs.Common.{subst, arith}
use Rattle.std.specs.Prelude.{IfOk}
use Rattle.std.specs.List.{AllByRecursion, IsDistinct, list_all, list_any}
use Rattle.std.specs.Str.{bytes_eq}
use Rattle.std.proofs.lemmas.Cmp.{nat_list_eq_equiv}
use Rattle.std.proofs.lemmas.List.{length_push, map-append, take-map}
use Rattle.std.proofs.lemmas.Map.Keys.{IsDistinct-push}
use Rattle.toml.specs.Data.{Data, Members, as_str, as_table, get_member}
use Rattle.pmb_command.specs.declared.entry.Kind.{Kind}
use Rattle.pmb_command.specs.declared.entry.Kind.TheVariants.{Raw, Number, Vout, VoutSigned, Status, Text}
use Rattle.pmb_command.specs.declared.form.Form.TheVariants.{One}
use Rattle.pmb_command.specs.Bus.{AreAscending, AreBits, HaveOwnNames, IsBit}
use Rattle.pmb_command.specs.Entry.{EntryParts}
use Rattle.pmb_command.specs.Fitting.{bit_count, is_form, is_status_kind, value_form}
use Rattle.pmb_command.specs.Names.{is_name}
use Rattle.pmb_command.specs.Parts.{NamedBit}
use Rattle.pmb_keys.specs.declared.fault.FaultKind.{FaultKind}
use Rattle.pmb_keys.specs.declared.fault.FaultKind.TheVariants.{BadName, BadValue, UnknownKey}
use Rattle.pmb_keys.specs.FurtherKeys.{bit_keys, bits_from, bits_rule, with_bit}
use Rattle.pmb_keys.specs.Rules.{bind, decimals, keys_of, typed, unless}

-- a bit below a number, with a name
abbrev IsNamedBelow : ℕ → NamedBit → Type 0
IsNamedBelow n b = (b.bit < n) × (is_name b.name ≡ true)

-- such bits, ascending, no two of which have one name
record AreNamedBelow (n : ℕ) (bits : List NamedBit) : Type 0 where
  few : length bits ≤ n
  each : AllByRecursion (IsNamedBelow n) bits
  ascending : AreAscending 0 bits
  own_names : HaveOwnNames bits

none_named : (n : ℕ) → AreNamedBelow n []
unfolding IsDistinct
none_named n = record { few = omega arith; each = tt; ascending = tt; own_names = tt }

-- ---- one more bit

each_below : (n : ℕ) (bits : List NamedBit) → AllByRecursion (IsNamedBelow n) bits
    → AllByRecursion (IsNamedBelow (suc n)) bits
each_below n [] all = tt
each_below n (b ∷ bits) all =
    let below : b.bit < n = all.0.0 in
    ((omega arith, all.0.1), each_below n bits all.1)

each_push : (n : ℕ) (bits : List NamedBit) (b : NamedBit) → AllByRecursion (IsNamedBelow n) bits → IsNamedBelow n b
    → AllByRecursion (IsNamedBelow n) (bits ++ b ∷ [])
each_push n [] b all one = (one, tt)
each_push n (x ∷ bits) b all one = (all.0, each_push n bits b all.1 one)

ascending_push : (least n : ℕ) (bits : List NamedBit) (name : List ℕ) → least ≤ n
    → AllByRecursion (IsNamedBelow n) bits → AreAscending least bits
    → AreAscending least (bits ++ (record { bit = n; name = name }) ∷ [])
ascending_push least n [] name low all ascending = (low, tt)
ascending_push least n (x ∷ bits) name low all ascending =
    let below : x.bit < n = all.0.0 in
    let next : suc x.bit ≤ n = omega arith in
    (ascending.0, ascending_push (suc x.bit) n bits name next all.1 ascending.1)

-- without a value the bit has no name
unnamed : (n : ℕ) (before : List NamedBit) → AreNamedBelow n before → AreNamedBelow (suc n) before
unnamed n before are = record {
  few = omega (arith, are.few);
  each = each_below n before are.each;
  ascending = are.ascending;
  own_names = are.own_names;
}

-- with a new name
newly_named : (n : ℕ) (before : List NamedBit) (name : List ℕ) → AreNamedBelow n before → is_name name ≡ true
    → list_any (bytes_eq name) (map (λ b. b.name) before) ≡ false
    → AreNamedBelow (suc n) (before ++ (record { bit = n; name = name }) ∷ [])
newly_named n before name are is new =
    let b : NamedBit = record { bit = n; name = name } in
    let below : n < suc n = omega arith in
    record {
      few = omega (arith, are.few, length_push before b);
      each = each_push (suc n) before b (each_below n before are.each) (below, is);
      ascending = ascending_push 0 n before name (omega arith) are.each are.ascending;
      own_names = rw (map-append (λ (x : NamedBit). x.name) before (b ∷ []))
          (IsDistinct-push nat_list_eq_equiv (map (λ x. x.name) before) name are.own_names new);
    }

one_more : (n : ℕ) (before : List NamedBit) (value : Option Data) → AreNamedBelow n before
    → IfOk (with_bit n before value) (AreNamedBelow (suc n))
one_more n before None are = unnamed n before are
one_more n before (Some d) are = by (typed as_str d)
  where
    tested : (name : List ℕ) (named twice : Bool) → is_name name ≡ named
        → list_any (bytes_eq name) (map (λ b. b.name) before) ≡ twice
        → IfOk (bind (bind (unless BadName (named && not twice)) (λ _. Ok name))
        (λ name. Ok (before ++ (record { bit = n; name = name }) ∷ []))) (AreNamedBelow (suc n))
    tested name false twice is new = tt
    tested name true true is new = tt
    tested name true false is new = newly_named n before name are is new

    by : (r : Result (List ℕ) FaultKind)
        → IfOk (bind (bind r (λ name. bind (unless BadName (is_name name && not (list_any (bytes_eq name)
        (map (λ b. b.name) before)))) (λ _. Ok name)))
        (λ name. Ok (before ++ (record { bit = n; name = name }) ∷ []))) (AreNamedBelow (suc n))
    by (Err f) = tt
    by (Ok name) =
        tested name (is_name name) (list_any (bytes_eq name) (map (λ b. b.name) before)) refl refl

-- ---- all bits

all_named : (n : ℕ) (keys : List (List ℕ)) (before : List NamedBit) (ms : Members) → AreNamedBelow n before
    → IfOk (bits_from n keys before ms) (AreNamedBelow (n + length keys))
all_named n [] before ms are =
    let same : n ≡ n + 0 = omega arith in
    subst (λ k. AreNamedBelow k before) same are
all_named n (key ∷ keys) before ms are =
    by (with_bit n before (get_member key ms)) (one_more n before (get_member key ms) are)
    (λ bits more. all_named (suc n) keys bits ms more)
  where
    by : (r : Result (List NamedBit) FaultKind) → IfOk r (AreNamedBelow (suc n))
        → ((bits : List NamedBit) → AreNamedBelow (suc n) bits
        → IfOk (bits_from (suc n) keys bits ms) (AreNamedBelow (suc n + length keys)))
        → IfOk (bind r (λ bits. bits_from (suc n) keys bits ms)) (AreNamedBelow (n + suc (length keys)))
    by (Err f) is rest = tt
    by (Ok bits) is rest =
        let same : suc n + length keys ≡ n + suc (length keys) = omega arith in
        subst (λ k. IfOk (bits_from (suc n) keys bits ms) (AreNamedBelow k)) same (rest bits is)

-- the kind that the test takes
status_kind : (kind : Kind) → is_status_kind kind ≡ true → kind ≡ Status
status_kind Raw is = cc
status_kind (Number format) is = cc
status_kind Vout is = cc
status_kind VoutSigned is = cc
status_kind Status is = refl
status_kind Text is = cc

-- there is a key for each bit
key_count : (one : Bool) → length (take (cond one 8 16) decimals) ≡ cond one 8 16
key_count true = refl
key_count false = refl

at_most_16 : (one : Bool) → cond one 8 16 ≤ 16
at_most_16 true = omega arith
at_most_16 false = omega arith

each_bit : (e : EntryParts) (bits : List NamedBit) → e.kind ≡ Status
    → AllByRecursion (IsNamedBelow (bit_count (value_form e.shape))) bits → AllByRecursion (IsBit e) bits
each_bit e [] status all = tt
each_bit e (b ∷ bits) status all =
    (record { status = status; within = all.0.0; name = all.0.1 }, each_bit e bits status all.1)

bits_of_command : (e : EntryParts) (bits : List NamedBit) → e.kind ≡ Status
    → AreNamedBelow (0 + length (bit_keys e)) bits → AreBits e bits
bits_of_command e bits status are =
    let count : 0 + length (bit_keys e) ≡ bit_count (value_form e.shape) =
    omega (arith, key_count (is_form One (value_form e.shape))) in
    let each = subst (λ n. AllByRecursion (IsNamedBelow n) bits) count are.each in
    record {
      few = omega (arith, are.few, count, at_most_16 (is_form One (value_form e.shape)));
      each = each_bit e bits status each;
      ascending = are.ascending;
      own_names = are.own_names;
    }

-- what a value names are bits of the command
ruled_bits : (e : EntryParts) (d : Data) → IfOk (bits_rule e d) (AreBits e)
ruled_bits e d = by (typed as_table d)
  where
    read : (ms : Members) → is_status_kind e.kind ≡ true → (r : Result (List NamedBit) FaultKind)
        → IfOk r (AreNamedBelow (0 + length (bit_keys e))) → IfOk r (AreBits e)
    read ms status (Err f) is = tt
    read ms status (Ok bits) is = bits_of_command e bits (status_kind e.kind status) is

    tested : (ms : Members) (status known : Bool) → is_status_kind e.kind ≡ status
        → IfOk (bind (unless UnknownKey status) (λ _. bind (unless BadValue known)
        (λ _. bits_from 0 (bit_keys e) [] ms))) (AreBits e)
    tested ms false known is = tt
    tested ms true false is = tt
    tested ms true true is =
        read ms is (bits_from 0 (bit_keys e) [] ms) (all_named 0 (bit_keys e) [] ms (none_named 0))

    by : (r : Result Members FaultKind)
        → IfOk (bind r (λ ms. bind (unless UnknownKey (is_status_kind e.kind)) (λ _.
        bind (unless BadValue (list_all (λ key. list_any (bytes_eq key) (bit_keys e)) (keys_of ms))) (λ _.
        bits_from 0 (bit_keys e) [] ms)))) (AreBits e)
    by (Err f) = tt
    by (Ok ms) =
        tested ms (is_status_kind e.kind) (list_all (λ key. list_any (bytes_eq key) (bit_keys e)) (keys_of ms)) refl

-- no bits are bits of any command
pub no_bits : (e : EntryParts) → AreBits e []
unfolding IsDistinct
no_bits e = record { few = omega arith; each = tt; ascending = tt; own_names = tt }

-- and so are those of a table
pub named_bits : {X : Type 0} (e : EntryParts) (d : Data) (r : Result X FaultKind) (f : X → List NamedBit)
    → bind r (λ x. Ok (f x)) ≡ bits_rule e d → IfOk r (λ x. AreBits e (f x))
named_bits e d (Err fault) f is = tt
named_bits e d (Ok x) f is = subst (λ r. IfOk r (AreBits e)) (sym is) (ruled_bits e d)

-- ---- the keys of bits

-- the first keys are the first numbers in decimal
pub first_keys : (keys : List (Bor (List ℕ))) (n count : ℕ) → map (λ key. key.now) keys ≡ decimals → n ≡ count
    → map (λ key. key.now) (take n keys) ≡ take count decimals
first_keys keys n count all same =
    sym (take-map (λ (key : Bor (List ℕ)). key.now) n keys) ∙ ap (take n) all ∙ ap (λ k. take k decimals) same

pub few_keys : (keys : List (Bor (List ℕ))) (n : ℕ) → n ≤ 16 → length (take n keys) ≤ 16
few_keys keys n few = omega (arith, length-take n keys)

-- a key that is none of them is refused
pub refused_key : (e : EntryParts) (d : Data) (ms : Members) (keys : List (List ℕ)) → Ok ms ≡ typed as_table d
    → is_status_kind e.kind ≡ true → keys ≡ bit_keys e
    → list_all (λ key. list_any (bytes_eq key) keys) (keys_of ms) ≡ false → Err BadValue ≡ bits_rule e d
refused_key e d ms keys table status same other = rw (← table, status, ← same, other) refl

-- where there is none, each bit is read
pub bits_of_keys : (e : EntryParts) (d : Data) (ms : Members) (keys : List (List ℕ)) → Ok ms ≡ typed as_table d
    → is_status_kind e.kind ≡ true → keys ≡ bit_keys e
    → list_all (λ key. list_any (bytes_eq key) keys) (keys_of ms) ≡ true
    → bits_from 0 (bit_keys e) [] ms ≡ bits_rule e d
bits_of_keys e d ms keys table status same known = rw (← table, status, ← same, known) refl
