-- The layout that the code finds is that of the definitions, and what every layout of the tables is, by a test of
-- the whole table. For `layout_of` of `src/command.rt`.
use Rattle.std.proofs.Common.{◌≡◌, ℕ, ◌+◌, ◌≤◌, ◌==◌, ◌&&◌, Bool, true, IsTrue, Option, Some, None, List, ◌++◌}
use Rattle.std.proofs.Common.{Bor, length, length-append, map, nat_eq, nat_le, refl, sym, ap, ◌∙◌, arith}
use Rattle.std.specs.Prelude.{find, option_map}
use Rattle.std.specs.Option.{IfSome, option_copied}
use Rattle.std.specs.List.{list_all}
use Rattle.std.proofs.lemmas.Bool.{and_parts, eqb-true, leb-true}
use Rattle.pmb_command.proofs.Finding.{find_among, find_passes, find-map}
use Rattle.pmb_meaning.specs.Data.{Exchange, written, read, sent, called, bytes_of}
use Rattle.pmb_meaning.specs.Layout.{CommandLayout}
use Rattle.pmb_meaning.specs.Meaning.{layout_of, takes}
use Rattle.pmb_meaning.specs.Tables.{layouts, page_and_code}
use Rattle.pmb_meaning.specs.declared.layout.Layout.{Layout}
use Rattle.pmb_meaning.specs.declared.layout.Way.{Way}
use Rattle.pmb_meaning.specs.declared.layout.Way.TheVariants.{Register, Written, Read, Sent, Called}
use Rattle.pmb_meaning.specs.machine.Rows.{layout_parts}
use Rattle.pmb_meaning.specs.machine.Sound.{byte_count, is_sound_layout}

-- whether a layout is that of the data
abbrev pub is_theirs : ℕ → Exchange → CommandLayout → Bool
is_theirs code payload l = nat_eq l.code code && takes l.way payload

copied : (found : Option (Bor Layout))
    → option_map (λ (l : Bor Layout). layout_parts l.now) found ≡ option_map layout_parts (option_copied found)
copied None = refl
copied (Some l) = refl

-- the layout that the code finds
pub layout_by_row : (code : ℕ) (payload : Exchange) (rows : List Layout) (found : Option (Bor Layout))
    → map layout_parts rows ≡ layouts
    → option_copied found ≡ find (λ l. is_theirs code payload (layout_parts l)) rows
    → option_map (λ (l : Bor Layout). layout_parts l.now) found ≡ layout_of code payload
layout_by_row code payload rows found same is =
    copied found ∙ ap (option_map layout_parts) is
    ∙ sym (find-map layout_parts (is_theirs code payload) rows)
    ∙ ap (find (is_theirs code payload)) same

-- the test of the whole table
pub all_are_sound : list_all is_sound_layout layouts ≡ true
unfolding layouts page_and_code
all_are_sound = refl

pub layout_is_sound : (code : ℕ) (payload : Exchange) (found : Option (Bor Layout))
    → option_map (λ (l : Bor Layout). layout_parts l.now) found ≡ layout_of code payload
    → IfSome found (λ (l : Bor Layout). IsTrue (is_sound_layout (layout_parts l.now)))
layout_is_sound code payload None is = tt
layout_is_sound code payload (Some l) is =
    find_among (is_theirs code payload) is_sound_layout layouts (layout_parts l.now) all_are_sound (sym is)

-- ---- how many bytes there are

takes_count : (way : Way) (payload : Exchange) → takes way payload ≡ true → length (bytes_of payload) ≡ byte_count way
takes_count (Register n) (written bytes) taken = eqb-true (length bytes) n taken
takes_count (Register n) (read bytes) taken = eqb-true (length bytes) n taken
takes_count (Register n) (sent bytes) taken = absurd (cc taken)
takes_count (Register n) (called first reply) taken = absurd (cc taken)
takes_count (Written n) (written bytes) taken = eqb-true (length bytes) n taken
takes_count (Written n) (read bytes) taken = absurd (cc taken)
takes_count (Written n) (sent bytes) taken = absurd (cc taken)
takes_count (Written n) (called first reply) taken = absurd (cc taken)
takes_count (Read n) (written bytes) taken = absurd (cc taken)
takes_count (Read n) (read bytes) taken = eqb-true (length bytes) n taken
takes_count (Read n) (sent bytes) taken = absurd (cc taken)
takes_count (Read n) (called first reply) taken = absurd (cc taken)
takes_count (Sent n) (written bytes) taken = absurd (cc taken)
takes_count (Sent n) (read bytes) taken = absurd (cc taken)
takes_count (Sent n) (sent bytes) taken = eqb-true (length bytes) n taken
takes_count (Sent n) (called first reply) taken = absurd (cc taken)
takes_count (Called n back) (written bytes) taken = absurd (cc taken)
takes_count (Called n back) (read bytes) taken = absurd (cc taken)
takes_count (Called n back) (sent bytes) taken = absurd (cc taken)
takes_count (Called n back) (called first reply) taken =
    let both = and_parts (length first == n) (length reply == back) taken in
    let many : length first ≡ n = eqb-true (length first) n both.0 in
    let replied : length reply ≡ back = eqb-true (length reply) back both.1 in
    let all : length (first ++ reply) ≡ length first + length reply = length-append first reply in
    omega arith

pub layout_is_short : (code : ℕ) (payload : Exchange) (found : Option (Bor Layout))
    → option_map (λ (l : Bor Layout). layout_parts l.now) found ≡ layout_of code payload
    → IfSome found (λ (l : Bor Layout). length (bytes_of payload) ≤ 7)
layout_is_short code payload None is = tt
layout_is_short code payload (Some l) is =
    let parts = layout_parts l.now in
    let passes : is_theirs code payload parts ≡ true = find_passes (is_theirs code payload) layouts parts (sym is) in
    let taken = (and_parts (nat_eq parts.code code) (takes parts.way payload) passes).1 in
    let sound : is_sound_layout parts ≡ true =
    find_among (is_theirs code payload) is_sound_layout layouts parts all_are_sound (sym is) in
    let few : byte_count parts.way ≤ 7 = leb-true (byte_count parts.way) 7 (and_parts (nat_le (byte_count parts.way) 7) _ sound).0 in
    let same : length (bytes_of payload) ≡ byte_count parts.way = takes_count parts.way payload taken in
    omega arith
