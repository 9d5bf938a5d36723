-- Which standard commands have names for their bits, computed over the whole table: the law
-- `status_commands_have_names`. Each bit of such a command is named, and no other command has
-- names.
use Rattle.std.proofs.Common.{◌≡◌, ◌≢◌, ℕ, Bool, true, false, cond, nat_eq, [], refl, sym, ap, ◌∙◌, subst}
use Rattle.std.specs.List.{list_all}
use Rattle.std.proofs.lemmas.Bool.{eqb-true}
use Rattle.pmb_command.specs.Entry.{EntryParts}
use Rattle.pmb_command.specs.Commands.{is_among, standard_entries, standard_entry, standard_rows}
use Rattle.pmb_command.specs.Fitting.{is_status_kind, value_form}
use Rattle.pmb_command.specs.Standard.{HasNamedBits, are_bits_of, without_bit_names}
use Rattle.pmb_command.specs.StatusBits.{BitNames, status_bits}
use Rattle.pmb_command.proofs.StandardLemmas.{of_each, standard_code}

-- whether each bit of an entry is named, if it is a status command with names
abbrev bits_are_named : EntryParts → Bool
bits_are_named e = cond (is_among without_bit_names e.code) true
    (cond (is_status_kind e.kind) (are_bits_of (value_form e.shape) (status_bits e.code)) true)

every_bit_is_named : list_all bits_are_named standard_entries ≡ true
unfolding standard_entries standard_rows status_bits
every_bit_is_named = refl

-- the test says so of such a command
of_named : (without status named : Bool) → without ≡ false → status ≡ true → cond without true (cond status named true)
    ≡ true → named ≡ true
of_named true status named not is tested = absurd (cc not)
of_named false true named not is tested = tested
of_named false false named not is tested = absurd (cc is)

pub each_bit_is_named : (code : ℕ) (status : HasNamedBits code)
    → are_bits_of (value_form status.entry.shape) (status_bits code) ≡ true
each_bit_is_named code status =
    let e = status.entry in
    let same = standard_code code e status.has in
    subst (λ (n : ℕ). are_bits_of (value_form e.shape) (status_bits n) ≡ true) same
    (of_named (is_among without_bit_names e.code) (is_status_kind e.kind)
    (are_bits_of (value_form e.shape) (status_bits e.code))
    (ap (is_among without_bit_names) same ∙ status.named) (ap is_status_kind status.status)
    (of_each bits_are_named every_bit_is_named code e status.has))

-- a code with names before the rest of the codes
before : (n code : ℕ) (names rest : BitNames) (same : Bool) → nat_eq code n ≡ same → HasNamedBits n
    → (rest ≢ [] → HasNamedBits code)
    → cond same names rest ≢ [] → HasNamedBits code
before n code names rest true is here later some = subst HasNamedBits (sym (eqb-true code n is)) here
before n code names rest false is here later some = later some

pub named_bits_alone : (code : ℕ) → status_bits code ≢ [] → HasNamedBits code
unfolding status_bits standard_entry standard_entries standard_rows
named_bits_alone code =
    before 0x78 code _ _ (nat_eq code 0x78) refl (record { entry = _; has = refl; status = refl; named = refl })
    (before 0x79 code _ _ (nat_eq code 0x79) refl (record { entry = _; has = refl; status = refl; named = refl })
    (before 0x7a code _ _ (nat_eq code 0x7a) refl (record { entry = _; has = refl; status = refl; named = refl })
    (before 0x7b code _ _ (nat_eq code 0x7b) refl (record { entry = _; has = refl; status = refl; named = refl })
    (before 0x7c code _ _ (nat_eq code 0x7c) refl (record { entry = _; has = refl; status = refl; named = refl })
    (before 0x7d code _ _ (nat_eq code 0x7d) refl (record { entry = _; has = refl; status = refl; named = refl })
    (before 0x7e code _ _ (nat_eq code 0x7e) refl (record { entry = _; has = refl; status = refl; named = refl })
    (before 0x81 code _ _ (nat_eq code 0x81) refl (record { entry = _; has = refl; status = refl; named = refl })
    (λ none. absurd (none refl)))))))))
