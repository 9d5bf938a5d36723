-- Rows, worked by hand.
use Rattle.std.specs.Prelude.{◌≡◌, true, false, ℕ, Some, None, Result, Ok, Err, List, [], ◌∷◌, codes, refl}
use Rattle.arrayvec.specs.ArrayVec.{ArrayVec}
use Rattle.pmb_wire_names.specs.Choosing.{chosen, listed_others}
use Rattle.pmb_wire_names.specs.Kept.{kept_name, signal_of}
use Rattle.pmb_wire_names.specs.Matching.{has_word, is_named, is_word, last_part}
use Rattle.pmb_wire_names.specs.declared.names.Wires.{Wires}

-- ---- names

pub a_name_behind_a_point : is_named (codes "a.clk") (codes "top.a.clk") ≡ true
a_name_behind_a_point = refl

pub a_whole_name : is_named (codes "clk") (codes "clk") ≡ true
a_whole_name = refl

pub no_point_in_front : is_named (codes "lk") (codes "top.clk") ≡ false
no_point_in_front = refl

pub not_its_front : is_named (codes "top") (codes "top.clk") ≡ false
not_its_front = refl

pub the_last_part : last_part (codes "top.a.clk") ≡ codes "clk"
the_last_part = refl

pub without_points : last_part (codes "clk") ≡ codes "clk"
without_points = refl

pub nothing_behind_the_point : last_part (codes "a.") ≡ []
nothing_behind_the_point = refl

pub in_any_case : is_word (codes "scl") (codes "ScL") ≡ true
in_any_case = refl

pub longer_than_the_word : is_word (codes "scl") (codes "SCL_0") ≡ false
longer_than_the_word = refl

pub it_contains_the_word : has_word (codes "scl") (codes "my_SCL_0") ≡ true
it_contains_the_word = refl

pub it_contains_a_front_of_the_word : has_word (codes "scl") (codes "sc") ≡ false
it_contains_a_front_of_the_word = refl

pub a_name_with_blanks : kept_name (codes " da\tta ") ≡ codes "data"
a_name_with_blanks = refl

-- ---- signals

abbrev a : List ℕ
a = codes "a"

abbrev b : List ℕ
b = codes "b"

abbrev c : List ℕ
c = codes "c"

abbrev wires : List ℕ → List ℕ → Result Wires (ArrayVec ℕ)
wires scl sda = Ok (record { scl = record { items = scl }; sda = record { items = sda } })

abbrev why : List ℕ → Result Wires (ArrayVec ℕ)
why text = Err (record { items = text })

-- the usual names, in scopes and in another order
pub usual_names :
    chosen None None (signal_of a (codes "x.sda") ∷ signal_of b (codes "x.SCL") ∷ signal_of c (codes "x.scl_oe") ∷ [])
    ≡ wires b a
usual_names = refl

-- a scope that has the word is no last part
pub a_scope_does_not_count :
    chosen None None (signal_of a (codes "scl.x") ∷ signal_of b (codes "my_scl") ∷ signal_of c (codes "sda") ∷ [])
    ≡ wires b c
a_scope_does_not_count = refl

pub given_names :
    chosen (Some (codes "b.clk")) (Some (codes "data"))
    (signal_of a (codes "a.b.clk") ∷ signal_of b (codes "a.data") ∷ signal_of c (codes "clk") ∷ [])
    ≡ wires a b
given_names = refl

-- signals of one ID are one
pub one_id :
    chosen None None (signal_of b (codes "scl_a") ∷ signal_of b (codes "scl_b") ∷ signal_of c (codes "SDA") ∷ [])
    ≡ wires b c
one_id = refl

pub none_of_them :
    chosen None None (signal_of a (codes "top.clock") ∷ signal_of b (codes "top.data[0]") ∷ [])
    ≡ why (codes "SCL is none of top.clock, top.data[0]")
none_of_them = refl

-- SCL is looked at first
pub two_of_them :
    chosen None None (signal_of a (codes "scl") ∷ signal_of b (codes "sda_in") ∷ signal_of c (codes "sda_out") ∷ [])
    ≡ why (codes "SDA may be sda_in, sda_out")
two_of_them = refl

pub one_for_both : chosen (Some (codes "w")) (Some (codes "w")) (signal_of a (codes "w") ∷ [])
    ≡ why (codes "SCL and SDA are one signal")
one_for_both = refl

-- no more names than there is room for
pub others_are_told :
    listed_others (signal_of a (codes "x") ∷ signal_of b (codes "y") ∷ signal_of c (codes "z") ∷ []) 2
    ≡ codes ", x, y, .."
others_are_told = refl
