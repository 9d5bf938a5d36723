use Rattle.pmb_convert.proofs.Sayings.{bad_b, bad_m, bad_r, no_comma, one_comma_alone, parts_of, three_numbers}
use Rattle.pmb_convert.proofs.spelling.direct.Goals as goal

pub returns-in_default : goal.returns-in_default
returns-in_default c = no_comma c.args.unsigned c.args.numbers.now c.in_default.ensures

pub returns-in_default-around_comma : goal.returns-in_default-around_comma
returns-in_default-around_comma c =
    one_comma_alone c.args.unsigned c.args.numbers.now c.in-Some.m.now c.in-Some.rest.now c.in-Some.ensures.0 c.in-Some.ensures.1
    c.in_default-around_comma.ensures

pub returns-in_default-integer : goal.returns-in_default-integer
returns-in_default-integer c =
    let parts = parts_of c.args.numbers.now c.in-Some.m.now c.in-Some.rest.now c.in-Some-around_comma.b.now
    c.in-Some-around_comma.r.now c.in-Some.ensures c.in-Some-around_comma.ensures in
    bad_m c.args.unsigned _ _ _ _ parts c.in_default-integer.ensures

pub returns-in_default-integer-2 : goal.returns-in_default-integer-2
returns-in_default-integer-2 c =
    let parts = parts_of c.args.numbers.now c.in-Some.m.now c.in-Some.rest.now c.in-Some-around_comma.b.now
    c.in-Some-around_comma.r.now c.in-Some.ensures c.in-Some-around_comma.ensures in
    bad_b c.args.unsigned _ _ _ _ parts c.in_default-integer-2.ensures

pub returns-in_default-small_integer : goal.returns-in_default-small_integer
returns-in_default-small_integer c =
    let parts = parts_of c.args.numbers.now c.in-Some.m.now c.in-Some.rest.now c.in-Some-around_comma.b.now
    c.in-Some-around_comma.r.now c.in-Some.ensures c.in-Some-around_comma.ensures in
    bad_r c.args.unsigned _ _ _ _ parts c.in_default-small_integer.ensures

pub returns : goal.returns
returns c =
    let parts = parts_of c.args.numbers.now c.in-Some.m.now c.in-Some.rest.now c.in-Some-around_comma.b.now
    c.in-Some-around_comma.r.now c.in-Some.ensures c.in-Some-around_comma.ensures in
    let m = c.in-Some-integer.ensures in
    let b = c.in-Some-integer-2.ensures in
    let r = c.in-Some-small_integer.ensures in
    three_numbers c.args.unsigned _ _ _ _ _ _ _ _ parts m.0 m.1 b.0 b.1 r.0 r.1 c.of_coefficients.ensures
