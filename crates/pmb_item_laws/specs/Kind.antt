-- The kinds of items, by the names that objects have for them.
use Rattle.std.specs.Prelude.{ℕ, ◌==◌, if◌then◌else◌, List, [], codes}

abbrev pub kind_name : ℕ → List ℕ
kind_name number =
    if number == 1 then codes "write"
    else if number == 2 then codes "read"
    else if number == 3 then codes "call"
    else if number == 4 then codes "refused"
    else if number == 5 then codes "alert"
    else if number == 6 then codes "other"
    else if number == 7 then codes "refusal"
    else if number == 8 then codes "bad_token"
    else []
