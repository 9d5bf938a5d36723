-- Where the items of a list stand, by a number that each has of its own: a command's code, a
-- device's address.
use Rattle.std.specs.Prelude.{◌≡◌, ℕ, Some, List, slice_get, slice_index}

-- At each item's number its place is kept. What is kept at a number that no item has says nothing.
abbrev pub ArePlaces : List ℕ → List ℕ → Type 0
ArePlaces places numbers = (i number : ℕ) → slice_get numbers i ≡ Some number → slice_index places number ≡ i
