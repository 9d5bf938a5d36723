-- A text says one profile.
use Rattle.std.proofs.Common.{◌≡◌, ◌∙◌, ◌⊎◌, ℕ, Option, Some, Result, Ok, Err, List, inl, inr, refl, sym, ap}
use Rattle.std.proofs.lemmas.Option.{same_Some}
use Rattle.toml.specs.Data.{Members}
use Rattle.toml.specs.Parse.{parse_document}
use Rattle.pmb_table.specs.Profile.{IsDocument, ProfileParts, SaysBus, profile_of}
use Rattle.pmb_table.specs.declared.fault.ProfileFault.{ProfileFault}

same_ok : (a b : ProfileParts) (r : Result ProfileParts ProfileFault) → Ok a ≡ r → Ok b ≡ r → a ≡ b
same_ok a b (Ok c) one other = cc
same_ok a b (Err fault) one other = cc

pub one_bus : (text : List ℕ) (a b : ProfileParts) → SaysBus text (Ok a) → SaysBus text (Ok b) → a ≡ b
one_bus text a b (inl one) (inl other) =
    let same : one.0 ≡ other.0 = same_Some one.0 other.0 (sym one.1.1 ∙ other.1.1) in
    same_ok a b (profile_of other.0) (one.2 ∙ ap profile_of same) other.2
one_bus text a b (inl one) (inr other) = absurd (let no = other.1 in cc)
one_bus text a b (inr one) other = absurd (let no = one.1 in cc)
