-- Values of which the same is told.
use Rattle.std.specs.Prelude.{◌≡◌, List, length}
use Rattle.pmb_mean.specs.Numbers.{NumberData, count_assumed, greatest, last_value, least, mean}

pub record TellNumbersAlike (numbers others : List NumberData) : Type 0 where
  pub count : length numbers ≡ length others
  pub assumed : count_assumed numbers ≡ count_assumed others
  pub least : least numbers ≡ least others
  pub mean : mean numbers ≡ mean others
  pub greatest : greatest numbers ≡ greatest others
  pub last : last_value numbers ≡ last_value others
