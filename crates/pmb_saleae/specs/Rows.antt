-- Rows, worked by hand.
use Rattle.std.specs.Prelude.{◌≡◌, [], ◌++◌, codes, refl}
use Rattle.pmb_saleae.specs.Exponent.{written_out, zeros}
use Rattle.pmb_saleae.specs.Time.{time_of}

pub a_sign : time_of (codes "-0.000128") ≡ codes "-0.000128 s"
a_sign = refl

pub no_point : time_of (codes "3") ≡ codes "3 s"
no_point = refl

pub an_exponent : time_of (codes "1.28e-04") ≡ codes "0.000128 s"
an_exponent = refl

pub a_sign_and_an_exponent : time_of (codes "-1.28E+4") ≡ codes "-12800 s"
a_sign_and_an_exponent = refl

pub digits_stay : written_out (codes "12.50e-1") ≡ codes "1.250"
digits_stay = refl

pub the_point_moves_right : written_out (codes "0.128e2") ≡ codes "12.8"
the_point_moves_right = refl

pub forty_places : written_out (codes "7e-40") ≡ codes "0." ++ (zeros 39 ++ codes "7")
forty_places = refl

pub too_many_places : written_out (codes "7e-41") ≡ []
too_many_places = refl

pub no_digits_behind_the_point : time_of (codes "1.e3") ≡ []
no_digits_behind_the_point = refl

pub west_of_utc : time_of (codes "2026-05-17T10:34:38.9-0800") ≡ codes "2026-05-17T10:34:38.9-0800"
west_of_utc = refl
