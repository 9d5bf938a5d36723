-- Lines and counts, as they are computed.
use Rattle.std.specs.Prelude.{◌≡◌, Some, None, true, false, ◌++◌, codes, decimal, refl}
use Rattle.pmb_progress.specs.declared.place.Place.TheVariants.{Between, Stop}
use Rattle.pmb_progress.specs.Due.{is_due}
use Rattle.pmb_progress.specs.Stops.{place_behind, stops}
use Rattle.pmb_progress.specs.Line.{percent, progress_line}
use Rattle.pmb_progress.specs.Over.{wiped, written_over}

pub early : is_due 1999 1999 ≡ false
early = refl

pub first : is_due 2000 2000 ≡ true
first = refl

pub soon : is_due 9000 199 ≡ false
soon = refl

pub packets : stops Between (codes "S b0 A 03 A P\nS b0 A 03 A P#P\r\n# P\nPP P") ≡ 2
packets = refl

pub unended : place_behind Between (codes "S b0 A 03 A P") ≡ Stop
unended = refl

pub share : progress_line (Some 100000000) 43000000 3500 (Some 120345)
    ≡ codes "pmb: " ++ (decimal 43 ++ codes "%") ++ codes "  " ++ (decimal 12 ++ codes "." ++ codes "2" ++ codes " MB/s")
    ++ (codes "  packets " ++ decimal 120345)
share = refl

pub more : progress_line (Some 1000) 1001 3500 None
    ≡ codes "pmb: " ++ (decimal 1 ++ codes " kB") ++ codes "  " ++ (decimal 0 ++ codes " kB/s") ++ codes ""
more = refl

pub amount : progress_line None 1234567890 10000 None
    ≡ codes "pmb: " ++ (decimal 1 ++ codes "." ++ codes "2" ++ codes " GB") ++ codes "  "
    ++ (decimal 123 ++ codes "." ++ codes "4" ++ codes " MB/s") ++ codes ""
amount = refl

pub slow : progress_line None 12500000 20000 None
    ≡ codes "pmb: " ++ (decimal 12 ++ codes "." ++ codes "5" ++ codes " MB") ++ codes "  " ++ (decimal 625 ++ codes " kB/s")
    ++ codes ""
slow = refl

pub third : percent 2 3 ≡ 66
third = refl

pub all : percent 7 7 ≡ 100
all = refl

pub nothing : percent 0 0 ≡ 0
nothing = refl

pub shorter : written_over 5 (codes "abc") ≡ codes "\rabc  "
shorter = refl

pub longer : written_over 2 (codes "abc") ≡ codes "\rabc"
longer = refl

pub away : wiped 3 ≡ codes "\r   \r"
away = refl
