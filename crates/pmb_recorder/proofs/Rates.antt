-- Rates of the same number are the same, whatever shows that it is in range: for the law `one_recorder`.
use Rattle.std.proofs.Common.{◌≡◌, ◌<◌, ◌≤◌, ℕ, Option, Some, None, ap₂, option_map, refl, subst, sym}
use Rattle.std.proofs.Math.Bridge.{le_prop}
use Rattle.pmb_sigrok_line.specs.Shown.{hertz_of}
use Rattle.pmb_sigrok_line.specs.Time.{most_rate}
use Rattle.pmb_sigrok_line.specs.declared.rate.Rate.{Rate}

abbrev made : (hertz : ℕ) → 0 < hertz → hertz ≤ most_rate → Rate
made hertz some fits = record { hertz = hertz; some = some; fits = fits }

one_rate : (a b : Rate) → hertz_of a ≡ hertz_of b → a ≡ b
one_rate a b same =
    subst (λ (h : ℕ). (some : 0 < h) (fits : h ≤ most_rate) → made h some fits ≡ b) (sym same)
    (λ some fits. ap₂ (made b.hertz) (le_prop some b.some) (le_prop fits b.fits)) a.some a.fits

pub one_rate_if : (a b : Option Rate) → option_map hertz_of a ≡ option_map hertz_of b → a ≡ b
one_rate_if (Some a) (Some b) same =
    let numbers : hertz_of a ≡ hertz_of b = cc in rw (one_rate a b numbers) refl
one_rate_if (Some a) None same = cc
one_rate_if None (Some b) same = cc
one_rate_if None None same = refl
