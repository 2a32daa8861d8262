-- A base frequency that is refused, found by computing.
use Rattle.std.specs.Prelude.{◌≡◌, refl, [], ◌∷◌, None, Some}
use Rattle.std.specs.Float.{binary32}
use Rattle.std.specs.Float.Ieee.{of_bits, le}
use Rattle.fe.specs.Pairs.{pair_in, signs_clear, if_positive}
use Rattle.fe_turbulence.specs.Turbulence.{frequency_of}

-- an infinite frequency, which no sheet that is read on has
pub frequency_refused : frequency_of (Some (of_bits binary32 0x7f80_0000 ∷ [])) ≡ None
unfolding pair_in signs_clear if_positive le of_bits
frequency_refused = refl
