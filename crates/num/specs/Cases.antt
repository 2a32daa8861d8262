-- Octaves, found by computing: around each half, around the f32 where halves end, around 2^32, next to 0; of each number, and of the one with the sign set.
use Rattle.std.specs.Prelude.{ℕ, ◌+◌, ◌≡◌, refl, List, [], ◌∷◌, map}
use Rattle.std.specs.Float.{binary32}
use Rattle.std.specs.Float.Ieee.{of_bits}
use Rattle.num.specs.Whole.{octaves_of}

-- the bits of a number without a sign, and its octaves
abbrev pub octave_cases : List (ℕ × ℕ)
octave_cases =
    -- 0, the smallest subnormal, the largest one
    (0x0000_0000, 0)
    ∷ (0x0000_0001, 0)
    ∷ (0x007f_ffff, 0)
    -- 0.5, between the f32 on either side; so are the next ones
    ∷ (0x3eff_ffff, 0)
    ∷ (0x3f00_0000, 0)
    ∷ (0x3f00_0001, 1)
    -- 1, then 1.5
    ∷ (0x3f80_0000, 1)
    ∷ (0x3fbf_ffff, 1)
    ∷ (0x3fc0_0000, 2)
    ∷ (0x3fc0_0001, 2)
    -- 2.5
    ∷ (0x401f_ffff, 2)
    ∷ (0x4020_0000, 2)
    ∷ (0x4020_0001, 3)
    -- 3.5
    ∷ (0x405f_ffff, 3)
    ∷ (0x4060_0000, 4)
    ∷ (0x4060_0001, 4)
    -- 8,388,606.5 to 8,388,608: the last two halves; from there on every f32 is whole
    ∷ (0x4aff_fffd, 8388606)
    ∷ (0x4aff_fffe, 8388607)
    ∷ (0x4aff_ffff, 8388608)
    ∷ (0x4b00_0000, 8388608)
    ∷ (0x4b00_0001, 8388609)
    -- 2^32, between the f32 on either side; the largest f32; the infinity
    ∷ (0x4f7f_ffff, 4294967040)
    ∷ (0x4f80_0000, 4294967295)
    ∷ (0x4f80_0001, 4294967295)
    ∷ (0x7f7f_ffff, 4294967295)
    ∷ (0x7f80_0000, 4294967295)
    ∷ []

-- the octaves of the number with these bits, and of the one with the sign set
abbrev with_either_sign : ℕ → ℕ × ℕ
with_either_sign b = (octaves_of (of_bits binary32 b), octaves_of (of_bits binary32 (0x8000_0000 + b)))

pub octave_cases_hold : map (λ (c : ℕ × ℕ). with_either_sign c.0) octave_cases ≡ map (λ (c : ℕ × ℕ). (c.1, 0)) octave_cases
unfolding octaves_of of_bits
octave_cases_hold = refl
