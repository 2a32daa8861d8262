-- feTurbulence. Definitions only.
-- Filter Effects Module Level 1, feTurbulence: where absent, `baseFrequency` is 0, `numOctaves` 1, `seed` 0, `stitchTiles` noStitch and `type`
-- turbulence.
use Rattle.answer.specs.declared.Refusal.{Refusal}
use Rattle.std.specs.Prelude.{cond, List, [], ◌∷◌, Float, Err, None, Ok, Option, Result, Some}
use Rattle.std.specs.Float.Ieee.{to_signed}
use Rattle.answer.specs.declared.Refusal.TheVariants.{BadFrequency}
use Rattle.bits.specs.Words.{word}
use Rattle.names.specs.Ids.{aid_base_frequency, aid_num_octaves, aid_seed, aid_stitch_tiles, aid_type}
use Rattle.num.specs.Constants.{plus_zero, one}
use Rattle.num.specs.Whole.{octaves_of}
use Rattle.svgtree.specs.Values.{Node}
use Rattle.svgtree.specs.Readers.{text_of, numbers_of}
use Rattle.tree.specs.declared.Turbulence.{Turbulence}
use Rattle.tree.specs.declared.TurbulenceKind.{TurbulenceKind}
use Rattle.tree.specs.declared.TurbulenceKind.TheVariants as kind
use Rattle.fe.specs.Attributes.{number_or, is_word}
use Rattle.fe.specs.Keywords.{◌means◌, keyword}
use Rattle.fe.specs.declared.pair.Pair.{Pair}
use Rattle.fe.specs.Pairs.{pair_of, pair_in, signs_clear, if_positive}

-- The document: a negative frequency is an error (not certain). The crate: a sign that is set makes both 0. "base frequency positive in sign but not
-- finite": the crate panics, here it is refusal 7.
abbrev pub frequency_from : Pair → Option Pair
frequency_from p = cond (signs_clear p) (if_positive p) (Some (pair_of plus_zero plus_zero))

abbrev pub frequency_of : Option (List Float) → Option Pair
frequency_of None = Some (pair_of plus_zero plus_zero)
frequency_of (Some xs) = frequency_from (pair_in xs)

-- `turbulence` where `type` is absent, and for every text but `fractalNoise`
abbrev pub turbulence_kind_of : Node → TurbulenceKind
turbulence_kind_of n = keyword ("fractalNoise" means kind.FractalNoise ∷ []) kind.Turbulence (text_of n aid_type)

-- Octaves: to the nearest whole number, a half to the even one (document 02, [1]), held at the ends of u32; a set sign gives 0. The crate rounds a half away
-- from zero. The document: `numOctaves` is a whole number, and a negative one is an error (not certain). "`seed` is cut toward zero to i32 and held at its ends".
abbrev pub turbulence_fields : Node → Pair → Turbulence
turbulence_fields n p =
    record {
      base_frequency_x = p.x;
      base_frequency_y = p.y;
      num_octaves = octaves_of (number_or n aid_num_octaves one);
      seed = to_signed 31 (number_or n aid_seed plus_zero);
      stitch_tiles = is_word (text_of n aid_stitch_tiles) (word "stitch");
      kind = turbulence_kind_of n;
    }

abbrev pub turbulence_with : Node → Option Pair → Result Turbulence Refusal
turbulence_with n (Some p) = Ok (turbulence_fields n p)
turbulence_with n None = Err BadFrequency

abbrev pub turbulence_of : Node → Result Turbulence Refusal
turbulence_of n = turbulence_with n (frequency_of (numbers_of n aid_base_frequency))
