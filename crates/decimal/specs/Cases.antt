-- Typed numbers, found by computing: what a run of bytes says, whether it is within the limits, and the f32 that it is worth.
use Rattle.std.specs.Prelude.{ℕ, ◌≡◌, refl, cond, List, [], ◌∷◌, map, None, Option, Some}
use Prim.Native.String.{String}
use Rattle.std.specs.Float.{binary32}
use Rattle.std.specs.Float.Ieee.{to_bits, round}
use Rattle.bits.specs.Words.{word}
use Rattle.num.specs.Narrowed.{narrowed}
use Rattle.decimal.specs.Grammar.{TypedItem, is_digit, is_e, unsigned, negative, leading_digits, after_digits, power, scaled, plain, pointed, signed, item_of}
use Rattle.decimal.specs.Limits.{whole_from, digit_count, in_limits}
use Rattle.decimal.specs.Value.{nearest_double, item_value}

-- what comes of a word: it is outside the grammar, outside the limits, or worth an f32 with these bits
pub data WordReading : Type 0 where
  no_item : WordReading
  over_limits : WordReading
  worth : ℕ → WordReading

abbrev pub word_reading : Option TypedItem → WordReading
word_reading None = no_item
word_reading (Some i) = cond (in_limits i) (worth (to_bits binary32 (item_value i))) over_limits

-- a word, and what comes of it
abbrev pub item_cases : List (String × WordReading)
item_cases =
    ("0", worth 0)
    ∷ ("-0", worth 0x8000_0000)
    ∷ ("-.0e5", worth 0x8000_0000)
    ∷ ("1", worth 0x3f80_0000)
    ∷ ("+1", worth 0x3f80_0000)
    ∷ ("-1.5", worth 0xbfc0_0000)
    ∷ (".5", worth 0x3f00_0000)
    ∷ ("+.5e1", worth 0x40a0_0000)
    ∷ ("0.1", worth 0x3dcc_cccd)
    ∷ ("1E-1", worth 0x3dcc_cccd)
    ∷ ("1e+2", worth 0x42c8_0000)
    -- halfway between two f32, twice: to the even one, which is below and then above
    ∷ ("16777217", worth 0x4b80_0000)
    ∷ ("16777219", worth 0x4b80_0002)
    -- halfway between two f64, and the even one, which is below and then above, is itself halfway between two f32: to the even one again
    ∷ ("360289280154665e2", worth 0x5b00_001e)
    ∷ ("360288120513495e2", worth 0x5b00_0004)
    -- 15 digits at either end of the power
    ∷ ("999999999999999e22", worth 0x7cf0_bdc2)
    ∷ ("999999999999999e-22", worth 0x33d6_bf95)
    ∷ ("1e-22", worth 0x1af1_c901)
    -- leading zeros are not counted, trailing ones are
    ∷ ("0000000000000000000000000000001", worth 0x3f80_0000)
    ∷ ("1000000000000000", over_limits)
    ∷ ("0.1234567890123456", over_limits)
    -- the power: 22 is within, 23 is not, of 0 too; decimals count
    ∷ ("0e22", worth 0)
    ∷ ("0e23", over_limits)
    ∷ ("0e-22", worth 0)
    ∷ ("0e-23", over_limits)
    ∷ ("0.1e-22", over_limits)
    ∷ ("0.1e23", worth 0x6407_8678)
    ∷ ("1e99999999999999999999999999", over_limits)
    ∷ ("", no_item)
    ∷ ("1.", no_item)
    ∷ (".", no_item)
    ∷ ("+", no_item)
    ∷ ("-", no_item)
    ∷ ("1e", no_item)
    ∷ ("1e+", no_item)
    ∷ ("e1", no_item)
    ∷ ("1e1.5", no_item)
    ∷ ("1-2", no_item)
    ∷ ("--1", no_item)
    ∷ ("1.5.5", no_item)
    ∷ ("1 ", no_item)
    ∷ ("0x1", no_item)
    ∷ ("inf", no_item)
    ∷ []

pub item_cases_hold : map (λ (c : String × WordReading). word_reading (item_of (word c.0))) item_cases ≡ map (λ (c : String × WordReading). c.1) item_cases
unfolding is_digit is_e unsigned negative leading_digits after_digits power scaled plain pointed signed item_of whole_from digit_count in_limits nearest_double item_value narrowed round to_bits
item_cases_hold = refl
