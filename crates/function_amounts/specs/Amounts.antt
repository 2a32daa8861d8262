-- The numbers of the functions that take one amount: the crate's expressions, over the amount as an f32. Definitions only.
use Rattle.std.specs.Prelude.{ℕ, false, cond, List, [], ◌∷◌, Float}
use Rattle.std.specs.Float.{binary32, binary64}
use Rattle.std.specs.Float.Ieee.{of_bits, round, add, sub, mul, neg, lt}
use Rattle.num.specs.Narrowed.{as_f32}
use Rattle.num.specs.Constants.{plus_zero as zero, one}
use Rattle.num.specs.Sign.{positive}

-- ⊕, ⊖ and ⊗ are the f32 operations: each gives the exact result rounded once, to nearest, ties to even
infixl 65 ◌⊕◌ ◌⊖◌
infixl 70 ◌⊗◌
infixl 75 ◌÷◌
abbrev pub ◌⊕◌ : Float → Float → Float
a ⊕ b = add binary32 a b

abbrev pub ◌⊖◌ : Float → Float → Float
a ⊖ b = sub binary32 a b

abbrev pub ◌⊗◌ : Float → Float → Float
a ⊗ b = mul binary32 a b

-- the f32 nearest to a fraction of two whole numbers
abbrev pub ◌÷◌ : ℕ → ℕ → Float
a ÷ b = round binary32 false a b

-- ---- amounts

-- 1 as an f64
abbrev pub one64 : Float
one64 = of_bits binary64 0x3ff0_0000_0000_0000

-- for grayscale, sepia, invert and opacity an amount above 1 is 1: it is held in f64, and narrowed then. The document: an amount below 0 is an error. The
-- crate: it is taken as it is. An amount beyond f32 is refusal 3 here; the crate holds it at 1.
unfoldable pub held : Float → Float
held x = as_f32 (cond (lt one64 x) one64 x)

-- what is not a positive number becomes +0: a saturation or a deviation below 0. The document: that is an error. The crate: 0.
unfoldable pub positive_or_zero : Float → Float
positive_or_zero x = cond (positive x) x zero

-- ---- colour matrices: a row of five for each of red, green, blue and alpha

unfoldable pub grayscale_matrix : Float → List Float
grayscale_matrix amount =
    let rest : Float = one ⊖ amount in
    (2126 ÷ 10000 ⊕ 7874 ÷ 10000 ⊗ rest) ∷ (7152 ÷ 10000 ⊖ 7152 ÷ 10000 ⊗ rest) ∷ (722 ÷ 10000 ⊖ 722 ÷ 10000 ⊗ rest) ∷ zero ∷ zero
    ∷ (2126 ÷ 10000 ⊖ 2126 ÷ 10000 ⊗ rest) ∷ (7152 ÷ 10000 ⊕ 2848 ÷ 10000 ⊗ rest) ∷ (722 ÷ 10000 ⊖ 722 ÷ 10000 ⊗ rest) ∷ zero ∷ zero
    ∷ (2126 ÷ 10000 ⊖ 2126 ÷ 10000 ⊗ rest) ∷ (7152 ÷ 10000 ⊖ 7152 ÷ 10000 ⊗ rest) ∷ (722 ÷ 10000 ⊕ 9278 ÷ 10000 ⊗ rest) ∷ zero ∷ zero
    ∷ zero ∷ zero ∷ zero ∷ one ∷ zero
    ∷ []

unfoldable pub sepia_matrix : Float → List Float
sepia_matrix amount =
    let rest : Float = one ⊖ amount in
    (393 ÷ 1000 ⊕ 607 ÷ 1000 ⊗ rest) ∷ (769 ÷ 1000 ⊖ 769 ÷ 1000 ⊗ rest) ∷ (189 ÷ 1000 ⊖ 189 ÷ 1000 ⊗ rest) ∷ zero ∷ zero
    ∷ (349 ÷ 1000 ⊖ 349 ÷ 1000 ⊗ rest) ∷ (686 ÷ 1000 ⊕ 314 ÷ 1000 ⊗ rest) ∷ (168 ÷ 1000 ⊖ 168 ÷ 1000 ⊗ rest) ∷ zero ∷ zero
    ∷ (272 ÷ 1000 ⊖ 272 ÷ 1000 ⊗ rest) ∷ (534 ÷ 1000 ⊖ 534 ÷ 1000 ⊗ rest) ∷ (131 ÷ 1000 ⊕ 869 ÷ 1000 ⊗ rest) ∷ zero ∷ zero
    ∷ zero ∷ zero ∷ zero ∷ one ∷ zero
    ∷ []

-- ---- transfer functions

-- amount, 1 − amount
unfoldable pub invert_table : Float → List Float
invert_table amount = amount ∷ (one ⊖ amount) ∷ []

-- 0, amount
unfoldable pub opacity_table : Float → List Float
opacity_table amount = zero ∷ amount ∷ []

-- −(0.5 × amount) + 0.5
unfoldable pub contrast_intercept : Float → Float
contrast_intercept amount = neg (1 ÷ 2 ⊗ amount) ⊕ 1 ÷ 2
