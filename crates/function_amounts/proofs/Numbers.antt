-- No number of a matrix or of an intercept is NaN, for every finite amount: a sum, a difference or a product with a finite constant on one side is
-- none. Assumes nothing.
use Prim.Native.Nat.{◌*◌}
use mathlib.Core.Bool.{Bool, true, false, not, cond}
use lib.Dec.{T, eqb}
use lib.Ieee.{Float, nan, inf, fin, binary32, up, down, unlike, of_bits, round, neg, add, sub, mul, is_nan}
use lib.Ieee.Scale.{finite}
use Rattle.num.specs.Numbers.{IsNumber, Each}
use Rattle.num.proofs.Laws.{nonzero, round_num, sum_num, sub_num, mul_num, add_num_left}
use Rattle.num.specs.Constants.{one}
use Rattle.num.proofs.Each.{◌and◌}
use Rattle.function_amounts.specs.Amounts.{◌⊕◌, ◌⊖◌, ◌⊗◌, ◌÷◌, grayscale_matrix, sepia_matrix, contrast_intercept}

neg_num : (x : Float) → IsNumber x → IsNumber (neg x)
unfolding neg is_nan
neg_num nan h = absurd h
neg_num (inf s) h = tt
neg_num (fin s m e) h = tt

add_num_right : (x y : Float) → T (finite x) → IsNumber y → IsNumber (x ⊕ y)
unfolding add is_nan
add_num_right nan y h k = absurd h
add_num_right (inf s) y h k = absurd h
add_num_right (fin s m e) nan h k = absurd k
add_num_right (fin s m e) (inf t) h k = tt
add_num_right (fin s m e) (fin t n d) h k = sum_num binary32 s (m * up e * down d) t (n * up d * down e) (down e * down d)

sub_num_right : (x y : Float) → T (finite x) → IsNumber y → IsNumber (x ⊖ y)
unfolding sub
sub_num_right x y h k = add_num_right x (neg y) h (neg_num y k)

mul_num_right : (x y : Float) → T (nonzero x) → IsNumber y → IsNumber (x ⊗ y)
unfolding mul is_nan
mul_num_right nan y h k = absurd h
mul_num_right (inf s) y h k = absurd h
mul_num_right (fin s m e) nan h k = absurd k
mul_num_right (fin s m e) (inf t) h k = go (eqb m 0) h
  where
    go : (b : Bool) → T (not b) → IsNumber (cond b nan (inf (unlike s t)))
    go true h = absurd h
    go false h = tt
mul_num_right (fin s m e) (fin t n d) h k = round_num binary32 (unlike s t) (m * up e * (n * up d)) (down e * down d)

-- ---- the entries of a matrix

module _ (amount : Float) (given : T (finite amount)) where
  pub rest_num : IsNumber (one ⊖ amount)
  unfolding of_bits
  rest_num = sub_num binary32 one amount tt given

  raised : (a b : Float) → T (finite a) → T (nonzero b) → IsNumber (a ⊕ b ⊗ (one ⊖ amount))
  raised a b h k = add_num_right a (b ⊗ (one ⊖ amount)) h (mul_num_right b (one ⊖ amount) k rest_num)

  lowered : (a b : Float) → T (finite a) → T (nonzero b) → IsNumber (a ⊖ b ⊗ (one ⊖ amount))
  lowered a b h k = sub_num_right a (b ⊗ (one ⊖ amount)) h (mul_num_right b (one ⊖ amount) k rest_num)

  pub grayscale_num : Each IsNumber (grayscale_matrix amount)
  unfolding grayscale_matrix of_bits round is_nan
  grayscale_num =
      raised (2126 ÷ 10000) (7874 ÷ 10000) tt tt and lowered (7152 ÷ 10000) (7152 ÷ 10000) tt tt and lowered (722 ÷ 10000) (722 ÷ 10000) tt tt and tt and tt
      and lowered (2126 ÷ 10000) (2126 ÷ 10000) tt tt and raised (7152 ÷ 10000) (2848 ÷ 10000) tt tt and lowered (722 ÷ 10000) (722 ÷ 10000) tt tt and tt and tt
      and lowered (2126 ÷ 10000) (2126 ÷ 10000) tt tt and lowered (7152 ÷ 10000) (7152 ÷ 10000) tt tt and raised (722 ÷ 10000) (9278 ÷ 10000) tt tt and tt and tt
      and tt and tt and tt and tt and tt
      and tt

  pub sepia_num : Each IsNumber (sepia_matrix amount)
  unfolding sepia_matrix of_bits round is_nan
  sepia_num =
      raised (393 ÷ 1000) (607 ÷ 1000) tt tt and lowered (769 ÷ 1000) (769 ÷ 1000) tt tt and lowered (189 ÷ 1000) (189 ÷ 1000) tt tt and tt and tt
      and lowered (349 ÷ 1000) (349 ÷ 1000) tt tt and raised (686 ÷ 1000) (314 ÷ 1000) tt tt and lowered (168 ÷ 1000) (168 ÷ 1000) tt tt and tt and tt
      and lowered (272 ÷ 1000) (272 ÷ 1000) tt tt and lowered (534 ÷ 1000) (534 ÷ 1000) tt tt and raised (131 ÷ 1000) (869 ÷ 1000) tt tt and tt and tt
      and tt and tt and tt and tt and tt
      and tt

  pub intercept_num : IsNumber (contrast_intercept amount)
  unfolding contrast_intercept round
  intercept_num = add_num_left binary32 (neg (1 ÷ 2 ⊗ amount)) (1 ÷ 2) (neg_num (1 ÷ 2 ⊗ amount) (mul_num binary32 (1 ÷ 2) amount tt given)) tt
