-- The scale of a displacement map is no NaN, for every node and every scale whose sides are finite and not negative. Assumes nothing.
use Rattle.std.specs.Prelude.{Err, Ok}
use mathlib.Core.Bool.{Bool, true, false, cond}
use lib.Dec.{T}
use lib.Ieee.{binary32, div}
use lib.Ieee.Scale.{finite}
use lib.Ieee.Fits.{add-fits}
use Rattle.answer.specs.declared.Refusal.TheVariants.{Unrepresentable}
use Rattle.names.specs.Ids.{aid_scale}
use Rattle.num.specs.Constants.{plus_zero, two}
use Rattle.num.specs.Numbers.{IsFinite}
use Rattle.num.proofs.Laws.{plus, mul_num}
use Rattle.num.proofs.Finite.{zero_finite}
use Rattle.geom.specs.declared.Size.{Size}
use Rattle.svgtree.specs.Values.{Node}
use Rattle.fe.specs.Attributes.{number_or}
use Rattle.fe.proofs.Numbers.{number_or_finite}
use Rattle.fe_displacement_map.specs.DisplacementMap.{box_sum, displacement_with, displacement_map_of}
use Rattle.fe_displacement_map.specs.ProofRanges.{DisplacementMapOk}
use Rattle.fe_displacement_map.proofs.Numbers.{add_plus, half_finite}

module _ (n : Node) (scale : Size) (fw : IsFinite scale.width) (fh : IsFinite scale.height) (pw : T (plus scale.width)) (ph : T (plus scale.height)) where
  pub displacement_map_ok : DisplacementMapOk (displacement_map_of n scale)
  displacement_map_ok = go (finite (box_sum scale)) (λ h. h)
    where
      go : (b : Bool) → (T b → T (finite (box_sum scale))) → DisplacementMapOk (cond b (Ok (displacement_with n (box_sum scale))) (Err Unrepresentable))
      go true f =
          let s = box_sum scale in
          let half : IsFinite (div binary32 s two) = half_finite s (add-fits binary32 scale.width scale.height) (f tt) (add_plus scale.width scale.height fw fh pw ph) in
          record { scale = mul_num binary32 (number_or n aid_scale plus_zero) (div binary32 s two) (number_or_finite n aid_scale plus_zero zero_finite) half }
      go false f = tt
