-- No child is refused with 7: every number that is read is finite, so a base frequency whose sign is clear is not below zero. This holds of any nodes,
-- since a number that is not finite is read as +0; of an accepted sheet that +0 is never read (`read_as_given` of `sheet_accepted`). Assumes nothing.
use Rattle.tree.specs.declared.SpecularLighting.{SpecularLighting}
use Rattle.tree.specs.declared.DiffuseLighting.{DiffuseLighting}
use Rattle.tree.specs.declared.DisplacementMap.{DisplacementMap}
use Rattle.tree.specs.declared.Morphology.{Morphology}
use Rattle.std.specs.Prelude.{Err, None, Ok, Option, Result, Some}
use mathlib.Core.Path.{◌≡◌, refl, subst}
use mathlib.Core.Bool.{Bool, true, false, not, cond, ◌&&◌}
use mathlib.Core.List.{List}
use lib.Dec.{T}
use lib.Ieee.{Float, fin}
use lib.Ieee.Scale.{finite}
use lib.Ieee.Fits.{and_l, and_r, and_i}
use Rattle.answer.specs.declared.Refusal.{Refusal}
use Rattle.answer.specs.declared.Refusal.TheVariants.{Unrepresentable, BadFrequency}
use Rattle.names.specs.Ids.{aid_base_frequency}
use Rattle.num.specs.Constants.{plus_zero}
use Rattle.num.specs.Sign.{positive, sign_negative}
use Rattle.num.proofs.Laws.{plus}
use Rattle.num.proofs.Finite.{zero_finite}
use Rattle.geom.specs.declared.Size.{Size}
use Rattle.svgtree.specs.Values.{Node}
use Rattle.svgtree.specs.Readers.{numbers_of, child_nodes}
use Rattle.tree.specs.Input.{Name}
use Rattle.tree.specs.Kinds.{Kind, ConvolveMatrixFields}
use Rattle.region.specs.declared.Frame.{Frame}
use Rattle.subregion.specs.Subregions.{scale_of}
use Rattle.fe.proofs.Numbers.{ListHolds, numbers_finite, plus_positive}
use Rattle.num.specs.Numbers.{IsFinite}
use Rattle.fe.specs.Pairs.{pair_of, pair_in, signs_clear, if_positive}
use Rattle.fe_morphology.specs.Morphology.{morphology_of}
use Rattle.fe_displacement_map.specs.DisplacementMap.{displacement_map_of}
use Rattle.fe_turbulence.specs.Turbulence.{frequency_of, turbulence_with}
use Rattle.fe.specs.declared.pair.Pair.{Pair}
use Rattle.fe_morphology.proofs.Refusals.{morphology_refusal}
use Rattle.fe_displacement_map.proofs.Refusals.{displacement_refusal}
use Rattle.fe_light.specs.DiffuseLighting.{diffuse_lighting_of}
use Rattle.fe_light.specs.SpecularLighting.{specular_lighting_of}
use Rattle.fe_kernel.specs.ConvolveMatrix.{convolve_matrix_of}
use Rattle.fe.proofs.Pairs.{pair_holds}
use Rattle.child.specs.Child.{Child}
use Rattle.elements.specs.Elements.{ElementKind, elements, kind_of, convolve_made, diffuse_made, specular_made, morphology_made, displacement_made, turbulence_made}
use Rattle.chain.specs.Chain as chain
use Rattle.ranges.proofs.Children.{MadeAll, by_tag_lem, ChainAll, chain_all}
use Rattle.num.proofs.Each.{◌and◌}

-- ---- base frequencies

abbrev Given : Option Pair → Type 0
Given (Some p) = Unit {0}
Given None = ⊥

clear_plus : (x : Float) → T (finite x) → T (not (sign_negative x)) → T (plus x)
clear_plus (fin s m e) f h = h
clear_plus lib.Ieee.nan f h = elim f [ ]
clear_plus (lib.Ieee.inf _) f h = elim f [ ]

positive_given : (p : Pair) → T (positive p.x) → T (positive p.y) → Given (if_positive p)
unfolding if_positive
positive_given p hx hy = go (positive p.x && positive p.y) (and_i (positive p.x) (positive p.y) hx hy)
  where
    go : (b : Bool) → T b → Given (cond b (Some p) None)
    go true h = tt
    go false h = elim h [ ]

clear_given : (p : Pair) → T (finite p.x) → T (finite p.y) → T (signs_clear p) → Given (if_positive p)
unfolding signs_clear
clear_given p fx fy h =
    let x = not (sign_negative p.x) in
    let y = not (sign_negative p.y) in
    positive_given p (plus_positive p.x fx (clear_plus p.x fx (and_l x y h))) (plus_positive p.y fy (clear_plus p.y fy (and_r x y h)))

frequency_given : (o : Option (List Float)) → ListHolds IsFinite o → Given (frequency_of o)
frequency_given None h = tt
frequency_given (Some xs) h = go (signs_clear (pair_in xs)) (λ c. c)
  where
    go : (b : Bool) → (T b → T (signs_clear (pair_in xs))) → Given (cond b (if_positive (pair_in xs)) (Some (pair_of plus_zero plus_zero)))
    go true f = clear_given (pair_in xs) (pair_holds IsFinite zero_finite xs h).0 (pair_holds IsFinite zero_finite xs h).1 (f tt)
    go false f = tt

-- ---- elements

abbrev NotSeven : Refusal → Type 0
NotSeven r = r ≡ BadFrequency → ⊥

abbrev AnyKind : Kind (Option Name) → Type 0
AnyKind k = Unit {0}

abbrev MadeGoes : ElementKind → Type 0
MadeGoes m = MadeAll AnyKind NotSeven m

six_goes : {why : Refusal} → why ≡ Unrepresentable → NotSeven why
six_goes e q = cc

turbulence_made_lem : (n : Node) (m : Option Pair) → Given m → MadeGoes (turbulence_made (turbulence_with n m))
turbulence_made_lem n (Some p) h = tt
turbulence_made_lem n None h = elim h [ ]

convolve_made_lem : (n : Node) (o : Option ConvolveMatrixFields) → MadeGoes (convolve_made n o)
convolve_made_lem n None = tt
convolve_made_lem n (Some v) = tt

morphology_made_lem : (n : Node) (z : Size) (m : Result Morphology Refusal) → morphology_of n z ≡ m → MadeGoes (morphology_made n m)
morphology_made_lem n z (Ok v) e = tt
morphology_made_lem n z (Err why) e = six_goes (morphology_refusal n z why e)

displacement_made_lem : (n : Node) (z : Size) (m : Result DisplacementMap Refusal) → displacement_map_of n z ≡ m → MadeGoes (displacement_made n m)
displacement_made_lem n z (Ok v) e = tt
displacement_made_lem n z (Err why) e = six_goes (displacement_refusal n z why e)

diffuse_made_lem : (n : Node) (m : Option DiffuseLighting) → MadeGoes (diffuse_made n m)
diffuse_made_lem n (Some v) = tt
diffuse_made_lem n None = tt

specular_made_lem : (n : Node) (m : Option SpecularLighting) → MadeGoes (specular_made n m)
specular_made_lem n (Some v) = tt
specular_made_lem n None = tt

kind_made : (f : Frame) (n : Node) (children : List Node) → MadeGoes (kind_of f n children)
unfolding kind_of
kind_made f n children =
    by_tag_lem MadeGoes tt (elements f n children) n.tag
    (tt and tt and tt and tt and tt and tt and tt and tt and tt and tt
    and convolve_made_lem n (convolve_matrix_of n)
    and morphology_made_lem n (scale_of f) (morphology_of n (scale_of f)) refl
    and displacement_made_lem n (scale_of f) (displacement_map_of n (scale_of f)) refl
    and turbulence_made_lem n (frequency_of (numbers_of n aid_base_frequency)) (frequency_given (numbers_of n aid_base_frequency) (numbers_finite n aid_base_frequency))
    and diffuse_made_lem n (diffuse_lighting_of n children)
    and specular_made_lem n (specular_lighting_of n children)
    and tt)

-- ---- the chain

abbrev AnyChild : Child → Type 0
AnyChild c = Unit {0}

-- whatever the frame and the nodes
pub never_seven : (f : Frame) (ns : List Node) → chain.chain f ns ≡ chain.refused BadFrequency → ⊥
never_seven f ns e =
    subst (ChainAll AnyChild NotSeven) e
    (chain_all AnyChild NotSeven f (λ (l : List Node). Unit {0}) AnyKind (λ n rest h. kind_made f n (child_nodes rest)) (λ n rest h r e k s. tt) (λ n rest h. tt) ns tt)
    refl
