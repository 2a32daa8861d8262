-- A kind whose inputs were changed: its inputs are the old ones, changed, and its bytes are those of the old kind with its inputs changed before they
-- are written. Assumes nothing.
use Prim.Native.Nat.{ℕ}
use mathlib.Core.Path.{◌≡◌, refl}
use mathlib.Core.List.{List, [], ◌∷◌, map}
use lib.ListN.{length-map}
use Rattle.tree.specs.Kinds.{Kind, Blend, ColorMatrix, ComponentTransfer, Composite, ConvolveMatrix, DiffuseLighting, DisplacementMap, DropShadow, Flood, GaussianBlur, Image, Merge, Morphology, Offset, SpecularLighting, Tile, Turbulence, map_kind, inputs_of}
use Rattle.tree.specs.List.{input_run, kind_bytes_with}

pub inputs_map : {A B : Type 0} (f : A → B) (k : Kind A) → inputs_of (map_kind f k) ≡ map f (inputs_of k)
unfolding map_kind inputs_of
inputs_map f (Blend a b v) = refl
inputs_map f (ColorMatrix a v) = refl
inputs_map f (ComponentTransfer a v) = refl
inputs_map f (Composite a b v) = refl
inputs_map f (ConvolveMatrix a v) = refl
inputs_map f (DiffuseLighting a v) = refl
inputs_map f (DisplacementMap a b v) = refl
inputs_map f (DropShadow a v) = refl
inputs_map f (Flood v) = refl
inputs_map f (GaussianBlur a v) = refl
inputs_map f (Image never) = refl
inputs_map f (Merge inputs) = refl
inputs_map f (Morphology a v) = refl
inputs_map f (Offset a v) = refl
inputs_map f (SpecularLighting a v) = refl
inputs_map f (Tile a) = refl
inputs_map f (Turbulence v) = refl

module _ {A B : Type 0} (f : B → List ℕ) (g : A → B) where
  pub run_map : (inputs : List A) → input_run f (map g inputs) ≡ input_run (λ x. f (g x)) inputs
  unfolding input_run
  run_map [] = refl
  run_map (i ∷ inputs) = rw (run_map inputs)

  pub bytes_map : (k : Kind A) → kind_bytes_with f (map_kind g k) ≡ kind_bytes_with (λ x. f (g x)) k
  unfolding map_kind
  bytes_map (Blend a b v) = refl
  bytes_map (ColorMatrix a v) = refl
  bytes_map (ComponentTransfer a v) = refl
  bytes_map (Composite a b v) = refl
  bytes_map (ConvolveMatrix a v) = refl
  bytes_map (DiffuseLighting a v) = refl
  bytes_map (DisplacementMap a b v) = refl
  bytes_map (DropShadow a v) = refl
  bytes_map (Flood v) = refl
  bytes_map (GaussianBlur a v) = refl
  bytes_map (Image never) = refl
  bytes_map (Merge inputs) = rw (length-map inputs g, run_map inputs)
  bytes_map (Morphology a v) = refl
  bytes_map (Offset a v) = refl
  bytes_map (SpecularLighting a v) = refl
  bytes_map (Tile a) = refl
  bytes_map (Turbulence v) = refl
