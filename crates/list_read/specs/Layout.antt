-- The layout of each kind of primitive, as data, and one walk over it. Definitions only.
use Rattle.std.specs.Prelude.{ℕ, ◌*◌, List, [], ◌∷◌, ◌++◌, Bool, true, false, ◌&&◌, leb, length, get_or, None, Option, Some}
use Rattle.list_read.specs.Read.{Got, outside, got, and_then, only_if, read_byte, read_below, read16, read32, read_many}

-- what a field is made of
pub data Item : Type 0 where
  byte_below : ℕ → Item  -- a byte below a bound
  any_bytes : ℕ → Item  -- so many bytes of any value
  f32s : ℕ → Item  -- so many f32; "number bits .. are free"
  vec : ℕ → ℕ → Item  -- a Vec of f32: a u16 count, not below the first bound nor above the second, and so many f32
  option : Item  -- an Option of an f32: a byte, 0 or 1, and so many f32

-- a field: an item; or an enum whose cases hold items: its place in the declaration, and the items of that case
pub data Field : Type 0 where
  item : Item → Field
  enum : List (List Item) → Field

-- how many inputs a kind has: so many; or a Vec of them, a u16 count and so many
pub data Arity : Type 0 where
  exactly : ℕ → Arity
  counted : Arity

-- "more than .. 511 inputs in one merge" are outside the layout
abbrev pub most_inputs : ℕ
most_inputs = 511

-- a kind: its inputs, and then its other fields in the order of the declaration
pub record Layout : Type 0 where
  pub inputs : Arity
  pub fields : List Field

abbrev pub layout : Arity → List Field → Layout
layout inputs fields = record { inputs = inputs; fields = fields }

-- a bool, an enum of n cases that hold nothing, a colour, n u32 or i32, n f32, and a Vec of f32 with at most 1,024 of them

abbrev pub bool : Field
bool = item (byte_below 2)

abbrev pub place : ℕ → Field
place n = item (byte_below n)

abbrev pub color : Field
color = item (any_bytes 3)

abbrev pub words : ℕ → Field
words n = item (any_bytes (4 * n))

abbrev pub numbers : ℕ → Field
numbers n = item (f32s n)

abbrev pub number_list : Item
number_list = vec 0 1024

-- the enums whose cases hold numbers; a colour matrix has 20 of them

abbrev pub color_matrix_kind : Field
color_matrix_kind = enum ((vec 20 20 ∷ []) ∷ (f32s 1 ∷ []) ∷ (f32s 1 ∷ []) ∷ [] ∷ [])  -- Matrix, Saturate, HueRotate, LuminanceToAlpha

abbrev pub transfer_function : Field
transfer_function = enum ([] ∷ (number_list ∷ []) ∷ (number_list ∷ []) ∷ (f32s 2 ∷ []) ∷ (f32s 3 ∷ []) ∷ [])  -- Identity, Table, Discrete, Linear, Gamma

abbrev pub composite_operator : Field
composite_operator = enum ([] ∷ [] ∷ [] ∷ [] ∷ [] ∷ [] ∷ (f32s 4 ∷ []) ∷ [])  -- Over, In, Out, Atop, Xor, Lighter, Arithmetic

abbrev pub light_source : Field
light_source = enum ((f32s 2 ∷ []) ∷ (f32s 3 ∷ []) ∷ (f32s 7 ∷ option ∷ []) ∷ [])  -- DistantLight, PointLight, SpotLight

-- the kinds in the order of the declaration; Image is outside the layout
abbrev pub layouts : List (Option Layout)
layouts =
    Some (layout (exactly 2) (place 16 ∷ []))  -- Blend: mode
    ∷ Some (layout (exactly 1) (color_matrix_kind ∷ []))  -- ColorMatrix: kind
    ∷ Some (layout (exactly 1) (transfer_function ∷ transfer_function ∷ transfer_function ∷ transfer_function ∷ []))  -- ComponentTransfer: red, green, blue, alpha
    ∷ Some (layout (exactly 2) (composite_operator ∷ []))  -- Composite: operator
    ∷ Some (layout (exactly 1) (words 4 ∷ item number_list ∷ numbers 2 ∷ place 3 ∷ bool ∷ []))  -- ConvolveMatrix: target x, target y, columns, rows; kernel; divisor, bias; edge mode; preserve alpha
    ∷ Some (layout (exactly 1) (numbers 2 ∷ color ∷ light_source ∷ []))  -- DiffuseLighting: surface scale, diffuse constant; colour; light
    ∷ Some (layout (exactly 2) (numbers 1 ∷ place 4 ∷ place 4 ∷ []))  -- DisplacementMap: scale; x channel; y channel
    ∷ Some (layout (exactly 1) (numbers 4 ∷ color ∷ numbers 1 ∷ []))  -- DropShadow: dx, dy, deviations; colour; opacity
    ∷ Some (layout (exactly 0) (color ∷ numbers 1 ∷ []))  -- Flood: colour; opacity
    ∷ Some (layout (exactly 1) (numbers 2 ∷ []))  -- GaussianBlur: deviations
    ∷ None  -- Image
    ∷ Some (layout counted [])  -- Merge
    ∷ Some (layout (exactly 1) (place 2 ∷ numbers 2 ∷ []))  -- Morphology: operator; radii
    ∷ Some (layout (exactly 1) (numbers 2 ∷ []))  -- Offset: dx, dy
    ∷ Some (layout (exactly 1) (numbers 3 ∷ color ∷ light_source ∷ []))  -- SpecularLighting: surface scale, specular constant, specular exponent; colour; light
    ∷ Some (layout (exactly 1) [])  -- Tile
    ∷ Some (layout (exactly 0) (numbers 2 ∷ words 2 ∷ bool ∷ place 2 ∷ []))  -- Turbulence: base frequencies; octaves, seed; stitch tiles; kind
    ∷ []

unfoldable pub layout_of : ℕ → Option Layout
layout_of k = get_or layouts k None

-- The walk. What it gives are the bit patterns of the f32 that it passes, in order.

unfoldable pub walk_item : Item → List ℕ → Got (List ℕ)
walk_item (byte_below n) xs = and_then (read_below n xs) (λ b r. got [] r)
walk_item (any_bytes n) xs = and_then (read_many read_byte n xs) (λ bs r. got [] r)
walk_item (f32s n) xs = read_many read32 n xs
walk_item (vec low high) xs = and_then (read16 xs) (λ n r. only_if (leb low n && leb n high) (read_many read32 n r))
walk_item option xs = and_then (read_below 2 xs) (λ n r. read_many read32 n r)

unfoldable pub walk_items : List Item → List ℕ → Got (List ℕ)
walk_items [] xs = got [] xs
walk_items (i ∷ is) xs = and_then (walk_item i xs) (λ ns r. and_then (walk_items is r) (λ ms r'. got (ns ++ ms) r'))

unfoldable pub walk_field : Field → List ℕ → Got (List ℕ)
walk_field (item i) xs = walk_item i xs
walk_field (enum cases) xs = and_then (read_below (length cases) xs) (λ k r. walk_items (get_or cases k []) r)

unfoldable pub walk_fields : List Field → List ℕ → Got (List ℕ)
walk_fields [] xs = got [] xs
walk_fields (f ∷ fs) xs = and_then (walk_field f xs) (λ ns r. and_then (walk_fields fs r) (λ ms r'. got (ns ++ ms) r'))

-- something was read, and no byte is left
abbrev pub at_end : {A : Type 0} → Got A → Bool
at_end outside = false
at_end (got a []) = true
at_end (got a (x ∷ r)) = false
