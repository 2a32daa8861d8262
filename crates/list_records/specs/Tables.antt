-- What a table of nodes and a table of names stand for, record by record. Definitions only.
use Rattle.std.specs.Prelude.{ℕ, zero, suc, ◌*◌, ◌≤◌, ◌<◌, ◌≡◌, List, [], ◌∷◌, ◌++◌, map, get_or, length, take, None}
use Rattle.num.specs.Constants.{plus_zero}
use Rattle.tree.specs.Kinds.{Primitive, Tile, map_kind}
use Rattle.tree.specs.List.{primitive_bytes}
use Rattle.tree.specs.declared.ColorInterpolation.TheVariants.{LinearRGB}
use Rattle.child.specs.Child.{Child}
use Rattle.region.specs.declared.Frame.{Frame}
use Rattle.chain.specs.Chain.{Step, pass, end, refused, count}
use Rattle.chain.specs.Means.{step_at}
use Rattle.naming.specs.Inputs.{resolve}
use Rattle.naming.specs.Names.{name_of}
use Rattle.results.specs.Means.{entry_is, names_is}

-- a placeholder, never used: only nodes that count are in a table
abbrev pub nobody : Child
nobody =
    record {
      rect = record { left = plus_zero; top = plus_zero; right = plus_zero; bottom = plus_zero };
      color_interpolation = LinearRGB;
      own = None;
      kind = Tile None;
    }

abbrev pub child_in : Step → Child
child_in pass = nobody
child_in end = nobody
child_in (refused why) = nobody
child_in (count c) = c

-- the child that node i is
abbrev pub child_at : Frame → List ℕ → ℕ → Child
child_at frame s i = child_in (step_at frame s i)

-- the children that the first n nodes of a table are
abbrev pub children_is : Frame → (s nodes : List ℕ) → ℕ → List Child
children_is frame s nodes n = map (child_at frame s) (take n nodes)

-- record j, of node i: its name is that of its entry, and its inputs are resolved with the names of the j records before it
abbrev pub record_at : Frame → (s names : List ℕ) → (i j : ℕ) → Primitive
record_at frame s names i j =
    record {
      rect = (child_at frame s i).rect;
      color_interpolation = (child_at frame s i).color_interpolation;
      result = name_of (entry_is s (get_or names j 0));
      kind = map_kind (resolve (names_is s names j)) (child_at frame s i).kind;
    }

-- the bytes of the first records
unfoldable pub records_up_to : Frame → (s nodes names : List ℕ) → ℕ → List ℕ
records_up_to frame s nodes names zero = []
records_up_to frame s nodes names (suc j) = records_up_to frame s nodes names j ++ primitive_bytes (record_at frame s names (get_or nodes j 0) j)

-- the nodes of the first records are nodes of the sheet
pub record Below (nodes : List ℕ) (n records : ℕ) : Type 0 where
  pub below : (j : ℕ) → j < records → get_or nodes j 0 < n

-- the sizes of the first records
unfoldable pub sizes_up_to : Frame → (s nodes names : List ℕ) → ℕ → List ℕ
sizes_up_to frame s nodes names zero = []
sizes_up_to frame s nodes names (suc j) = sizes_up_to frame s nodes names j ++ (length (primitive_bytes (record_at frame s names (get_or nodes j 0) j)) ∷ [])

-- what is said of a table of sizes, and of their sum: its first entries are the sizes of the first records, and the sum is the length of their bytes, which
-- is small enough for offsets of 32 bits behind the list's head
pub record Measures (frame : Frame) (s nodes names table : List ℕ) (n sum : ℕ) : Type 0 where
  pub sizes : take n table ≡ sizes_up_to frame s nodes names n
  pub total : sum ≡ length (records_up_to frame s nodes names n)
  pub small : sum ≤ 4194304 * n
  pub long : length table ≡ 512
