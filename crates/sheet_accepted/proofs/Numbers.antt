-- Refusal 3 turns every sheet away that has a number which is not finite, as given or narrowed; so each is read as it is given. Assumes nothing.
use Rattle.std.specs.Prelude.{None, Option, Some}
use mathlib.Core.Path.{◌≡◌, refl}
use mathlib.Core.Bool.{Bool, not, ◌&&◌, ◌||◌}
use mathlib.Core.List.{List, [], ◌∷◌, map}
use lib.Dec.{T, eqb}
use lib.Ieee.{Float, lt, le}
use lib.Ieee.Scale.{finite}
use lib.Ieee.Fits.{and_l, and_r}
use lib.Ieee.Bits.{is_true}
use Rattle.num.specs.Narrowed.{narrowed, or_zero}
use Rattle.num.specs.Constants.{plus_zero}
use Rattle.num.specs.Numbers.{Each}
use Rattle.num.specs.Sign.{positive}
use Rattle.geom.specs.Geometry.{zero_f32, largest, of_size, valid_length, view_box_length}
use Rattle.names.specs.Ids.{aid_flood_opacity}
use Rattle.svgtree.specs.Values.{Value, absent, text_value, number_value, numbers_value, length_value, color_value, tries_value, Attribute, Node, Bounds, Header, Sheet}
use Rattle.field_tests.specs.Tests.{all, double_ok}
use Rattle.num.proofs.Finite.{or_zero_is}
use Rattle.sheet_check.specs.Numbers.{try_number_ok, value_numbers_ok, opacity_ok, attribute_numbers_ok, node_numbers_ok, exists, bounds_ok, header_lengths_numbers_ok, header_numbers_ok, numbers_ok}
use Rattle.sheet_accepted.specs.Given.{GivenSingle, GivenDouble, GivenTry, GivenValue, GivenAttribute, GivenNode, GivenBox, GivenHeader, GivenNumbers}

-- what a test shows of each value of a list
each_passed : {A : Type 0} (p : A → Bool) (P : A → Type 0) → ((x : A) → T (p x) → P x) → (xs : List A) → T (all p xs) → Each P xs
unfolding all
each_passed p P f [] h = tt
each_passed p P f (x ∷ xs) h = (f x (and_l (p x) (all p xs) h), each_passed p P f xs (and_r (p x) (all p xs) h))

-- ---- a number

finite_given : (x : Float) → T (finite x) → GivenSingle x
finite_given x h = or_zero_is x (is_true (finite x) h)

double_given : (x : Float) → T (double_ok x) → GivenDouble x
unfolding double_ok
double_given x h = (and_l (finite x) (finite (narrowed x)) h, finite_given (narrowed x) (and_r (finite x) (finite (narrowed x)) h))

positive_given : (x : Float) → T (positive x) → GivenSingle x
positive_given x h = finite_given x (and_l (finite x) (le plus_zero x) h)

valid_given : (x : Float) → T (valid_length x) → GivenSingle x
unfolding valid_length
valid_given x h = finite_given x (and_r (lt zero_f32 x) (finite x) h)

view_box_given : (x : Float) → T (view_box_length x) → GivenSingle x
unfolding view_box_length
view_box_given x h = finite_given x (and_r (lt zero_f32 x) (finite x) (and_l (lt zero_f32 x && finite x) (lt x largest) h))

-- ---- a value, and a node

try_given : (o : Option Float) → T (try_number_ok o) → GivenTry o
try_given None h = tt
try_given (Some x) h = double_given x h

singles_given : (xs : List Float) → T (all finite xs) → map or_zero xs ≡ xs
unfolding all
singles_given [] h = refl
singles_given (x ∷ xs) h =
    let first : or_zero x ≡ x = finite_given x (and_l (finite x) (all finite xs) h) in
    let rest : map or_zero xs ≡ xs = singles_given xs (and_r (finite x) (all finite xs) h) in
    cc

value_given : (v : Value) → T (value_numbers_ok v) → GivenValue v
unfolding value_numbers_ok
value_given absent h = tt
value_given (text_value t) h = tt
value_given (number_value x) h = finite_given x h
value_given (numbers_value xs) h = singles_given xs h
value_given (length_value u x) h = double_given x h
value_given (color_value k) h = tt
value_given (tries_value t) h =
    let a = try_number_ok t.first in
    let b = try_number_ok t.second in
    let c = try_number_ok t.third in
    (try_given t.first (and_l a b (and_l (a && b) c h)), try_given t.second (and_r a b (and_l (a && b) c h)), try_given t.third (and_r (a && b) c h))

attribute_given : (a : Attribute) → T (attribute_numbers_ok a) → GivenAttribute a
unfolding attribute_numbers_ok
attribute_given a h = value_given a.value (and_l (value_numbers_ok a.value) (not (eqb a.id aid_flood_opacity) || opacity_ok a.value) h)

node_given : (n : Node) → T (node_numbers_ok n) → GivenNode n
unfolding node_numbers_ok
node_given n h =
    let attributes = all attribute_numbers_ok n.attributes in
    record {
      font_size = positive_given n.font_size (and_l (positive n.font_size) attributes h);
      attributes = each_passed attribute_numbers_ok GivenAttribute attribute_given n.attributes (and_r (positive n.font_size) attributes h);
    }

-- ---- the header

box_given : (o : Option Bounds) → T (bounds_ok o) → GivenBox o
unfolding bounds_ok
box_given None h = tt
box_given (Some b) h =
    let x = finite b.x in
    let y = finite b.y in
    let w = finite b.width in
    let k = finite b.height in
    let four = and_l (x && y && w && k) (exists (of_size b.x b.y b.width b.height)) h in
    let three = and_l (x && y && w) k four in
    let two = and_l (x && y) w three in
    (finite_given b.x (and_l x y two), finite_given b.y (and_r x y two), finite_given b.width (and_r (x && y) w three), finite_given b.height (and_r (x && y && w) k four))

header_given : (h : Header) → T (header_numbers_ok h) → GivenHeader h
unfolding header_numbers_ok header_lengths_numbers_ok
header_given h k =
    let box = bounds_ok h.box in
    let w = view_box_length h.view_box_width in
    let v = view_box_length h.view_box_height in
    let dpi = valid_length h.dpi in
    let font = positive h.font_size in
    let five = and_l (box && w && v && dpi && font) (header_lengths_numbers_ok h) k in
    let four = and_l (box && w && v && dpi) font five in
    let three = and_l (box && w && v) dpi four in
    let two = and_l (box && w) v three in
    let a = value_numbers_ok h.x in
    let b = value_numbers_ok h.y in
    let c = value_numbers_ok h.width in
    let d = value_numbers_ok h.height in
    let lengths = and_r (box && w && v && dpi && font) (header_lengths_numbers_ok h) k in
    let first = and_l (a && b && c) d lengths in
    record {
      box = box_given h.box (and_l box w two);
      view_box_width = view_box_given h.view_box_width (and_r box w two);
      view_box_height = view_box_given h.view_box_height (and_r (box && w) v three);
      dpi = valid_given h.dpi (and_r (box && w && v) dpi four);
      font_size = positive_given h.font_size (and_r (box && w && v && dpi) font five);
      x = value_given h.x (and_l a b (and_l (a && b) c first));
      y = value_given h.y (and_r a b (and_l (a && b) c first));
      width = value_given h.width (and_r (a && b) c first);
      height = value_given h.height (and_r (a && b && c) d lengths);
    }

pub numbers_given : (sheet : Sheet) → T (numbers_ok sheet) → GivenNumbers sheet
unfolding numbers_ok
numbers_given sheet h =
    let header = header_numbers_ok sheet.header in
    let nodes = all node_numbers_ok sheet.nodes in
    record {
      header = header_given sheet.header (and_l header nodes h);
      nodes = each_passed node_numbers_ok GivenNode node_given sheet.nodes (and_r header nodes h);
    }
