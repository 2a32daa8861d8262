-- What the code reads of an attribute's value, by type. Definitions only, and that an absent one reads as none.
use Rattle.std.specs.Prelude.{ℕ, List, ◌≡◌, refl, Option, None, Float}
use Rattle.bits.specs.declared.Text.{Text}
use Rattle.bits.specs.Texts.{maybe_text_is}
use Rattle.number_list.specs.declared.Numbers.{Numbers}
use Rattle.svgtree.specs.declared.Length.{Length}
use Rattle.svgtree.specs.declared.Color.{Color}
use Rattle.svgtree.specs.declared.Tries.{Tries}
use Rattle.svgtree.specs.Values.{Value, absent}
use Rattle.svgtree.specs.Readers.{text_in, number_in, numbers_in, length_in, color_in, tries_in}
use Rattle.svgtree.specs.Means.{maybe_numbers_is, maybe_tries_is}

abbrev pub TextSays : List ℕ → Option Text → Value → Type 0
TextSays s o v = maybe_text_is s o ≡ text_in v

abbrev pub NumberSays : List ℕ → Option Float → Value → Type 0
NumberSays s o v = o ≡ number_in v

abbrev pub NumbersSays : List ℕ → Option Numbers → Value → Type 0
NumbersSays s o v = maybe_numbers_is s o ≡ numbers_in v

abbrev pub LengthSays : List ℕ → Option Length → Value → Type 0
LengthSays s o v = o ≡ length_in v

abbrev pub ColorSays : List ℕ → Option Color → Value → Type 0
ColorSays s o v = o ≡ color_in v

abbrev pub TriesSays : List ℕ → Option Tries → Value → Type 0
TriesSays s o v = maybe_tries_is o ≡ tries_in v

pub text_none : (s : List ℕ) → TextSays s None absent
unfolding text_in
text_none s = refl

pub number_none : (s : List ℕ) → NumberSays s None absent
unfolding number_in
number_none s = refl

pub numbers_none : (s : List ℕ) → NumbersSays s None absent
unfolding numbers_in
numbers_none s = refl

pub length_none : (s : List ℕ) → LengthSays s None absent
unfolding length_in
length_none s = refl

pub color_none : (s : List ℕ) → ColorSays s None absent
unfolding color_in
color_none s = refl

pub tries_none : (s : List ℕ) → TriesSays s None absent
unfolding tries_in
tries_none s = refl
