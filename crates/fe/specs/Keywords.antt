-- Attributes whose value is a keyword: SVG tells upper from lower case here, and takes no white space around a word. Definitions only.
use Rattle.std.specs.Prelude.{ℕ, cond, List, [], ◌∷◌, Option}
use Prim.Native.String.{String}
use Rattle.bits.specs.Words.{word}
use Rattle.fe.specs.Attributes.{is_word}

-- a keyword's bytes and what it stands for
abbrev pub Keyword : Type 0 → Type 0
Keyword A = List ℕ × A

infix 70 ◌means◌
abbrev pub ◌means◌ : {A : Type 0} → String → A → Keyword A
w means v = (word w, v)

-- what the keyword stands for that the text is; the default where the text is absent or none of the keywords
unfoldable pub keyword : {A : Type 0} → List (Keyword A) → A → Option (List ℕ) → A
keyword [] default t = default
keyword (k ∷ ks) default t = cond (is_word t k.0) k.1 (keyword ks default t)
