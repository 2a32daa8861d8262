-- The kinds of a value and the bytes that stand for them. Definitions only.
use Rattle.std.specs.Prelude.{ℕ, ◌≡◌, ◌<◌, Result, MatchResult}
use Rattle.sheet_fields.specs.declared.kind.ValueKind.{ValueKind}
use Rattle.sheet_fields.specs.declared.kind.ValueKind.TheVariants as kind
use Rattle.sheet_fields.specs.declared.kind.UnknownKind.{UnknownKind}
use Rattle.sheet_fields.specs.Fields.{kind_unreadable, kind_text, kind_number, kind_numbers, kind_length, kind_color, kind_tries, kind_typed}

-- the byte that stands for a kind
abbrev pub byte_of : ValueKind → ℕ
byte_of kind.Unreadable = kind_unreadable
byte_of kind.Text = kind_text
byte_of kind.Number = kind_number
byte_of kind.Numbers = kind_numbers
byte_of kind.Length = kind_length
byte_of kind.Color = kind_color
byte_of kind.Tries = kind_tries
byte_of kind.Typed = kind_typed

-- the result is the kind for which the byte stands, or an error with a byte that stands for none
abbrev pub Decodes : ℕ → Result ValueKind UnknownKind → Type 0
Decodes byte r = MatchResult r (λ k. byte_of k ≡ byte) (λ e. (e.0 ≡ byte) × (kind_typed < byte))
