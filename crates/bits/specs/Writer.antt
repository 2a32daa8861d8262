-- What a writer has written, and what is left of its buffer. Definitions only.
use Rattle.std.specs.Prelude.{ℕ, List, ◌++◌, ◌≡◌, ◌+◌, ◌≤◌, length, take, drop}
use Rattle.bits.specs.declared.writer.Writer.{Writer}

-- n bytes more fit
abbrev pub HasRoom : Writer → ℕ → Type 0
HasRoom w n = w.at + n ≤ length w.out.now

-- what stands before the place, and from it on
unfoldable pub written : Writer → List ℕ
written w = take w.at w.out.now

unfoldable pub unwritten : Writer → List ℕ
unwritten w = drop w.at w.out.now

-- n bytes xs are written in the same buffer
pub record Writes (old : Writer) (n : ℕ) (xs : List ℕ) (new : Writer) : Type 0 where
  pub buffer : new.out.ghost_name ≡ old.out.ghost_name
  pub written : written new ≡ written old ++ xs
  pub unwritten : unwritten new ≡ drop n (unwritten old)
  pub next : new.at ≡ old.at + n
  pub long : length new.out.now ≡ length old.out.now
