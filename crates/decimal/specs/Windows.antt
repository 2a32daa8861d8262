-- The bytes that a window stands for, and whether one stands first. Definitions only.
use Rattle.std.specs.Prelude.{ℕ, Bool, false, List, [], ◌∷◌, eqb}
use Rattle.bits.specs.Bytes.{bytes_from}
use Rattle.decimal.specs.declared.window.Window.{Window}

abbrev pub seen : Window → List ℕ
seen w = bytes_from w.bytes.now w.at w.len

unfoldable pub starts_with : ℕ → List ℕ → Bool
starts_with b [] = false
starts_with b (x ∷ t) = eqb x b
