-- Laws on a value's bytes, which are a run of the sheet's: a byte and a run of them are the sheet's own. Assumes nothing.
use Prim.Native.Nat.{ℕ, zero, suc, ◌+◌, ◌≤◌}
use native.Mathlib.Omega.{arith}
use native.Mathlib.Nat.{add-zero}
use mathlib.Core.Path.{◌≡◌, refl, ap₂, ◌∙◌}
use mathlib.Core.List.{List, ◌∷◌}
use mathlib.Core.Bool.{◌&&◌}
use lib.ListN.{get_or}
use lib.Dec.{leb}
use Rattle.bits.specs.Bytes.{bytes_from}
use Rattle.bits.proofs.Runs.{length-bytes_from, get_or-bytes_from}
use Rattle.sheet_fields.specs.Fields.{size_tries, marked_number, marked_number_size, tries_second, tries_third}
use Rattle.sheet_layout.specs.Layout.{try_ok, tries_ok}

-- a run of a run
pub run_in : (s : List ℕ) (at n k m : ℕ) → k + m ≤ n → bytes_from (bytes_from s at n) k m ≡ bytes_from s (at + k) m
unfolding bytes_from
run_in s at n k zero h = refl
run_in s at n k (suc m) h =
    let e : at + (k + 1) ≡ at + k + 1 = omega arith in
    ap₂ (λ (x : ℕ) (l : List ℕ). x ∷ l) (get_or-bytes_from s at n k (omega arith)) (run_in s at n (k + 1) m (omega arith) ∙ rw e)

module _ (s : List ℕ) (at n : ℕ) where
  pub try_in : (k : ℕ) → k + tries_second ≤ n → try_ok (bytes_from s at n) k ≡ try_ok s (at + k)
  unfolding try_ok
  try_in k h =
      let e : at + (k + marked_number) ≡ at + k + marked_number = omega arith in
      simp (get_or-bytes_from s at n k (omega arith), run_in s at n (k + marked_number) marked_number_size (omega arith), e)

  -- the three tries of a value
  pub tries_in_lem : n ≡ size_tries
      → tries_ok (bytes_from s at n)
      ≡ (try_ok s at && try_ok s (at + tries_second) && try_ok s (at + tries_third)
      && leb (get_or s (at + tries_second) 0) (get_or s at 0)
      && leb (get_or s (at + tries_third) 0) (get_or s (at + tries_second) 0))
  unfolding tries_ok
  tries_in_lem h =
      simp (
        try_in 0 (omega arith),
        try_in tries_second (omega arith),
        try_in tries_third (omega arith),
        get_or-bytes_from s at n 0 (omega arith),
        get_or-bytes_from s at n tries_second (omega arith),
        get_or-bytes_from s at n tries_third (omega arith),
        add-zero at,
      )

-- how many bytes a value has, and which
pub ruleset value_runs = (length-bytes_from, get_or-bytes_from, tries_in_lem)
