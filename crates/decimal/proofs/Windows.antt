-- The bytes of a window: how many, the first, and those behind others. Assumes nothing.
use Rattle.std.specs.Prelude.{None, Option, Some, MatchOption, unwrap_or}
use Rattle.std.specs.List.{slice_get, prefix_len}
use Rattle.std.proofs.lemmas.Option.{slice_get_within}
use Prim.Native.Nat.{ℕ, zero, suc, ◌+◌, ◌-◌, ◌≤◌, ◌<◌}
use native.Mathlib.Nat.{add-zero}
use native.Mathlib.Omega.{arith}
use mathlib.Core.Path.{◌≡◌, refl, sym, ap}
use mathlib.Core.Bool.{Bool, true, false}
use mathlib.Core.List.{List, [], ◌∷◌}
use lib.ListN.{get_or, length, take, drop}
use lib.Dec.{eqb}
use Rattle.bits.specs.Bytes.{bytes_from}
use Rattle.bits.proofs.Runs.{bytes_from_step, bytes_from_none, length-bytes_from, get_or-bytes_from}
use Rattle.decimal.specs.Windows.{seen, starts_with}
use Rattle.decimal.specs.declared.window.Window.{Window}

pub seen_length : (w : Window) → length (seen w) ≡ w.len
seen_length w = length-bytes_from w.bytes.now w.at w.len

pub seen_short : (w : Window) → length (seen w) < 65536
seen_short w = rw (seen_length w) (w.within.1)

-- a first byte is one of its bytes
pub some_first : (w : Window) (b : ℕ) → slice_get (seen w) 0 ≡ Some b → 0 < w.len
some_first w b e = rw (seen_length w) at (slice_get_within (seen w) 0 b e)

start_within : (t : List ℕ) (b : ℕ) → starts_with b t ≡ true → 0 < length t
unfolding starts_with
start_within [] b e = cc
start_within (x ∷ t) b e = omega arith

pub some_start : (w : Window) (b : ℕ) → starts_with b (seen w) ≡ true → 0 < w.len
some_start w b e = rw (seen_length w) at (start_within (seen w) b e)

module _ (s : List ℕ) (at n : ℕ) where
  pub seen_get : (k : ℕ) → k < n → get_or s (at + k) 0 ≡ get_or (bytes_from s at n) k 0
  seen_get k h = sym (get_or-bytes_from s at n k h)

  pub first_none : n ≡ 0 → None ≡ slice_get (bytes_from s at n) 0
  first_none z = rw (bytes_from_none s at n z)

  pub first_some : 0 < n → Some (get_or s at 0) ≡ slice_get (bytes_from s at n) 0
  first_some h = rw (bytes_from_step s at n h)

  pub starts_none : (b : ℕ) → n ≡ 0 → false ≡ starts_with b (bytes_from s at n)
  unfolding starts_with
  starts_none b z = rw (bytes_from_none s at n z)

  pub starts_first : (b : ℕ) → 0 < n → eqb (get_or s at 0) b ≡ starts_with b (bytes_from s at n)
  unfolding starts_with
  starts_first b h = rw (bytes_from_step s at n h)

pub seen_behind : (s : List ℕ) (at n k : ℕ) → k ≤ n → bytes_from s (at + k) (n - k) ≡ drop k (bytes_from s at n)
unfolding bytes_from
seen_behind s at n zero h =
    let e : n - 0 ≡ n = omega arith in
    rw (add-zero at, e)
seen_behind s at zero (suc k) h = absurd (omega arith)
seen_behind s at (suc n) (suc k) h =
    let e : at + suc k ≡ at + 1 + k = omega arith in
    let l : suc n - suc k ≡ n - k = omega arith in
    rw (e, l) (seen_behind s (at + 1) n k (omega arith))

pub seen_prefix : (s : List ℕ) (at n k : ℕ) → k ≤ n → bytes_from s at k ≡ take k (bytes_from s at n)
unfolding bytes_from
seen_prefix s at n zero h = refl
seen_prefix s at zero (suc k) h = absurd (omega arith)
seen_prefix s at (suc n) (suc k) h = ap (λ (l : List ℕ). get_or s at 0 ∷ l) (seen_prefix s (at + 1) n k (omega arith))

-- what a search for the first byte that doesn't pass finds
module _ (s : List ℕ) (p : ℕ → Bool) where
  prefix_all : (at n : ℕ) → ((k : ℕ) → 0 ≤ k → k < n → p (get_or s (at + k) 0) ≡ true) → n ≡ prefix_len p (bytes_from s at n)
  unfolding bytes_from
  prefix_all at zero f = refl
  prefix_all at (suc n) f =
      let e : p (get_or s at 0) ≡ true = rw add-zero at (f 0 (omega arith) (omega arith)) in
      rw (e, ← prefix_all (at + 1) n (λ k z h. rw (next at k) (f (suc k) (omega arith) (omega arith)))) (omega arith)
    where
      next : (at k : ℕ) → at + 1 + k ≡ at + suc k
      next at k = omega arith

  prefix_stop : (at n i : ℕ) → i < n → p (get_or s (at + i) 0) ≡ false → ((k : ℕ) → 0 ≤ k → k < i → p (get_or s (at + k) 0) ≡ true) → i ≡ prefix_len p (bytes_from s at n)
  unfolding bytes_from
  prefix_stop at zero i h e f = absurd (omega arith)
  prefix_stop at (suc n) zero h e f = rw (rw add-zero at e)
  prefix_stop at (suc n) (suc i) h e f =
      let t : p (get_or s at 0) ≡ true = rw add-zero at (f 0 (omega arith) (omega arith)) in
      rw (t, ← prefix_stop (at + 1) n i (omega arith) (rw (next at i) e) (λ k z l. rw (next at k) (f (suc k) (omega arith) (omega arith)))) (omega arith)
    where
      next : (at k : ℕ) → at + 1 + k ≡ at + suc k
      next at k = omega arith

  pub prefix_found : (at n : ℕ) (r : Option ℕ)
      → MatchOption r
      ((k : ℕ) → 0 ≤ k → k < n → p (get_or s (at + k) 0) ≡ true)
      (λ i. (0 ≤ i) × (i < n) × (p (get_or s (at + i) 0) ≡ false) × ((k : ℕ) → 0 ≤ k → k < i → p (get_or s (at + k) 0) ≡ true))
      → unwrap_or r n ≡ prefix_len p (bytes_from s at n)
  prefix_found at n None f = prefix_all at n f
  prefix_found at n (Some i) f = prefix_stop at n i f.1 f.2 f.3
