-- What is read within the bytes is the same whatever bytes come behind them, since the bytes that are read are the same. Assumes nothing.
use Prim.Native.Nat.{ℕ, zero, suc, ◌+◌, ◌≤◌, ◌<◌}
use native.Mathlib.Omega.{arith}
use mathlib.Core.Path.{◌≡◌, refl, sym}
use mathlib.Core.List.{List, ◌++◌}
use lib.ListN.{length, get_or, get_or-append}
use Rattle.bits.specs.Bytes.{le16, le32, bytes_from}
use Rattle.svgtree.specs.Parse.{value_at}
use Rattle.sheet_accepted.proofs.ByKind.{InKind}
use Rattle.sheet_accepted.proofs.Values.{le16_moved, le32_moved, value_moved}

module _ (s more : List ℕ) where
  abbrev t : List ℕ
  t = s ++ more

  pub byte_same : (i : ℕ) → i < length s → get_or t i 0 ≡ get_or s i 0
  byte_same i h = get_or-append s more 0 i h

  pub bytes_same : (at n : ℕ) → at + n ≤ length s → bytes_from t at n ≡ bytes_from s at n
  unfolding bytes_from
  bytes_same at zero h = refl
  bytes_same at (suc n) h =
      let first : get_or t at 0 ≡ get_or s at 0 = byte_same at (omega arith) in
      let rest : bytes_from t (at + 1) n ≡ bytes_from s (at + 1) n = bytes_same (at + 1) n (omega arith) in
      cc

  pub le16_same : (at : ℕ) → at + 2 ≤ length s → le16 t at ≡ le16 s at
  le16_same at h = le16_moved t s at at (bytes_same at 2 h)

  pub le32_same : (at : ℕ) → at + 4 ≤ length s → le32 t at ≡ le32 s at
  le32_same at h = le32_moved t s at at (bytes_same at 4 h)

  pub value_same : (kind at len : ℕ) → InKind s at len kind → at + len ≤ length s → value_at t kind at len ≡ value_at s kind at len
  value_same kind at len k h = sym (value_moved s t kind at at len k (sym (bytes_same at len h)))
