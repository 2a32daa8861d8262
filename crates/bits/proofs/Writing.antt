-- What a writer wrote, from a `Put` on its buffer and back, and one writing after the other. Assumes nothing.
use Prim.Native.Nat.{ℕ, ◌+◌, ◌≤◌}
use native.Mathlib.Omega.{arith}
use mathlib.Core.Path.{◌≡◌, refl, sym, ap, subst, ◌∙◌}
use mathlib.Core.List.{List, [], ◌++◌, append-nil}
use lib.ListN.{length, length-append, take, drop, length-drop, take-append-drop}
use lib.Seq.{drop-drop}
use Rattle.std.proofs.lemmas.List.{take_at, drop_at, length-take-le}
use Rattle.std.proofs.Common.{append_assoc}
use Rattle.bits.specs.Patch.{Put}
use Rattle.bits.proofs.Patches.{patch_parts}
use Rattle.bits.specs.declared.writer.Writer.{Writer}
use Rattle.bits.specs.Writer.{Writes, written, unwritten}

module _ (o xs o' : List ℕ) (at n r : ℕ) (p : Put o at n xs o' r) (h : at + n ≤ length o) where
  parts : o' ≡ (take at o ++ xs) ++ drop (at + n) o
  parts =
      let fits : at + length xs ≤ length o = omega (arith, h, p.long) in
      p.put ∙ patch_parts o at xs fits ∙ rw p.long

  front : length (take at o ++ xs) ≡ r
  front =
      let taken : length (take at o) ≡ at = length-take-le at o (omega (arith, h)) in
      rw (length-append, taken) (omega (arith, p.long, p.next))

  before : take r o' ≡ take at o ++ xs
  before = rw parts (take_at (take at o ++ xs) (drop (at + n) o) r front)

  after : drop r o' ≡ drop n (drop at o)
  after = rw parts (drop_at (take at o ++ xs) (drop (at + n) o) r front ∙ sym (drop-drop n at o))

  as_long : length o' ≡ length o
  as_long = rw parts (rw (length-append, front, length-drop) (omega (arith, h, p.next)))

-- the writer's fact from `Put` on its buffer
pub writes_put : (w w' : Writer) (n : ℕ) (xs : List ℕ) → w'.out.ghost_name ≡ w.out.ghost_name → Put w.out.now w.at n xs w'.out.now w'.at → w.at + n ≤ length w.out.now → Writes w n xs w'
unfolding written unwritten
writes_put w w' n xs e p h = record {
  buffer = e;
  written = before w.out.now xs w'.out.now w.at n w'.at p h;
  unwritten = after w.out.now xs w'.out.now w.at n w'.at p h;
  next = p.next;
  long = as_long w.out.now xs w'.out.now w.at n w'.at p h;
}

-- and back
pub put_writes : (w w' : Writer) (n : ℕ) (xs : List ℕ) → Writes w n xs w' → w.at + n ≤ length w.out.now → Put w.out.now w.at n xs w'.out.now w'.at
unfolding written unwritten
put_writes w w' n xs p h =
    let taken : length (take w.at w.out.now) ≡ w.at = length-take-le w.at w.out.now (omega arith) in
    let taken' : length (take w'.at w'.out.now) ≡ w'.at = length-take-le w'.at w'.out.now (omega (arith, p.next, p.long, h)) in
    let both : length (take w'.at w'.out.now) ≡ length (take w.at w.out.now) + length xs = ap length p.written ∙ length-append (take w.at w.out.now) xs in
    let long : length xs ≡ n = omega (arith, p.next, both, taken, taken') in
    let fits : w.at + length xs ≤ length w.out.now = omega (arith, h, long) in
    record {
      next = p.next;
      long = long;
      put = sym (take-append-drop w'.at w'.out.now) ∙ rw (p.written, p.unwritten, drop-drop n w.at w.out.now, ← long) (sym (patch_parts w.out.now w.at xs fits));
    }

-- nothing written
pub writes_none : (w : Writer) → Writes w 0 [] w
unfolding written unwritten
writes_none w = record {
  buffer = refl;
  written = sym (append-nil (take w.at w.out.now));
  unwritten = refl;
  next = omega arith;
  long = refl;
}

-- one writer after the other
pub ◌then◌ : {w w' w'' : Writer} {xs ys : List ℕ} {n m : ℕ} → Writes w n xs w' → Writes w' m ys w'' → Writes w (n + m) (xs ++ ys) w''
◌then◌ {w} {w'} {w''} {xs} {ys} {n} {m} p q = record {
  buffer = q.buffer ∙ p.buffer;
  written = q.written ∙ rw p.written (append_assoc (written w) xs ys);
  unwritten = q.unwritten ∙ rw p.unwritten (drop-drop m n (unwritten w));
  next = omega (arith, p.next, q.next);
  long = q.long ∙ p.long;
}

infixl 4 ◌then◌
pub ◌counted◌ : {w w' : Writer} {xs : List ℕ} {n m : ℕ} → Writes w n xs w' → n ≡ m → Writes w m xs w'
◌counted◌ {w} {w'} {xs} p e = subst (λ (k : ℕ). Writes w k xs w') e p

infixl 3 ◌counted◌
