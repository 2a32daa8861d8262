-- The bytes of one more read stand behind those that the buffer had, and left the input after them.
use Rattle.std.proofs.Common.{◌≡◌, ℕ, ◌+◌, ◌≤◌, List, ◌++◌, rules, length, take, sym, ap, ◌∙◌, subst, length-take-le}
use Rattle.std.proofs.Math.Seq.{take-append-add}
use Rattle.std.proofs.lemmas.List.{take-append-le}
use Rattle.std.specs.Io.KnownBytes.{Consumes}
use Rattle.std.proofs.KnownBytes.{Consumes-trans}
use borrow.Rule.Slice.PartMut.{put_mid, post_of}
use Rattle.input.proofs.read_full.Goals as goal

take-put_mid_more : (a k n : ℕ) (xs ys : List ℕ) → a ≤ length xs → n ≤ length ys → take (a + n) (put_mid a k xs ys) ≡ take a xs ++ take n ys
take-put_mid_more a k n xs ys within fits =
    let after = ys ++ post_of a k xs in
    ap (λ m. take (m + n) (take a xs ++ after)) (sym (length-take-le a xs within)) ∙ take-append-add (take a xs) after n ∙ ap (λ l. take a xs ++ l) (take-append-le n ys _ fits)

pub loop-done-preserved : goal.loop-done-preserved
loop-done-preserved g c = record {
  within = search rules;
  bytes =
      subst (Consumes _ _)
      (sym (take-put_mid_more c.loop-done.done _ c.in_ok-n.n c.loop-done.buf c.read.new.buf c.loop-done.invariant.within c.in_ok-n.ensures.bound.0))
      (Consumes-trans _ _ _ _ _ c.loop-done.invariant.bytes c.in_ok-n.ensures.bytes.0);
}
