-- The child is named by `gen_result` and measured by `primitive_size`. Assumes nothing.
use mathlib.Core.Path.{refl, ap, ◌∙◌}
use native.Mathlib.Omega.{arith}
use Prim.Native.Nat.{ℕ, ◌<◌}
use lib.ListN.{length}
use Rattle.std.proofs.lemmas.List.{get_or_default}
use Rattle.results.specs.Means.{entry_is}
use Rattle.convert.proofs.Tables.push.Goals as goal

pub returns : goal.returns
returns c =
    let s = c.args.s.now in
    let k = c.args.self.now.results.count in
    let names = c.gen_result-self.new.names in
    let stored : k < length names = omega (arith, c.gen_result-self.ensures.state.table.long, c.requires.named.1) in
    record {
      nodes = refl;
      named = c.gen_result-self.ensures;
      name = c.name-name.result;
      called = c.name-name.ensures.exact s ∙ ap (λ (e : ℕ). entry_is s e) (get_or_default names k c.index-self-k.result 0 stored);
      size = c.primitive_size-size.result;
      exact = c.primitive_size-size.ensures.0;
      small = c.primitive_size-size.ensures.1;
      sizes = refl;
      total = refl;
    }
