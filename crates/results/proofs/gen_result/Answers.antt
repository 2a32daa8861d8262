-- The new entry is stored behind the others: `explicit_stored`, `made_stored`. Assumes nothing.
use mathlib.Core.Path.{refl}
use Prim.Native.Nat.{◌-◌}
use Rattle.bits.specs.Texts.{text_is}
use Rattle.naming.specs.Names.{Own, Made}
use Rattle.results.proofs.Tables.{explicit_stored, made_stored}
use Rattle.results.proofs.gen_result.Goals as goal

pub returns-in-Some : goal.returns-in-Some
returns-in-Some c =
    let a = c.args in
    rw c.in-Some.is (explicit_stored a.s.now a.names.now a.f c.requires.0 c.requires.1 c.own.result (Own (text_is a.s.now c.in-Some.t)) c.own.ensures (text_is a.s.now c.in-Some.t) c.explicit.result refl c.explicit.ensures)

pub returns-in-None : goal.returns-in-None
returns-in-None c =
    let a = c.args in
    rw c.in-None.is (made_stored a.s.now a.names.now a.f c.requires.0 c.requires.1 c.made.result (Made (c.made-r.result.idx - 1)) (c.made.ensures.entry a.s.now) c.made-r.result c.made-r.ensures refl)
