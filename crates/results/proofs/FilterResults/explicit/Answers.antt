-- The higher of the highest number and the one whose made name the result is, if there is one: `max_old`, `max_key`. Assumes nothing.
use mathlib.Core.Path.{refl}
use Rattle.bits.specs.Texts.{text_is}
use Rattle.results.proofs.Highest.{max_old, max_key}
use Rattle.results.proofs.FilterResults.explicit.Goals as goal

pub returns : goal.returns
returns c =
    let f = c.args.self in
    let made = c.made_in.result in
    rw c.max-self.ensures
    (record { count = refl; idx = refl; old = max_old f.highest made; new = max_key f.highest made (text_is c.args.s.now c.args.t) c.made_in.ensures })
