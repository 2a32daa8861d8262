-- Of a text that is a made name that name's entry is the key, and else its own. Assumes nothing.
use Rattle.bits.specs.Texts.{text_is}
use Rattle.results.proofs.Entries.{key_own}
use Rattle.results.proofs.key.Goals as goal

pub returns-in-None : goal.returns-in-None
returns-in-None c =
    let a = c.args in
    key_own a.s.now (text_is a.s.now a.t) c.own.result c.in-None.ensures c.own.ensures
