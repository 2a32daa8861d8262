-- The words that were passed are not the text. Assumes nothing.
use Rattle.std.proofs.Common.{◌≡◌, map, drop}
use Rattle.bits.specs.Texts.{maybe_text_is}
use Rattle.fe.specs.Keywords.{keyword}
use Rattle.fe.proofs.keyword.Given as goal

abbrev pub invariant-loop-word : goal.invariant-loop-word
invariant-loop-word g l =
    keyword (map (λ p. (p.0.now, p.1)) (drop l.word-index l.words)) l.default (maybe_text_is l.s l.t)
    ≡ keyword (map (λ p. (p.0.now, p.1)) l.words) l.default (maybe_text_is l.s l.t)
