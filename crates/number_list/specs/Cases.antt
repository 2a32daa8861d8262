-- Typed lists, found by computing: what comes of a text. Every text is one of bytes; a byte that cannot be seen is given by its number.
use Rattle.std.specs.Prelude.{ℕ, zero, suc, ◌≡◌, refl, List, [], ◌∷◌, ◌++◌, map}
use Rattle.std.specs.Float.{binary32}
use Rattle.std.specs.Float.Ieee.{of_bits, round}
use Rattle.bits.specs.Words.{word}
use Rattle.num.specs.Narrowed.{narrowed}
use Rattle.decimal.specs.Grammar.{is_digit, is_e, unsigned, negative, leading_digits, after_digits, power, scaled, plain, pointed, signed, item_of}
use Rattle.decimal.specs.Limits.{whole_from, digit_count, in_limits}
use Rattle.decimal.specs.Value.{nearest_double, item_value}
use Rattle.number_list.specs.Text.{is_space, in_word, begins, joined, parts, and_more, items_from}
use Rattle.number_list.specs.Outcome.{TextOutcome, outside_grammar, outside_limits, passed, all_in_limits, items_outcome, text_outcome}

-- a text that passes, with each number as the bits of its f32
abbrev pub patterns : List ℕ → TextOutcome
patterns bs = passed (map (of_bits binary32) bs)

-- the bits of 1 and of 2
abbrev one_bits : ℕ
one_bits = 0x3f80_0000

abbrev two_bits : ℕ
two_bits = 0x4000_0000

-- a text of n items, each a `1` and a space, and the bits of its numbers
unfoldable pub ones_text : ℕ → List ℕ
ones_text zero = []
ones_text (suc n) = 49 ∷ 32 ∷ ones_text n

unfoldable pub ones_bits : ℕ → List ℕ
ones_bits zero = []
ones_bits (suc n) = one_bits ∷ ones_bits n

-- a text, and what comes of it
abbrev pub text_cases : List (List ℕ × TextOutcome)
text_cases =
    -- the empty list
    (word "", patterns [])
    ∷ (word "  ", patterns [])
    ∷ (9 ∷ 10 ∷ 13 ∷ 32 ∷ [], patterns [])
    -- one number, and outer white space
    ∷ (word "1", patterns (one_bits ∷ []))
    ∷ (word "  1 ", patterns (one_bits ∷ []))
    ∷ (word "-0", patterns (0x8000_0000 ∷ []))
    -- parted by white space, by a comma, by a comma among white space
    ∷ (word "1 2", patterns (one_bits ∷ two_bits ∷ []))
    ∷ (word "1   2", patterns (one_bits ∷ two_bits ∷ []))
    ∷ (9 ∷ 49 ∷ 10 ∷ 50 ∷ 13 ∷ [], patterns (one_bits ∷ two_bits ∷ []))
    ∷ (word "1,2", patterns (one_bits ∷ two_bits ∷ []))
    ∷ (word "1 , 2", patterns (one_bits ∷ two_bits ∷ []))
    ∷ (49 ∷ 44 ∷ 13 ∷ 10 ∷ 50 ∷ [], patterns (one_bits ∷ two_bits ∷ []))
    ∷ (word "1 -.5e1,2", patterns (one_bits ∷ 0xc0a0_0000 ∷ two_bits ∷ []))
    -- a comma stands between two items, and one only
    ∷ (word "1,,2", outside_grammar)
    ∷ (word "1 , , 2", outside_grammar)
    ∷ (word ",1", outside_grammar)
    ∷ (word "1,", outside_grammar)
    ∷ (word "1 2,", outside_grammar)
    ∷ (word "1 , ", outside_grammar)
    ∷ (word ",", outside_grammar)
    -- two items are always parted, and by nothing else
    ∷ (word "1-2", outside_grammar)
    ∷ (word "1.5.5", outside_grammar)
    ∷ (word "1;2", outside_grammar)
    ∷ (49 ∷ 12 ∷ 50 ∷ [], outside_grammar)
    ∷ (49 ∷ 11 ∷ 50 ∷ [], outside_grammar)
    ∷ (49 ∷ 0 ∷ 50 ∷ [], outside_grammar)
    ∷ (49 ∷ 0xc2 ∷ 0xa0 ∷ 50 ∷ [], outside_grammar)
    -- what is no number, in UTF-8 or not
    ∷ (word "1 x", outside_grammar)
    ∷ (word "1. 2", outside_grammar)
    ∷ (word "1 2%", outside_grammar)
    ∷ (0xff ∷ [], outside_grammar)
    ∷ (49 ∷ 32 ∷ 0xff ∷ [], outside_grammar)
    ∷ (0xef ∷ 0xbb ∷ 0xbf ∷ 49 ∷ [], outside_grammar)
    -- the limits are looked at where the whole text is in the grammar
    ∷ (word "1 1e23", outside_limits)
    ∷ (word "1e-23,1", outside_limits)
    ∷ (word "1 1000000000000000", outside_limits)
    ∷ (word "1e23 x", outside_grammar)
    ∷ (word "1e23 1,", outside_grammar)
    -- 1,024 items at most
    ∷ (ones_text 1024, patterns (ones_bits 1024))
    ∷ (ones_text 1025, outside_grammar)
    ∷ (ones_text 1023 ++ word "1e23", outside_limits)
    ∷ (ones_text 1024 ++ word "1e23", outside_grammar)
    ∷ []

pub text_cases_hold : map (λ (c : List ℕ × TextOutcome). text_outcome c.0) text_cases ≡ map (λ (c : List ℕ × TextOutcome). c.1) text_cases
unfolding is_digit is_e unsigned negative leading_digits after_digits power scaled plain pointed signed item_of whole_from digit_count in_limits nearest_double item_value narrowed round of_bits is_space in_word begins joined parts and_more items_from all_in_limits items_outcome ones_text ones_bits
text_cases_hold = refl
