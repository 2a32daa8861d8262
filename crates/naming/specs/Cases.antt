-- Two cases that are found by computing: the counter's value, which list and rule share, so that the naming theorem alone does not fix it; and the search for a
-- made name.
use Rattle.std.specs.Prelude.{◌≡◌, refl, true, false, List, [], ◌∷◌, ◌++◌, map, ℕ, None, Some}
use Rattle.bits.specs.Bytes.{same}
use Rattle.bits.specs.Words.{word}
use Rattle.naming.specs.Names.{w_result, member, digits_up_to, digits, made_name, first_free_up_to, first_free, Own, Made, own_names, after_all, labels}

-- children with `a`, no result, `result4`, and no result twice: an explicit result adds 1, and a number that is skipped adds 1 like one that is used
pub counter_counts : labels (Some (word "a") ∷ None ∷ Some (word "result4") ∷ None ∷ None ∷ []) ≡ Own (word "a") ∷ Made 2 ∷ Own (word "result4") ∷ Made 5 ∷ Made 6 ∷ []
unfolding after_all first_free first_free_up_to member made_name digits digits_up_to own_names same
counter_counts = refl

-- a search for `result` and `7`, `8`, `9`, nothing, `07`, where the results are an explicit `result7`, one made of 8, an explicit `9` and an explicit
-- `result`: a made name does not count, nor do the digits alone
pub search_counts : map (λ (ds : List ℕ). member (w_result ++ ds) (own_names (Own (word "result7") ∷ Made 8 ∷ Own (word "9") ∷ Own (word "result") ∷ [])))
    (word "7" ∷ word "8" ∷ word "9" ∷ [] ∷ word "07" ∷ []) ≡ true ∷ false ∷ false ∷ true ∷ false ∷ []
unfolding member own_names same
search_counts = refl
