-- A pair of twins, found by computing: an feMorphology with a typed radius, and with the same numbers in four bytes each.
use Rattle.std.specs.Prelude.{ℕ, zero, suc, ◌<◌, refl, List, ◌++◌}
use Rattle.std.proofs.Common.{arith}
use Rattle.std.specs.Float.Ieee.{of_bits, to_bits, round}
use Rattle.bits.specs.Bytes.{le16, le32, bytes_from, bytes32, same}
use Rattle.bits.specs.Utf8.{utf8_starting, utf8_step, utf8_run, utf8}
use Rattle.decimal.specs.Grammar.{is_digit, is_e, negative, unsigned, leading_digits, after_digits, power, scaled, plain, pointed, signed, item_of}
use Rattle.decimal.specs.Limits.{whole_from, digit_count, in_limits}
use Rattle.decimal.specs.Value.{nearest_double, item_value, item_value_in}
use Rattle.number_list.specs.Text.{is_space, in_word, begins, joined, parts, and_more, items_from}
use Rattle.number_list.specs.Outcome.{all_in_limits, items_outcome, words_in}
use Rattle.num.specs.Narrowed.{narrowed}
use Rattle.names.specs.Kinds.{on_child, among, kind_in, kind_at, kind_allowed}
use Rattle.svgtree.specs.Parse.{places_from}
use Rattle.field_tests.specs.Tests.{all, marked_ok}
use Rattle.sheet_layout.specs.Records.{entry_at, node_record_at, node_records_from}
use Rattle.sheet_layout.specs.Tests.{rising, sum}
use Rattle.sheet_layout.specs.Layout.{header_length_ok, header_lengths_ok, header_ok, touch, try_ok, tries_ok, bytes_ok, word_ok, entry_ok, entries_ok, node_head_ok, node_record_ok, depths_ok, layout_ok}
use Rattle.tree.specs.Scalars.{run_bytes}
use Rattle.zatongae.specs.Cases.{hex, user_space}
use Rattle.twins.specs.Twins.{Twins, TwinNodes, no_attributes, typed_list}

-- the radius is "0 5"
abbrev pub typed_sheet : List ℕ
typed_sheet = user_space ++ hex "0100 52000000 11000000" ++ hex "00 18 01 00 00000000" ++ hex "8300 07 00 0300 302035"

abbrev pub plain_sheet : List ℕ
plain_sheet = user_space ++ hex "0100 52000000 16000000" ++ hex "00 18 01 00 00000000" ++ hex "8300 03 00 0800 00000000 0000a040"

nodes_twins : (i : ℕ) → i < 1 → TwinNodes typed_sheet plain_sheet i
unfolding le16 le32 bytes_from places_from bytes32 run_bytes items_outcome all_in_limits words_in is_space begins in_word joined parts and_more items_from is_digit is_e negative unsigned leading_digits after_digits power scaled plain pointed signed item_of whole_from digit_count in_limits nearest_double item_value item_value_in round narrowed to_bits of_bits
nodes_twins zero h = record { head = refl; attributes = typed_list refl refl refl refl refl no_attributes }
nodes_twins (suc i) h = absurd (omega arith)

pub twin_case_holds : Twins typed_sheet plain_sheet
unfolding le16 le32 layout_ok header_ok header_lengths_ok header_length_ok touch node_record_ok node_head_ok entries_ok entry_ok word_ok bytes_ok tries_ok try_ok depths_ok node_records_from node_record_at entry_at rising sum all marked_ok on_child among kind_in kind_at kind_allowed bytes_from places_from utf8_starting utf8_step utf8_run utf8 same
twin_case_holds = record { layout = refl; twin_layout = refl; size = omega arith; twin_size = omega arith; front = refl; nodes = nodes_twins }
