-- Every example of the table holds: the checker computes the rules, the supplies, the searches, the tables in all forms, the files, their
-- checks, the refusals, the pieces and the rides, and compares.
use lib.Dec.{T}
use Rattle.words.specs.Lists.{from, only, first}
use Rattle.words.specs.Words.{same, stands, occurrences}
use Rattle.words.specs.Limits.{longest_word, longest_text, longest_streamed, longest_storacle, least_saved, greatest_file}
use Rattle.oracle.specs.Arrows.{target, walk, spine}
use Rattle.oracle.specs.SuffixRule.{far, mend, missing, extras_after, extra_arrows, suffix_rule}
use Rattle.oracle.specs.LetterRule.{climb, add_letter, built_up_to, letter_rule}
use Rattle.oracle.specs.Supply.{ends, twice, repeated, supply}
use Rattle.oracle.specs.FileOrder.{leads_to, extra_targets, extras_before, file_arrows, targets_before}
use Rattle.border.specs.Borders.{longest, closes, longest_border, borders}
use Rattle.backward.specs.Steps.{read_down, after_find, windows, steps, backward}
use Rattle.turbo_steps.specs.Turbo.{forward, turbo_windows, turbo_steps, turbo}
use Rattle.table.specs.Table.{table_from, table_of}
use Rattle.failure.specs.FailureRule.{failure_of, ask, path_end, ask_in, repair, after_suffix, failure_rule, failure_walk}
use Rattle.failure.specs.FailureSteps.{read_both, failure_windows, failure_steps_with, failure_steps}
use Rattle.failure_table.specs.FailureTable.{word_alone, slotted, lay_failures, lay_arrows, failure_table_from, failure_table}
use Rattle.storacle.specs.StoracleRule.{first_in, until_walked, storacle_after, storacle_rule}
use Rattle.storacle_table.specs.StoracleTable.{cell_of, blank, storacle_table_from, storacle_table}
use Rattle.storacle_entries.specs.StoracleBuild.{storacle_build_says}
use Rattle.compact.specs.Compact.{is_arrow, as_list, from_bits, set_word, targets_up_to}
use Rattle.compact.specs.Compact.{sets_from, compact_from, compact_sets, compact_table}
use Rattle.compact_entries.specs.CompactBuild.{compact_build_says}
use Rattle.compact_entries.specs.CompactSearch.{compact_search_says}
use Rattle.number.specs.Number.{groups, spell_number, refuses, see, see_number, number_at}
use Rattle.saved.specs.File.{edition, steps_from, spell_steps, own_steps, body, spell}
use Rattle.loaded.specs.Load.{front_within, two_at, arrows_at, ending}
use Rattle.crc.specs.Check.{shifted, fed, digits, bits_of, check, sealed}
use Rattle.editions.specs.Either.{as_plain, ending_either, verdict_either}
use Rattle.mark_files.specs.Load.{load_within}
use Rattle.mark_files.specs.Save.{save_in}
use Rattle.finds.specs.Finds.{filled}
use Rattle.two_lists.specs.TwoLists.{filled_to}
use Rattle.rides.specs.Rides.{dot_fit, allowed, data_size, header_inside, in_header, kind_of, rides_at, rides}
use Rattle.salvage.specs.Salvage.{salvage_says}
use Rattle.pieces.specs.Kept.{kept}
use Rattle.stream.specs.Searchers.{searcher_of, after, finds, makeable}
use Rattle.stream.specs.Pieces.{joined}
use Rattle.stream.specs.Opening.{open_says}
use Rattle.stream.specs.Taking.{take_says}
use Rattle.examples.specs.Examples.{is, is_none, walked, empty, has, fails_to, gives, is_refused, is_refused_at}
use Rattle.examples.specs.Examples.{load_in_rooms, leaves, refuses_in, refuses_to_save}
use Rattle.examples.specs.Examples.{shows, is_done_with, is_tallied, taken_in_turn, holds, all_hold, word, digit, bytes, table}

pub examples_hold : T (all_hold table)
unfolding from only first same stands occurrences longest_word longest_text longest_streamed longest_storacle least_saved greatest_file
    target walk spine far mend missing extras_after extra_arrows suffix_rule climb add_letter built_up_to letter_rule
    ends twice repeated supply leads_to extra_targets extras_before file_arrows targets_before table_from table_of
    longest closes longest_border borders filled kept searcher_of after finds makeable open_says take_says
    read_down after_find windows steps backward forward turbo_windows turbo_steps turbo
    failure_of ask path_end ask_in repair after_suffix failure_rule failure_walk read_both failure_windows failure_steps_with failure_steps
    word_alone slotted lay_failures lay_arrows failure_table_from failure_table
    first_in until_walked storacle_after storacle_rule cell_of blank storacle_table_from storacle_table storacle_build_says
    is_arrow as_list from_bits set_word targets_up_to sets_from compact_from compact_sets compact_table compact_build_says
    compact_search_says
    groups spell_number refuses see see_number number_at edition steps_from spell_steps own_steps body spell
    front_within two_at arrows_at ending as_plain ending_either verdict_either load_within save_in
    shifted fed digits bits_of check sealed
    filled_to dot_fit allowed data_size header_inside in_header kind_of rides_at rides salvage_says
    is is_none walked empty has fails_to joined gives is_refused is_refused_at load_in_rooms leaves refuses_in refuses_to_save shows
    is_done_with
    is_tallied taken_in_turn holds all_hold word digit bytes table
examples_hold = tt
