-- The worked listing, whole: what the definitions print for its file, computed. Assumes nothing.
use mathlib.Core.Path.{◌≡◌, refl}
use Rattle.model.specs.Store.{at, write, placed, zeroed_to, zeroed, new}
use Rattle.model.specs.Freelist.{live_places, live_count, next_free, link_to}
use Rattle.model.specs.Audit.{walked, chain_verdict, shape_verdict, verdict}
use Rattle.model.specs.Sequence.{field, command_from}
use Rattle.model.specs.Refusals.{tables_unfit, header_unfit, zero_ptr, root_unsound, removal_unsound, journal_short, invalid_index, invalid_ptr, not_within_capacity, wrong_length, wrong_mark, wrong_places, bad_command, first_bad}
use Rattle.model.specs.Calls.{unless, answered, step_at, insert_refusal, inserted, insert, removed, remove_refusal, remove, ptr_refusal, invalidate, get, store_refusal, clear_step, cleared, clear, laid, compress_refusal, rows_of, gathered, compress}
use Rattle.model.specs.Perform.{perform}
use Rattle.model.specs.Run.{call_of, step_refusal, sequence_step, raised, after_step, steps, run}
use Rattle.model.specs.Listing.{bytes, digits, word, command_line, lines, total, sum_line, listed, listing}
use Rattle.model.specs.Worked.{worked_file, worked_listing}

pub worked : listing worked_file ≡ worked_listing
unfolding worked_file worked_listing unless answered at write placed zeroed_to zeroed new live_places live_count next_free link_to walked chain_verdict shape_verdict verdict field command_from tables_unfit header_unfit zero_ptr root_unsound removal_unsound journal_short invalid_index invalid_ptr not_within_capacity wrong_length wrong_mark wrong_places bad_command first_bad step_at insert_refusal inserted insert removed remove_refusal remove ptr_refusal invalidate get store_refusal clear_step cleared clear laid compress_refusal rows_of gathered compress perform call_of step_refusal sequence_step raised after_step steps run bytes digits word command_line lines total sum_line listed listing
worked = refl
