-- What a run of entries opens so that it can be computed. Assumes nothing.
use Rattle.model.specs.Store.{at, write, placed, zeroed_to, zeroed, new}
use Rattle.model.specs.Freelist.{live_places, live_count, first_live, last_live, next_free, link_to, trimmed, chained}
use Rattle.model.specs.Audit.{walked, chain_verdict, shape_verdict, verdict}
use Rattle.model.specs.Sequence.{field, command_from}
use Rattle.model.specs.Refusals.{tables_unfit, header_unfit, zero_ptr, count_wrong, root_unsound, removal_unsound, journal_short, invalid_index, invalid_ptr, not_within_capacity, wrong_length, wrong_mark, wrong_places, bad_command, first_bad}
use Rattle.model.specs.Calls.{unless, unless_both, unless_at, answered, step_at, insert_refusal, inserted, insert, removed, remove_refusal, remove, remove_index_refusal, remove_index, ptr_refusal, invalidate, get, store_refusal, clear_step, cleared, clear, ordered, compress_refusal, rows_of, laid, gathered, compress, steps_from, transfer_refusal, removed_all, transfer, copy_refusal, up_to, copied, copy, moved, sought, drain_refusal, drained, drain, set_generation_refusal, set_generation, step_generation}
use Rattle.model.specs.Calls.{insert_reallocating_refusal, insert_reallocating, put, order_refusal, order}
use Rattle.model.specs.Calls.{reserve_refusal, reserve, advance, find_first, find_last, audit}
use Rattle.model.specs.Perform.{perform}
use Rattle.model.specs.Run.{call_of, step_refusal, sequence_step, raised, after_step, steps, run}
use Rattle.book.specs.Book.{holding, new_ptr, effect, entered, gives, inserts, lookup, taken, all_taken}
use Rattle.book.specs.Machine.{defined, call_in, counts, reached}
use Rattle.book.specs.Covered.{overflows, left_out}
use Rattle.book.specs.Claim.{ClaimButAnswered}

-- The definitions, under one name: `unfolding computed` opens them all.
unfoldable pub computed : Unit {0}
unfolding at write placed zeroed_to zeroed new live_places live_count first_live last_live next_free link_to trimmed chained walked chain_verdict shape_verdict verdict field command_from tables_unfit header_unfit zero_ptr count_wrong root_unsound removal_unsound journal_short invalid_index invalid_ptr not_within_capacity wrong_length wrong_mark wrong_places bad_command first_bad unless unless_both unless_at answered step_at insert_refusal inserted insert removed remove_refusal remove remove_index_refusal remove_index ptr_refusal invalidate get store_refusal clear_step cleared clear ordered compress_refusal rows_of laid gathered compress steps_from transfer_refusal removed_all transfer copy_refusal up_to copied copy moved sought drain_refusal drained drain set_generation_refusal set_generation step_generation perform call_of step_refusal sequence_step raised after_step steps run holding new_ptr effect entered gives inserts lookup taken all_taken defined call_in counts reached overflows left_out ClaimButAnswered
computed = tt

-- Those of the calls that only a few lists make.
unfoldable pub computed_besides : Unit {0}
unfolding insert_reallocating_refusal insert_reallocating put order_refusal order reserve_refusal reserve advance
computed_besides = tt

unfoldable pub computed_looks : Unit {0}
unfolding find_first find_last audit
computed_looks = tt
