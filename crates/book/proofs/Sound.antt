-- After every list the store is sound. Assumes nothing.
use Rattle.book.specs.Machine.{defined, begun, run_of}
use Rattle.book.specs.Sound.{AlwaysSound}
use Rattle.book.proofs.Tested.{tidy_tables, tidy_header, tidy_count, tidy_root, tidy_removal, tidy_verdict}
use Rattle.book.proofs.Theorem.{run_kept, new_kept}

pub always_sound : AlwaysSound defined
unfolding AlwaysSound
always_sound C h es c =
    let s = (run_of defined C es).store in
    let t = (run_kept es (begun C) (new_kept C h) c).tidy in
    record {
      audit = tidy_verdict C s t;
      tables = tidy_tables C s t;
      header = tidy_header C s t;
      count = tidy_count C s t;
      root = tidy_root C s t;
      removal = λ i. tidy_removal C s i t;
    }
