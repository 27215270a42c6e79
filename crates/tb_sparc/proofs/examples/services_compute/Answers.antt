use Rattle.std.proofs.Common.{refl}
use Rattle.tb_sparc.proofs.examples.services_compute.Goals as goal

pub returns : goal.returns
returns c =
    record {
      data_words = record {
        word = record { goes = refl; next = refl; holds = refl };
        high_byte = record { goes = refl; next = refl; holds = refl };
        byte = record { goes = refl; next = refl; holds = refl };
        last = record { goes = refl; next = refl; holds = refl };
        load_behind = refl;
        load_before = refl;
        load_code = refl;
        load_odd = refl;
        store_behind = refl;
        store_odd = refl;
      };
      services = record {
        end = refl;
        fails = refl;
        first_cause = refl;
        last_cause = refl;
        no_cause = refl;
        cause_zero = refl;
        no_place = refl;
        full = refl;
        not_full = refl;
        crossed = refl;
        puts = refl;
        no_letter = refl;
        reads = refl;
        reads_end = record { goes = refl; next = refl; holds = refl };
        peeked = refl;
        clears = record { goes = refl; next = refl; holds = refl };
        clears_others = record { goes = refl; next = refl; holds = refl };
        clears_none = record { goes = refl; next = refl; holds = refl };
        clears_too_many = refl;
        clears_odd = refl;
      };
      events = record {
        at_starts = refl;
        own_event = refl;
        put_alone = refl;
        clears_with_event = refl;
        again = refl;
        skipped = refl;
        fails_there = refl;
        fails_later = refl;
        fails_without = refl;
      };
    }
