use Rattle.std.proofs.Common.{refl}
use Rattle.tb_sparc.proofs.examples.operations_compute.Goals as goal

pub returns : goal.returns
returns c =
    record {
      codes = record {
        add_overflows = refl;
        add_carries = refl;
        add_both = refl;
        sub_borrows = refl;
        sub_overflows = refl;
        sub_equal = refl;
        and_clears = refl;
        or_clears = refl;
      };
      tags = record {
        first = refl;
        second = refl;
        fits = refl;
        outside = refl;
        sub_tag = refl;
        sub_outside = refl;
        sub_fits = refl;
        sum = record { goes = refl; next = refl; holds = refl };
      };
      products = record {
        low = record { goes = refl; next = refl; holds = refl };
        high = record { goes = refl; next = refl; holds = refl };
        high_one = record { goes = refl; next = refl; holds = refl };
        long = record { goes = refl; next = refl; holds = refl };
        truncates = record { goes = refl; next = refl; holds = refl };
        by_zero = refl;
        outside = refl;
        xor_to_y = record { goes = refl; next = refl; holds = refl };
        right = record { goes = refl; next = refl; holds = refl };
        right_signed = record { goes = refl; next = refl; holds = refl };
        left = record { goes = refl; next = refl; holds = refl };
        count = record { goes = refl; next = refl; holds = refl };
        difference = record { goes = refl; next = refl; holds = refl };
        logic = record { goes = refl; next = refl; holds = refl };
        zero = record { goes = refl; next = refl; holds = refl };
      };
    }
