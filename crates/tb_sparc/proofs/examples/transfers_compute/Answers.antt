use Rattle.std.proofs.Common.{refl}
use Rattle.tb_sparc.proofs.examples.transfers_compute.Goals as goal

pub returns : goal.returns
returns c =
    record {
      branches = record {
        taken = record { goes = refl; next = refl; holds = refl };
        not_taken = record { goes = refl; next = refl; holds = refl };
        annulled_taken = record { goes = refl; next = refl; holds = refl };
        annulled_not_taken = record { goes = refl; next = refl; holds = refl };
        always = record { goes = refl; next = refl; holds = refl };
        annulled_always = record { goes = refl; next = refl; holds = refl };
        annulled_never = record { goes = refl; next = refl; holds = refl };
        backward = record { goes = refl; next = refl; holds = refl };
      };
      calls = record {
        link = record { goes = refl; next = refl; holds = refl };
        back = record { goes = refl; next = refl; holds = refl };
        end = refl;
        odd = refl;
        behind = refl;
        no_instruction = refl;
      };
    }
