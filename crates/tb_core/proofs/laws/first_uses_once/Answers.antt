use Rattle.std.proofs.Common.{ap, ◌∙◌, sym, [], ◌++◌, append-nil}
use Rattle.tb_core.specs.FirstUses.{first_of}
use Rattle.tb_core.proofs.FirstUses.{first_of-apart, first_of-in, first_of-append, first_of-without}
use Rattle.tb_core.proofs.laws.first_uses_once.Goals as goal

pub returns : goal.returns
returns c = record {
  once = first_of-apart [];
  same = first_of-in [];
  in_order = λ xs ys. first_of-append [] xs ys ∙ ap (λ zs. first_of [] xs ++ zs) (ap (λ t. first_of t ys) (sym (append-nil xs)) ∙ first_of-without xs [] ys);
}
