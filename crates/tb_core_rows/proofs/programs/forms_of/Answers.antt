use Rattle.std.proofs.Common.{◌≤◌, length, sym, subst, arith}
use Rattle.tb_core.specs.Rules.{Every}
use Rattle.tb_core.specs.View.{view}
use Rattle.tb_core_rows.specs.Quiet.{IsPlain}
use Rattle.tb_core_rows.proofs.Quiets.{plain_push, forms_keep}
use Rattle.tb_core_rows.proofs.programs.forms_of.Goals as goal
use Rattle.tb_core_rows.proofs.programs.forms_of.Goals.{then-has_last+in_ok-push, else-has_last}

pub alone-requires : goal.alone-requires
alone-requires c =
    let n = c.args.width in
    let k = c.args.count in
    let old = c.in_ok-forms.ensures in
    let few = c.requires.count in
    let some = c.requires.some in
    let all : (length c.if-has_last.forms.items ≤ 21) × Every (λ e. IsPlain n (view e)) c.if-has_last.forms.items =
    elim c.if-has_last.branch [
      | then-has_last+in_ok-push w ↦
          let h = plain_push n 1 k c.in_ok-forms.forms.items w.push.new.self.items w.constant.result w.in_ok-push.ensures.items old.count (omega arith) old.plain w.constant.ensures in
          subst (λ v. (length v.items ≤ 21) × Every (λ e. IsPlain n (view e)) v.items) (sym w.forms-is) (omega (arith, h.0), h.1)
      | else-has_last w ↦ subst (λ v. (length v.items ≤ 21) × Every (λ e. IsPlain n (view e)) v.items) (sym w.forms-is) (omega (arith, old.count), old.plain)
    ] in
    forms_keep n c.if-has_last.forms.items c.requires.few all.0 all.1
