use Rattle.std.proofs.Common.{sym, subst, false}
use Rattle.tb_core.specs.OperandOrder.{order_of}
use Rattle.tb_core.specs.Rules.{KeepsRules}
use Rattle.tb_sexp.specs.View as sexp
use Rattle.tb_twobit.proofs.Completeness.{comes-to-end}
use Rattle.tb_twobit.proofs.laws.enough_comes_to_the_end.Goals as goal

pub returns : goal.returns
returns c = record {
  law = comes-to-end (record {
    not_both = c.one_answer_a_text.ensures.not_both;
    one_program = c.one_answer_a_text.ensures.one_program;
    reference = λ bytes p a input.
        let has = a.has in let own = has.program in
        let rules : KeepsRules p = subst KeepsRules (sym own.numbered)
        (c.numbered_programs_keep_rules.ensures false (sexp.trees has.elements) own.nodes own.means) in
        record {
          ends_last = c.ends_last.ensures.law p (order_of p) input;
          in_order = c.emits_in_order.ensures.step p (order_of p) input;
          all_end = λ es h. c.all_events_end.ensures.law p input es rules h;
        };
  });
}
