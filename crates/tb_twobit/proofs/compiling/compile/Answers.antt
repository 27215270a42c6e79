use Rattle.std.proofs.Common.{map, sym, subst, false}
use Rattle.tb_core.specs.View.{view_program}
use Rattle.tb_expand.specs.Programs.{IsProgramOf}
use Rattle.tb_expand.specs.Texts.{RefusesText}
use Rattle.tb_expand.specs.View.{Fails}
use Rattle.tb_sexp.specs.View as sexp
use Rattle.tb_twobit.specs.Refusals.{IsNotCompiled, past_limit}
use Rattle.tb_twobit.proofs.Compilable.{ExpanderLaws, read-has-code}
use Rattle.tb_twobit.proofs.GoParts.{err_so, not_read, unexpanded}
use Rattle.tb_twobit.proofs.compiling.compile.Goals as goal

pub returns-in_err-datums : goal.returns-in_err-datums
returns-in_err-datums c =
    err_so c.from_residual.result _ _ _ c.from_residual.ensures.1
    (λ e same. subst (IsNotCompiled c.args.text.now) (sym same)
    (not_read c.args.text.now c.in_err-datums.field-0.0 c.in_err-datums.ensures.refused))

pub returns-in_err-program : goal.returns-in_err-program
returns-in_err-program c =
    err_so c.from_residual-in_err-program.result _ _ _ c.from_residual-in_err-program.ensures.1
    (λ e same. subst (IsNotCompiled c.args.text.now) (sym same)
    (unexpanded c.args.text.now (map sexp.view c.in_ok-datums.datums.items) c.in_err-program.field-0.0
    c.in_ok-datums.ensures.found
    (subst (λ ds. Fails (RefusesText false (sexp.trees (map sexp.view ds))) c.in_err-program.field-0.0)
    c.as_slice.ensures.value c.in_err-program.ensures)))

pub returns-in_err-check : goal.returns-in_err-check
returns-in_err-check c =
    err_so c.from_residual-in_err-check.result _ _ _ c.from_residual-in_err-check.ensures.1
    (λ e same. subst (IsNotCompiled c.args.text.now) (sym same)
    (past_limit c.in_err-check.field-0.0 (view_program c.in_ok-program.program)
    (record {
      elements = map sexp.view c.in_ok-datums.datums.items;
      text = c.in_ok-datums.ensures.found;
      program = subst
          (λ ds. IsProgramOf false (sexp.trees (map sexp.view ds)) (view_program c.in_ok-program.program))
          c.as_slice.ensures.value c.in_ok-program.ensures;
    }) c.in_err-check.ensures.first_offence))

pub code_of_program-requires : goal.code_of_program-requires
code_of_program-requires c =
    let laws : ExpanderLaws = record {
      plain = c.read_data_are_plain.ensures.law;
      rules = c.numbered_programs_keep_rules.ensures false;
      globals = c.texts_name_few_globals.ensures false;
      names = c.global_names_are_long.ensures false;
      objects = c.texts_make_few_statics.ensures.objects false;
      words = c.texts_make_few_statics.ensures.words false;
      forms = c.characters_are_bytes.ensures.forms false 256;
      bodies = c.characters_are_bytes.ensures.lambdas false 256;
    } in
    read-has-code laws (map sexp.view c.in_ok-datums.datums.items) c.in_ok-datums.ensures.kept
    (view_program c.in_ok-program.program)
    (subst
    (λ ds. IsProgramOf false (sexp.trees (map sexp.view ds)) (view_program c.in_ok-program.program))
    c.as_slice.ensures.value c.in_ok-program.ensures)
    c.in_ok-check.ensures.first_offence

pub returns : goal.returns
returns c =
    let laws : ExpanderLaws = record {
      plain = c.read_data_are_plain.ensures.law;
      rules = c.numbered_programs_keep_rules.ensures false;
      globals = c.texts_name_few_globals.ensures false;
      names = c.global_names_are_long.ensures false;
      objects = c.texts_make_few_statics.ensures.objects false;
      words = c.texts_make_few_statics.ensures.words false;
      forms = c.characters_are_bytes.ensures.forms false 256;
      bodies = c.characters_are_bytes.ensures.lambdas false 256;
    } in
    let program = subst
    (λ ds. IsProgramOf false (sexp.trees (map sexp.view ds)) (view_program c.in_ok-program.program))
    c.as_slice.ensures.value c.in_ok-program.ensures in
    record {
      program = view_program c.in_ok-program.program;
      accepted = record {
        has = record {
          elements = map sexp.view c.in_ok-datums.datums.items;
          text = c.in_ok-datums.ensures.found;
          program = program;
        };
        within = c.in_ok-check.ensures.first_offence;
      };
      has_code = read-has-code laws (map sexp.view c.in_ok-datums.datums.items) c.in_ok-datums.ensures.kept
          (view_program c.in_ok-program.program) program c.in_ok-check.ensures.first_offence;
      own_code = c.in_ok-code.ensures;
    }
