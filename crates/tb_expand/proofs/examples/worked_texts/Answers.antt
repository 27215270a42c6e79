use Rattle.std.proofs.Common.{refl, false}
use Rattle.tb_expand.specs.Names.{same_name}
use Rattle.tb_expand.specs.Words.{forms, later_forms, word_of}
use Rattle.tb_expand.specs.Scopes.{binding}
use Rattle.tb_expand.specs.Limits.{opened, counted, with_constant}
use Rattle.tb_expand.specs.Expressions.{expression}
use Rattle.tb_expand.specs.Bodies.{kind}
use Rattle.tb_expand.specs.Outside.{library_names, left_out_names, is_one_of, is_outside}
use Rattle.tb_expand.specs.Texts.{no_state, top_context, top_kind, a_text}
use Rattle.tb_expand.specs.calls.Expand.{on, on_limit}
use Rattle.tb_expand.specs.Examples as text
use Rattle.tb_expand.proofs.Sound.{forms_sound}
use Rattle.tb_expand.proofs.examples.worked_texts.Goals as goal

pub returns : goal.returns
unfolding on on_limit expression kind top_kind word_of forms later_forms same_name binding opened counted with_constant library_names left_out_names is_one_of is_outside
returns c = record {
  binding = a_text (forms_sound 20 no_state (top_context false) text.binding) refl;
  splitting = a_text (forms_sound 20 no_state (top_context false) text.splitting) refl;
  hiding = a_text (forms_sound 20 no_state (top_context false) text.hiding) refl;
  beginning = a_text (forms_sound 20 no_state (top_context false) text.beginning) refl;
  hidden_define = a_text (forms_sound 20 no_state (top_context false) text.hidden_define) refl;
  symbols = a_text (forms_sound 20 no_state (top_context false) text.symbols) refl;
  globals = a_text (forms_sound 20 no_state (top_context false) text.globals) refl;
}
