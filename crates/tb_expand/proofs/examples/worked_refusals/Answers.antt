use Rattle.std.proofs.Common.{refl, false}
use Rattle.tb_expand.specs.Names.{same_name}
use Rattle.tb_expand.specs.Words.{forms, later_forms, word_of}
use Rattle.tb_expand.specs.Scopes.{binding}
use Rattle.tb_expand.specs.Limits.{opened, counted, with_constant}
use Rattle.tb_expand.specs.Expressions.{expression}
use Rattle.tb_expand.specs.Bodies.{kind}
use Rattle.tb_expand.specs.Outside.{library_names, left_out_names, is_one_of, is_outside}
use Rattle.tb_expand.specs.Texts.{no_state, top_context, top_kind, in_text, outside_text}
use Rattle.tb_expand.specs.calls.Expand.{on, on_limit}
use Rattle.tb_expand.specs.Examples as text
use Rattle.tb_expand.proofs.Sound.{forms_sound}
use Rattle.tb_expand.proofs.examples.worked_refusals.Goals as goal

pub returns : goal.returns
unfolding on on_limit expression kind top_kind word_of forms later_forms same_name binding opened counted with_constant library_names left_out_names is_one_of is_outside
returns c = record {
  shapeless = in_text (forms_sound 20 no_state (top_context false) text.shapeless);
  integrated = in_text (forms_sound 20 no_state (top_context false) text.integrated);
  twice = in_text (forms_sound 20 no_state (top_context false) text.twice);
  scanned_first = in_text (forms_sound 20 no_state (top_context false) text.scanned_first);
  too_late = in_text (forms_sound 20 no_state (top_context false) text.too_late);
  mixed = in_text (forms_sound 20 no_state (top_context false) text.mixed);
  outside = outside_text (forms_sound 20 no_state (top_context false) text.outside) refl;
  unbuilt = in_text (forms_sound 20 no_state (top_context false) text.unbuilt);
}
