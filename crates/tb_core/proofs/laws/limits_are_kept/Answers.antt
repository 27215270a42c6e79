use Rattle.tb_core.proofs.ShortLines.{short-lines}
use Rattle.tb_core.proofs.WithinLimits.{forms-law, bodies-law, parameters-law, width-law, squares-law}
use Rattle.tb_core.proofs.laws.limits_are_kept.Goals as goal

pub returns : goal.returns
returns c = record {
  forms = forms-law;
  bodies = bodies-law;
  parameters = parameters-law;
  short_lines = short-lines;
  width = width-law;
  squares = squares-law;
}
