-- The program of a whole text: the nodes that it means, with their numbers.
use Rattle.std.specs.Prelude.{◌≡◌, Bool}
use Rattle.tb_sexp.specs.Tree as datum
use Rattle.tb_core.specs.Tree.{ProgramTree}
use Rattle.tb_expand.specs.Trees.{Nodes}
use Rattle.tb_expand.specs.Texts.{MeansText}
use Rattle.tb_expand.specs.Numbers.{program_of}

-- a text has one meaning (`one_answer_a_text`), so this is one program
pub record IsProgramOf (library : Bool) (ds : datum.Trees) (p : ProgramTree) : Type 0 where
  pub nodes : Nodes
  pub means : MeansText library ds nodes
  pub numbered : p ≡ program_of library nodes
