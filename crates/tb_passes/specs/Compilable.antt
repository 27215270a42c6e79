-- Which programs of the core language have code.
use Rattle.std.specs.Prelude.{◌≤◌, nat_lt, Bool, true, All, length, IsOk}
use Rattle.tb_prim.specs.declared.constant.Const.{Const}
use Rattle.tb_core.specs.Limits.{judge_program}
use Rattle.tb_core.specs.Rules.{Each, EachAll, Every, KeepsRules}
use Rattle.tb_core.specs.Tree.{LambdaTree, ProgramTree}
use Rattle.tb_mac.specs.Layout.{statics_size}
use Rattle.tb_mac.specs.Rules.{NameOk}
use Rattle.tb_assign.specs.Constants.{Passes}

-- a character is a byte
abbrev pub is_byte : Const → Bool
is_byte (Const.Char c) = nat_lt c 256
is_byte _ = true

-- what code refers to is not too much: at most 1,000,000 globals and as many static objects, of 4,194,304 words, names of
-- 1 to 255 bytes, and characters that are bytes
pub record HasParts (p : ProgramTree) : Type 0 where
  pub few_globals : length p.globals ≤ 1000000
  pub few_statics : length p.statics ≤ 1000000
  pub names : All NameOk p.globals
  pub few_words : statics_size p.statics ≤ 4194304
  pub form_bytes : EachAll (λ s f. Passes is_byte f) p.forms
  pub body_bytes : Every (λ (l : LambdaTree). Each (λ s f. Passes is_byte f) l.body) p.lambdas

-- a program that keeps its rules, offends no limit of the core language, and does not refer to too much
pub record IsCompilable (p : ProgramTree) : Type 0 where
  pub rules : KeepsRules p
  pub within : IsOk (judge_program p)
  pub parts : HasParts p
