-- The program of a text, why a text has none, and what compiling it answers.
use Rattle.std.specs.Prelude.{◌≡◌, ℕ, false, List, IsOk, Err}
use Rattle.tb_prim.specs.declared.place.Place.{Place}
use Rattle.tb_core.specs.Limits.{judge_program}
use Rattle.tb_core.specs.Tree.{ProgramTree}
use Rattle.tb_core.specs.declared.limits.CoreRefusal.{CoreRefusal}
use Rattle.tb_expand.specs.Programs.{IsProgramOf}
use Rattle.tb_expand.specs.Refusals as expand
use Rattle.tb_expand.specs.Texts.{RefusesText}
use Rattle.tb_mac.specs.Assembled.{Assembled}
use Rattle.tb_passes.specs.Compilable.{IsCompilable}
use Rattle.tb_passes.specs.Passes.{program_code}
use Rattle.tb_sexp.specs.declared.refusal.ReadRefusal.TheVariants as reading
use Rattle.tb_sexp.specs.Texts.{IsText, IsRefused}
use Rattle.tb_sexp.specs.Tree.{Tree}
use Rattle.tb_sexp.specs.View as sexp
use Rattle.tb_twobit.specs.declared.refusal.Refusal.{Refusal}
use Rattle.tb_twobit.specs.declared.refusal.RefusalKind.{RefusalKind}
use Rattle.tb_twobit.specs.declared.refusal.RefusalKind.TheVariants as kind
use Rattle.tb_twobit.specs.declared.refusal.CompileRefusal.{CompileRefusal}
use Rattle.tb_twobit.specs.declared.refusal.CompileRefusal.TheVariants.{Refused, NoMemory}

abbrev pub refusal : RefusalKind → Place → Refusal
refusal k p = record { kind = k; place = p }

-- a refusal of the expansion, and one of a limit of the core language, with its number
abbrev pub expansion_refusal : expand.Refusal → Refusal
expansion_refusal (expand.BadForm p) = refusal kind.BadForm p
expansion_refusal (expand.Integrated p) = refusal kind.Integrated p
expansion_refusal (expand.Duplicate p) = refusal kind.Duplicate p
expansion_refusal (expand.Budget p) = refusal kind.Budget p
expansion_refusal (expand.TooDeep p) = refusal kind.TooDeep p
expansion_refusal (expand.NotBuilt p) = refusal kind.NotBuilt p

abbrev pub limit_refusal : CoreRefusal → Refusal
limit_refusal (CoreRefusal.TooDeep p) = refusal kind.TooDeep p
limit_refusal (CoreRefusal.TooManyArgs p) = refusal kind.TooManyArgs p
limit_refusal (CoreRefusal.TooWide p) = refusal kind.TooWide p

-- a source text has this program: it spells data that mean it
pub record HasProgram (bytes : List ℕ) (p : ProgramTree) : Type 0 where
  pub elements : List Tree
  pub text : IsText false bytes elements
  pub program : IsProgramOf false (sexp.trees elements) p

-- a source text is accepted with this program, which offends no limit
pub record IsAccepted (bytes : List ℕ) (p : ProgramTree) : Type 0 where
  pub has : HasProgram bytes p
  pub within : IsOk (judge_program p)

-- why a source text is refused: while it is read, while its data are expanded, or at the limits of the core language
pub data IsRefusedWith (bytes : List ℕ) : Refusal → Type 0 where
  syntax : {p : Place} → IsRefused false bytes (reading.Syntax p) → IsRefusedWith bytes (refusal kind.Syntax p)
  unclosed : {p : Place} → IsRefused false bytes (reading.Unclosed p) → IsRefusedWith bytes (refusal kind.Unclosed p)
  too_deep : {p : Place} → IsRefused false bytes (reading.TooDeep p) → IsRefusedWith bytes (refusal kind.TooDeep p)
  too_long : {p : Place} → IsRefused false bytes (reading.TooLong p) → IsRefusedWith bytes (refusal kind.TooLong p)
  too_big : {p : Place} → IsRefused false bytes (reading.TooBig p) → IsRefusedWith bytes (refusal kind.TooBig p)
  not_expanded : (r : expand.Refusal) (ds : List Tree) → IsText false bytes ds → RefusesText false (sexp.trees ds) r →
      IsRefusedWith bytes (expansion_refusal r)
  past_limit : (r : CoreRefusal) (p : ProgramTree) → HasProgram bytes p → judge_program p ≡ Err r →
      IsRefusedWith bytes (limit_refusal r)

-- the text is accepted, its program has code, and this is it
pub record IsCompiled (bytes : List ℕ) (code : Assembled) : Type 0 where
  pub program : ProgramTree
  pub accepted : IsAccepted bytes program
  pub has_code : IsCompilable program
  pub own_code : code ≡ program_code program

-- a text that is not compiled is refused, with its first refusal, unless memory ran out
abbrev pub IsNotCompiled : List ℕ → CompileRefusal → Type 0
IsNotCompiled bytes (Refused r) = IsRefusedWith bytes r
IsNotCompiled bytes NoMemory = Unit {0}
