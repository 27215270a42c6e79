-- What the refusals of the reader, of the expansion and of the limits come to.
use Rattle.tb_prim.specs.declared.place.Place.{Place}
use Rattle.tb_core.specs.declared.limits.CoreRefusal.{CoreRefusal}
use Rattle.tb_expand.specs.declared.refusal.ExpandRefusal.{ExpandRefusal}
use Rattle.tb_expand.specs.declared.refusal.ExpandRefusal.TheVariants as expansion
use Rattle.tb_sexp.specs.declared.refusal.ReadRefusal.{ReadRefusal}
use Rattle.tb_sexp.specs.declared.refusal.ReadRefusal.TheVariants as reading
use Rattle.tb_twobit.specs.declared.refusal.RefusalKind.{RefusalKind}
use Rattle.tb_twobit.specs.declared.refusal.RefusalKind.TheVariants as kind
use Rattle.tb_twobit.specs.declared.refusal.CompileRefusal.{CompileRefusal}
use Rattle.tb_twobit.specs.declared.refusal.CompileRefusal.TheVariants.{Refused, NoMemory}
use Rattle.tb_twobit.specs.Refusals.{limit_refusal, refusal}

abbrev pub refused_at : RefusalKind → Place → CompileRefusal
refused_at k p = Refused (refusal k p)

-- a refusal of the reader
abbrev pub of_reading : ReadRefusal → CompileRefusal
of_reading (reading.Syntax p) = refused_at kind.Syntax p
of_reading (reading.Unclosed p) = refused_at kind.Unclosed p
of_reading (reading.TooDeep p) = refused_at kind.TooDeep p
of_reading (reading.TooLong p) = refused_at kind.TooLong p
of_reading (reading.TooBig p) = refused_at kind.TooBig p
of_reading reading.NoMemory = NoMemory

-- a refusal of the expansion
abbrev pub of_expansion : ExpandRefusal → CompileRefusal
of_expansion (expansion.BadForm p) = refused_at kind.BadForm p
of_expansion (expansion.NoMatch p) = refused_at kind.NoMatch p
of_expansion (expansion.BadRules p) = refused_at kind.BadRules p
of_expansion (expansion.Integrated p) = refused_at kind.Integrated p
of_expansion (expansion.Duplicate p) = refused_at kind.Duplicate p
of_expansion (expansion.Budget p) = refused_at kind.Budget p
of_expansion (expansion.TooDeep p) = refused_at kind.TooDeep p
of_expansion (expansion.NotInProfile p) = refused_at kind.NotInProfile p
of_expansion (expansion.NotBuilt p) = refused_at kind.NotBuilt p
of_expansion expansion.NoMemory = NoMemory

-- an offence against a limit of the core language
abbrev pub of_limit : CoreRefusal → CompileRefusal
of_limit r = Refused (limit_refusal r)
