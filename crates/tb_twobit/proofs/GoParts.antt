-- Parts of what the commands do.
use Rattle.std.proofs.Common.{◌≡◌, ℕ, List, arith, false, Option, Some, None}
use Rattle.std.specs.Prelude.{IfSome, Result, Ok, Err, IsErrAnd, MatchResult}
use Rattle.tb_core.specs.Tree.{ProgramTree}
use Rattle.tb_expand.specs.Refusals as expand
use Rattle.tb_expand.specs.Texts.{RefusesText}
use Rattle.tb_expand.specs.View.{Fails}
use Rattle.tb_expand.specs.declared.refusal.ExpandRefusal.{ExpandRefusal}
use Rattle.tb_expand.specs.declared.refusal.ExpandRefusal.TheVariants as expansion
use Rattle.tb_mac.specs.MacEvents.{MacState}
use Rattle.tb_sexp.specs.declared.refusal.ReadRefusal.{ReadRefusal}
use Rattle.tb_sexp.specs.declared.refusal.ReadRefusal.TheVariants as reading
use Rattle.tb_sexp.specs.Texts.{IsText, RefusedAs}
use Rattle.tb_sexp.specs.Tree.{Tree}
use Rattle.tb_sexp.specs.View as sexp
use Rattle.tb_twobit.specs.Words.{Go, Space}
use Rattle.tb_twobit.specs.Refusals.{IsNotCompiled, syntax, unclosed, too_deep, too_long, too_big, not_expanded}
use Rattle.tb_twobit.specs.Sinks.{Sunk}
use Rattle.tb_twobit.specs.GoDoes as does
use Rattle.tb_twobit.specs.GoDoes.{GoDoes, RunEnds}
use Rattle.tb_twobit.specs.Preparing as prepare
use Rattle.tb_twobit.specs.Preparing.{Given, IsNotReady, IsNotRun, Outside}
use Rattle.tb_twobit.specs.SpaceDoes as space
use Rattle.tb_twobit.specs.SpaceDoes.{ReportEnds, SpaceDoes}
use Rattle.tb_twobit.specs.Stopping as stops
use Rattle.tb_twobit.specs.Stopping.{Stops}
use Rattle.tb_twobit.specs.calls.Compiling.{of_reading, of_expansion}

-- a text that is not read is refused with the first refusal of the reader
pub not_read : (bytes : List ℕ) (e : ReadRefusal) → RefusedAs false bytes e → IsNotCompiled bytes (of_reading e)
not_read bytes (reading.Syntax p) h = syntax h
not_read bytes (reading.Unclosed p) h = unclosed h
not_read bytes (reading.TooDeep p) h = too_deep h
not_read bytes (reading.TooLong p) h = too_long h
not_read bytes (reading.TooBig p) h = too_big h
not_read bytes reading.NoMemory h = tt

-- a text whose data are not expanded is refused with their first refusal
pub unexpanded : (bytes : List ℕ) (ds : List Tree) (e : ExpandRefusal) → IsText false bytes ds →
    Fails (RefusesText false (sexp.trees ds)) e → IsNotCompiled bytes (of_expansion e)
unexpanded bytes ds (expansion.BadForm p) text h = not_expanded (expand.BadForm p) ds text h
unexpanded bytes ds (expansion.NoMatch p) text h = absurd h
unexpanded bytes ds (expansion.BadRules p) text h = absurd h
unexpanded bytes ds (expansion.Integrated p) text h = not_expanded (expand.Integrated p) ds text h
unexpanded bytes ds (expansion.Duplicate p) text h = not_expanded (expand.Duplicate p) ds text h
unexpanded bytes ds (expansion.Budget p) text h = not_expanded (expand.Budget p) ds text h
unexpanded bytes ds (expansion.TooDeep p) text h = not_expanded (expand.TooDeep p) ds text h
unexpanded bytes ds (expansion.NotInProfile p) text h = absurd h
unexpanded bytes ds (expansion.NotBuilt p) text h = not_expanded (expand.NotBuilt p) ds text h
unexpanded bytes ds expansion.NoMemory text h = tt

-- a command never ends in the status of usage
stop_is_not_usage : (state : MacState) (taken steps : ℕ) (diag : Sunk) (status : ℕ) → Stops state taken steps diag status → status ≡ 2 → ⊥
stop_is_not_usage state taken steps diag _ (stops.ended rest front a b d) e = omega arith
stop_is_not_usage state taken steps diag _ (stops.failed rest front c q a b d) e = omega arith
stop_is_not_usage state taken steps diag _ (stops.full rest es x y z a b d) e = omega arith
stop_is_not_usage state taken steps diag _ (stops.out_of_steps rest es a b d f) e = omega arith

preparing_is_not_usage : (source : List ℕ) (g : Given) (diag : Sunk) (status : ℕ) → IsNotReady source g diag status → status ≡ 2 → ⊥
preparing_is_not_usage source g diag _ (prepare.not_loaded a b) e = omega arith
preparing_is_not_usage source g diag _ (prepare.not_read p a b d) e = omega arith
preparing_is_not_usage source g diag _ (prepare.no_memory a) e = omega arith
preparing_is_not_usage source g diag _ (prepare.too_long a b) e = omega arith
preparing_is_not_usage source g diag _ (prepare.long_input p a b d) e = omega arith
preparing_is_not_usage source g diag _ (prepare.refused bytes r a b d) e = omega arith

not_run_is_not_usage : (go : Go) (o : Outside) (status : ℕ) → IsNotRun go o status → status ≡ 2 → ⊥
not_run_is_not_usage go o status (prepare.not_ready n g) e = preparing_is_not_usage go.source o.given o.diag status n e
not_run_is_not_usage go o _ (prepare.not_fitting input p a b d f g) e = omega arith

pub go_is_not_usage : (go : Go) (o : Outside) (status : ℕ) → GoDoes go o status → status ≡ 2 → ⊥
go_is_not_usage go o status (does.not_run n) e = not_run_is_not_usage go o status n e
go_is_not_usage go o status (does.ran input p a r) e = ends_not r.ends e
  where
    ends_not : {p : ProgramTree} {state : MacState} {taken steps : ℕ} {out diag : Sunk} {status : ℕ} →
        RunEnds p state taken steps out diag status → status ≡ 2 → ⊥
    ends_not (does.stopped s) e = stop_is_not_usage _ _ _ _ _ s e
    ends_not (does.not_put rest es a b d q f h) e = omega arith

pub space_is_not_usage : (s : Space) (o : Outside) (status : ℕ) → SpaceDoes s o status → status ≡ 2 → ⊥
space_is_not_usage s o status (space.not_run n) e = not_run_is_not_usage s.go o status n e
space_is_not_usage s o status (space.reported input p a r) e = ends_not r.ends e
  where
    ends_not : {s : Space} {p : ProgramTree} {input : List ℕ} {taken : ℕ} {out diag : Sunk} {status : ℕ} →
        ReportEnds s p input taken out diag status → status ≡ 2 → ⊥
    ends_not (space.stopped k g) e = stop_is_not_usage _ _ _ _ _ k e
    ends_not (space.not_put n g r d) e = omega arith

-- an error of which something is known
pub err_so : {T E : Type 0} (r : Result T E) (P : T → Type 0) (Q R : E → Type 0) → IsErrAnd r R →
    ((e : E) → R e → Q e) → MatchResult r P Q
err_so (Ok t) P Q R h f = absurd h
err_so (Err e) P Q R h f = f e h

-- what follows from what holds of a value, if there is one
pub if_some_then : {A : Type 0} {P Q : A → Type 0} (o : Option A) → ((a : A) → P a → Q a) → IfSome o P → IfSome o Q
if_some_then None h i = tt
if_some_then (Some a) h i = h a i
