-- Code keeps the program in A-normal form from which it is made.
use Rattle.std.proofs.Common.{◌≡◌, refl, ℕ, List, [], ◌∷◌, ◌++◌, length, Some, slice_get}
use Rattle.tb_semantics.specs.Keeps.{Keeps}
use Rattle.tb_semantics.specs.Runs.{after}
use Rattle.tb_core.specs.Rules.{StaticsKeep}
use Rattle.tb_ir.specs.AnfTree.{AnfTree, ProcTree}
use Rattle.tb_ir.specs.AnfMachine.{anf_machine}
use Rattle.tb_ir.specs.AnfRules.{KeepsRules, forms_of, lambdas_of}
use Rattle.tb_ir.specs.Machine.{config_of}
use Rattle.tb_ir.specs.Measures.{anf_measured}
use Rattle.tb_mac.specs.Assemble.{number_of}
use Rattle.tb_mac.specs.Assembled.{Assembled}
use Rattle.tb_mac.specs.FramedRuns.{measured_machine}
use Rattle.tb_codegen.specs.Fits.{Fits}
use Rattle.tb_codegen.specs.Generate.{code_forms, noted_items}
use Rattle.tb_codegen.specs.Notes.{Note, Noted, Inside, AtValue, Away, ToTop}
use Rattle.tb_codegen.specs.PlainCode.{code_of}
use Rattle.tb_codegen.proofs.Assembling.{items_of, notes_of}
use Rattle.tb_codegen.proofs.Begin.{starts_alike}
use Rattle.tb_codegen.proofs.FineNotes.{constants-written, only-first}
use Rattle.tb_codegen.proofs.Following.{follows}
use Rattle.tb_codegen.proofs.Keeping.{OnlyFirst, keeps_started}
use Rattle.tb_codegen.proofs.MarkSteps.{clean}
use Rattle.tb_codegen.proofs.Ok.{Follows, HasNote}
use Rattle.tb_codegen.proofs.Steps.{Unmarked}
use Rattle.tb_codegen.proofs.Whole.{AllConstants}

-- the events, what is held, what is made, and that it goes on, for every memory and input
follows_keeps : (p : AnfTree) (notes : List Note) (c : Assembled) → Follows p notes c → AllConstants p notes → OnlyFirst p notes →
    StaticsKeep 0 p.statics → HasNote p notes 0 (Inside (AtValue (ToTop 0)) Away []) → (heap : ℕ) (input : List ℕ) →
    ((n : ℕ) → Unmarked (config_of (after (anf_machine p input) n)).control) →
    Keeps (measured_machine c heap input) (anf_measured p input) 1
follows_keeps p notes c fo consts only statics first heap input unmarked =
    keeps_started p notes c fo consts only heap input unmarked (starts_alike p notes c heap input fo statics first)

-- the code starts where the first form does, or ends
pub first-there : (p : AnfTree) (a : ℕ → ℕ) (qs : List ProcTree) (l : ℕ) (is : List Noted) →
    slice_get (notes_of a is) 0 ≡ Some (Inside (AtValue (ToTop (length qs))) Away []) →
    slice_get (notes_of a (code_forms p 0 qs l ++ is)) 0 ≡ Some (Inside (AtValue (ToTop 0)) Away [])
first-there p a [] l is e = e
first-there p a (q ∷ qs) l is e = refl

pub code-keeps : (p : AnfTree) → KeepsRules p → Fits p → (heap : ℕ) (input : List ℕ) →
    Keeps (measured_machine (code_of p) heap input) (anf_measured p input) 1
code-keeps p rules fits heap input =
    let to = number_of (items_of (noted_items p)) in
    follows_keeps p (notes_of to (noted_items p)) (code_of p) (follows p rules fits) (constants-written p rules fits) (only-first p rules fits)
    rules.statics (first-there p to (forms_of p) (length (lambdas_of p)) _ refl) heap input (clean p rules input)
