-- What a state of a lifted program holds is within what the state of its source holds.
use Rattle.std.proofs.Common.{◌≡◌, refl, sym, ap, ◌∙◌, ℕ, suc, ◌+◌, ◌≤◌, arith, List, [], ◌∷◌, ◌++◌, length, map, Option, Some, None, slice_get}
use Rattle.std.specs.Prelude.{sum_by}
use Rattle.std.proofs.lemmas.List.Sums.{sum_by-cons}
use Rattle.tb_prim.specs.declared.constant.GlobalName.{GlobalName}
use Rattle.tb_prim.specs.declared.constant.Static.{Static}
use Rattle.tb_prim.specs.declared.event.Event.{Event}
use Rattle.tb_semantics.specs.Graph.{IsIn, below, total}
use Rattle.tb_semantics.specs.Keeps.{Measured}
use Rattle.tb_semantics.proofs.Simulation as Sim
use Rattle.tb_semantics.proofs.Reachable.{HasMatch}
use Rattle.tb_semantics.proofs.Worlds.{Stores, Measure, total-stores, made-stores, made_size, made_size-items}
use Rattle.tb_core.specs.Store.{Value, Object, object_size}
use Rattle.tb_core.specs.Space.{values_locations}
use Rattle.tb_core.specs.Partners as Like
use Rattle.tb_core.specs.Partners.{AlikeObjects}
use Rattle.tb_ir.specs.Tree.{Tree, LambdaTree, tree_at}
use Rattle.tb_ir.specs.FreeVariables.{free}
use Rattle.tb_ir.specs.Machine as M
use Rattle.tb_ir.specs.Machine.{Item, Procedure, Language}
use Rattle.tb_ir.specs.TreeMachine as T
use Rattle.tb_ir.specs.Space as V
use Rattle.tb_ir.specs.Measures.{measured_of}
use Rattle.tb_lift.specs.Lift.{lift_lambda, lift_all}
use Rattle.tb_lift.proofs.Rel as Rel
use Rattle.tb_lift.proofs.Rel.{Fact, World, Partner, AllAlike, Pass, source, target, ItemRel}
use Rattle.tb_lift.proofs.Grow.{items}
use Rattle.tb_lift.proofs.Match.{sources, facts-of, match-item}

-- both programs as languages
abbrev pub procedure_by : (ℕ → List ℕ) → (ℕ → List ℕ) → ℕ → Option LambdaTree → Option (Procedure Tree)
procedure_by added captured l None = None
procedure_by added captured l (Some m) = Some (record {
  place = m.place;
  formals = m.formals;
  rest = m.rest;
  added = added l;
  captured = captured l;
  body = m.body;
})

abbrev pub source_language : Pass → Language Tree T.TreeWork
source_language z = record {
  procedure = λ l. procedure_by z.source_added z.source_captured l (slice_get z.lambdas l);
  form = tree_at z.forms;
  free = free z.source_free;
  evaluate = T.evaluate (source z);
  give = T.give (source z);
  values = T.work_values;
}

abbrev pub target_language : Pass → Language Tree T.TreeWork
target_language z = record {
  procedure = λ l. procedure_by z.choice.added z.target_captured l (slice_get (map (lift_lambda z.choice) z.lambdas) l);
  form = tree_at (lift_all z.choice z.forms);
  free = free z.target_free;
  evaluate = T.evaluate (target z);
  give = T.give (target z);
  values = T.work_values;
}

-- the items by a measure
abbrev pub item_measure : (Item → ℕ) → Measure Item
item_measure size = record { locations = V.locations_of; size = V.of_item size; nowhere = refl }

abbrev all_size : Item → ℕ
all_size i = V.closures_in i + V.words_in i

pub alike-length : (w : World) (vs us : List Value) → AllAlike w vs us → length vs ≡ length us
alike-length w _ _ Like.nothing = refl
alike-length w _ _ (Like.further h hs) = ap suc (alike-length w _ _ hs)

object_same : (w : World) (o n : Object) → AlikeObjects (Partner w) (Unit {0}) o n → object_size o ≡ object_size n
object_same w _ _ (Like.pair h k) = refl
object_same w _ _ (Like.vec hs) = ap (λ n. n + 1) (alike-length w _ _ hs)
object_same w _ _ Like.str = refl
object_same w _ _ Like.sym = refl

closures_within : (z : Pass) (w : World) (i j : Item) → ItemRel z w i j → V.closures_in i ≤ V.closures_in j
closures_within z w _ _ (Rel.cell h) = omega arith
closures_within z w _ _ (Rel.object h) = omega arith
closures_within z w _ _ (Rel.closure d e) = omega arith

words_within : (z : Pass) (w : World) (i j : Item) → ItemRel z w i j → V.words_in i ≤ V.words_in j
words_within z w _ _ (Rel.cell h) = omega arith
words_within z w _ _ (Rel.object h) = let e = object_same w _ _ h in omega arith
words_within z w _ _ (Rel.closure d e) = omega arith

all_within : (z : Pass) (w : World) (i j : Item) → ItemRel z w i j → all_size i ≤ all_size j
all_within z w i j h = let a = closures_within z w i j h in let b = words_within z w i j h in omega arith

items_made : (st : List Item) → V.made st ≡ made_size (item_measure all_size) st
items_made st = by_items st ∙ sym (made_size-items (item_measure all_size) st)
  where
    by_items : (st : List Item) → V.made st ≡ sum_by all_size st
    by_items [] = refl
    by_items (i ∷ st) = let h = by_items st in let k = sum_by-cons all_size i st in omega arith

-- the roots of a store, where so many objects are static
abbrev pub roots_of : ℕ → T.TreeConfig → List ℕ
roots_of statics c = below statics ++
    (V.control_locations c.control ++ (V.frames_locations T.work_values c.frames ++ values_locations c.globals))

-- what two configurations hold
pub record Held (z : Pass) (w : World) (c d : T.TreeConfig) : Type 0 where
  pub marks : V.marks c.frames ≡ V.marks d.frames
  pub globals_long : length c.globals ≡ length d.globals
  pub stores : Stores (items z) w w c.store d.store
  pub roots : (t : ℕ) → IsIn t (roots_of z.statics c) →
      HasMatch (Partner w) (sources z w d.store (roots_of z.statics d)) t

module _ (z : Pass) (w : World) (c d : T.TreeConfig) (h : Held z w c d) (size : Item → ℕ)
    (sizes : (i j : Item) → ItemRel z w i j → size i ≤ size j) where
  held_total : total (λ l. V.of_item size (slice_get c.store l)) (V.store_graph T.work_values z.statics c) ≤
      total (λ l. V.of_item size (slice_get d.store l)) (V.store_graph T.work_values z.statics d)
  held_total =
      total-stores Item Item Fact (items z) w w c.store d.store h.stores (item_measure size) (item_measure size) sizes
      (roots_of z.statics c) (roots_of z.statics d) h.roots
      (λ i j k all.
      (match-item z w d.store (roots_of z.statics d)
      (facts-of z w c.store d.store (roots_of z.statics d) h.stores) i j k).by all)

-- both machines with what their states hold
module _ (z : Pass) (globals : List GlobalName) (statics : List Static) (input : List ℕ) (same : length statics ≡ z.statics) where
  abbrev pub source_measured : Measured Event T.TreeState
  source_measured = measured_of (source_language z) globals statics input

  abbrev pub target_measured : Measured Event T.TreeState
  target_measured = measured_of (target_language z) globals statics input

  -- related states, from what they hold
  pub alike-held : (w : World) (t s : T.TreeState) → M.events_of t ≡ M.events_of s →
      Held z w (M.config_of t) (M.config_of s) → Sim.Alike target_measured source_measured 0 t s
  alike-held w t s e h =
      let c = M.config_of t in
      let d = M.config_of s in
      let closures = held_total z w c d h V.closures_in (closures_within z w) in
      let words = held_total z w c d h V.words_in (words_within z w) in
      let made = made-stores Item Item Fact (items z) w w c.store d.store h.stores (item_measure all_size)
      (item_measure all_size) (all_within z w) in
      let of_target = items_made c.store in
      let of_source = items_made d.store in
      let marks = h.marks in
      let long = h.globals_long in
      rw same
      record {
        events = e;
        fits = record { frames = omega arith; closures = omega arith; words = omega arith };
        made = omega arith;
      }
