-- What a state of a program with cells holds is within what the state of its source holds.
use Rattle.std.proofs.Common.{◌≡◌, refl, sym, ap, ◌∙◌, ℕ, suc, ◌+◌, ◌≤◌, arith, Bool, false, IsTrue, List, [], ◌∷◌, ◌++◌, length, Some, slice_get}
use Rattle.std.specs.Prelude.{sum_by}
use Rattle.std.proofs.lemmas.List.Sums.{sum_by-cons}
use Rattle.tb_semantics.specs.Graph.{IsIn, below, total}
use Rattle.tb_semantics.proofs.Simulation as Sim
use Rattle.tb_semantics.proofs.Reachable.{HasMatch}
use Rattle.tb_semantics.proofs.Worlds.{World, Stores, Measure, total-stores, made-stores, made_size, made_size-items}
use Rattle.tb_core.specs.Tree.{ProgramTree}
use Rattle.tb_core.specs.OperandOrder.{order_of}
use Rattle.tb_core.specs.Store as S
use Rattle.tb_core.specs.Store.{Value, Object, object_size}
use Rattle.tb_core.specs.Space as Space
use Rattle.tb_core.specs.Space.{values_locations}
use Rattle.tb_core.specs.Measures as N
use Rattle.tb_core.specs.Reference as R
use Rattle.tb_core.specs.Partners as Like
use Rattle.tb_core.specs.Partners.{AlikeLists, AlikeObjects}
use Rattle.tb_ir.specs.Machine as M
use Rattle.tb_ir.specs.TreeMachine as T
use Rattle.tb_ir.specs.Space as V
use Rattle.tb_ir.specs.Measures.{tree_measured}
use Rattle.tb_assign.specs.Eliminate.{cells_of}
use Rattle.tb_assign.proofs.Rel as Rel
use Rattle.tb_assign.proofs.Rel.{Partner, Alike, WorkRel, FramesRel, ItemRel, Known}
use Rattle.tb_assign.proofs.Grow.{items}
use Rattle.tb_assign.proofs.Match.{HoldsFor, match-item, sources}

-- the items by a measure
abbrev pub cell_measure : (M.Item → ℕ) → Measure M.Item
cell_measure size = record { locations = V.locations_of; size = V.of_item size; nowhere = refl }

abbrev pub source_measure : (S.Item → ℕ) → Measure S.Item
source_measure size = record { locations = Space.locations_of; size = N.of_item size; nowhere = refl }

abbrev cell_all : M.Item → ℕ
cell_all i = V.closures_in i + V.words_in i

abbrev source_all : S.Item → ℕ
source_all j = N.closures_in j + N.words_in j

alike_length : (w : World Value) (b : Bool) (vs us : List Value) → AlikeLists (Partner w) (IsTrue b) vs us →
    length vs ≡ length us
alike_length w b _ _ Like.nothing = refl
alike_length w b _ _ (Like.further h hs) = ap suc (alike_length w b _ _ hs)

object_same : (w : World Value) (o n : Object) → AlikeObjects (Partner w) (IsTrue false) o n →
    object_size o ≡ object_size n
object_same w _ _ (Like.pair h k) = refl
object_same w _ _ (Like.vec hs) = ap (λ n. n + 1) (alike_length w false _ _ hs)
object_same w _ _ Like.str = refl
object_same w _ _ Like.sym = refl

closures_within : (p : ProgramTree) (w : World Value) (i : M.Item) (j : S.Item) → ItemRel p w i j →
    V.closures_in i ≤ N.closures_in j
closures_within p w _ _ (Rel.cell h) = omega arith
closures_within p w _ _ (Rel.object h) = omega arith
closures_within p w _ _ (Rel.closure c e) = omega arith

words_within : (p : ProgramTree) (w : World Value) (i : M.Item) (j : S.Item) → ItemRel p w i j →
    V.words_in i ≤ N.words_in j
words_within p w _ _ (Rel.cell h) = omega arith
words_within p w _ _ (Rel.object h) = let e = object_same w _ _ h in omega arith
words_within p w _ _ (Rel.closure c e) = omega arith

all_within : (p : ProgramTree) (w : World Value) (i : M.Item) (j : S.Item) → ItemRel p w i j → cell_all i ≤ source_all j
all_within p w i j h = let a = closures_within p w i j h in let b = words_within p w i j h in omega arith

cells_made : (st : List M.Item) → V.made st ≡ made_size (cell_measure cell_all) st
cells_made st = by_items st ∙ sym (made_size-items (cell_measure cell_all) st)
  where
    by_items : (st : List M.Item) → V.made st ≡ sum_by cell_all st
    by_items [] = refl
    by_items (i ∷ st) = let h = by_items st in let k = sum_by-cons cell_all i st in omega arith

source_made : (ss : List S.Item) → N.items_made ss ≡ made_size (source_measure source_all) ss
source_made ss = by_items ss ∙ sym (made_size-items (source_measure source_all) ss)
  where
    by_items : (ss : List S.Item) → N.items_made ss ≡ sum_by source_all ss
    by_items [] = refl
    by_items (i ∷ ss) = let h = by_items ss in let k = sum_by-cons source_all i ss in omega arith

-- the roots of both stores
abbrev pub cell_roots : ProgramTree → T.TreeConfig → List ℕ
cell_roots p c = below (length p.statics) ++
    (V.control_locations c.control ++ (V.frames_locations T.work_values c.frames ++ values_locations c.globals))

abbrev pub source_roots : ProgramTree → R.Config → List ℕ
source_roots p d = below (length p.statics) ++
    (Space.control_locations d.control ++ (Space.frames_locations d.frames ++ values_locations d.globals))

-- what two configurations hold
pub record Held (p : ProgramTree) (w : World Value) (c : T.TreeConfig) (d : R.Config) : Type 0 where
  pub marks : V.marks c.frames ≡ N.marks d.frames
  pub globals_long : length c.globals ≡ length d.globals
  pub stores : Stores (items p) w w c.store d.store
  pub roots : (t : ℕ) → IsIn t (cell_roots p c) → HasMatch (Partner w) (sources p w d.store (source_roots p d)) t

pub holds-for : (p : ProgramTree) (w : World Value) (st : List M.Item) (ss : List S.Item) (roots : List ℕ) →
    Stores (items p) w w st ss → HoldsFor p w ss roots
holds-for p w st ss roots h s v i = let k = h.holds s v i in of_known k.other k.there k.known
  where
    of_known : (j : S.Item) → slice_get ss s ≡ Some j → Known p w j v →
        (u : Value) × (slice_get ss s ≡ Some (S.Var u)) × Alike w false v u
    of_known _ e (Rel.holds {u = u} k) = (u, e, k)

module _ (p : ProgramTree) (w : World Value) (c : T.TreeConfig) (d : R.Config) (h : Held p w c d) (a : M.Item → ℕ)
    (b : S.Item → ℕ) (sizes : (i : M.Item) (j : S.Item) → ItemRel p w i j → a i ≤ b j) where
  held_total : total (λ l. V.of_item a (slice_get c.store l))
      (V.store_graph T.work_values (length p.statics) c) ≤ total (λ l. N.of_item b (slice_get d.store l))
      (Space.store_graph (length p.statics) d)
  held_total =
      total-stores M.Item S.Item Value (items p) w w c.store d.store h.stores (cell_measure a) (source_measure b) sizes
      (cell_roots p c) (source_roots p d) h.roots
      (λ i j k all.
      (match-item p w d.store (source_roots p d)
      (holds-for p w c.store d.store (source_roots p d) h.stores) i j k).by all)

-- related states, from what they hold
pub alike-held : (p : ProgramTree) (w : World Value) (input : List ℕ) (t : T.TreeState) (s : R.State) →
    M.events_of t ≡ R.events_of s → Held p w (M.config_of t) (R.config_of s) →
    Sim.Alike (tree_measured (cells_of p) (order_of p) input) (N.reference_measured p (order_of p) input) 0 t s
alike-held p w input t s e h =
    let c = M.config_of t in
    let d = R.config_of s in
    let closures = held_total p w c d h V.closures_in N.closures_in (closures_within p w) in
    let words = held_total p w c d h V.words_in N.words_in (words_within p w) in
    let made = made-stores M.Item S.Item Value (items p) w w c.store d.store h.stores (cell_measure cell_all)
    (source_measure source_all) (all_within p w) in
    let of_cells = cells_made c.store in
    let of_source = source_made d.store in
    let marks = h.marks in
    let long = h.globals_long in
    record {
      events = e;
      fits = record { frames = omega arith; closures = omega arith; words = omega arith };
      made = omega arith;
    }
