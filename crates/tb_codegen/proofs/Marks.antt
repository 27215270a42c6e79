-- The mark of a variable without a value: no primitive is used on it.
use Rattle.std.proofs.Common.{◌≡◌, refl, sym, ◌∙◌, subst, ap, ℕ, zero, suc, ◌≤◌, ◌⊎◌, false, arith, inl, inr, ⊎_elim, List, [], ◌∷◌, ◌++◌, map, take, drop, Option, Some, None, slice_get, slice_set}
use Rattle.std.proofs.lemmas.Bool.{cases_eq}
use Rattle.tb_prim.specs.declared.constant.Const.{Const}
use Rattle.tb_prim.specs.declared.constant.Static.{Static}
use Rattle.tb_semantics.specs.Graph.{IsIn}
use Rattle.tb_semantics.proofs.ListLemmas.{in-cases, in-left, in-right}
use Rattle.tb_core.specs.Lists.{list_objects, list_value}
use Rattle.tb_core.specs.Partners.{AlikeValues, fix, char, truth, nil, unspecified, undefined, end_object, at, AlikeLists, nothing, further, AlikeObjects, pair, vec, str, sym as symbol, AlikeContents, holds, procedure, other, Partnered}
use Rattle.tb_core.specs.Rules.{Every, PartKeeps, StaticKeeps, StaticsKeep}
use Rattle.tb_core.specs.Store.{Value, Fix, Char, Truth, Nil, Unspecified, Undefined, EndObject, At, Object, static_object, value_of}
use Rattle.tb_ir.specs.AnfTree.{AnfTree, ProcTree, Operand, Quote, Var, Block, Bind, CloseAll, Tail, Op, Atom, Global, SetGlobal, DefGlobal, PrimUse, NewCell, CellGet, CellSet, Close, Call, Direct, Apply, Branch}
use Rattle.tb_ir.specs.AnfMachine.{atom_value, atom_values, both, free_of_atom, free_of_atoms}
use Rattle.tb_ir.specs.AnfRules.{BlockKeeps, KeepsRules, NoMark, all_blocks, blocks, blocks_in, blocks_of, celled, is_mark, named, of_each, operations}
use Rattle.tb_ir.specs.Machine.{Env, Empty, Item, Cell, Obj, Clo, bind_all, bind_found, bind_located, closures, contents, gather, lookup, static_item}
use Rattle.tb_ir.specs.Rules.{times}
use Rattle.tb_codegen.proofs.Envs.{lookup-other, lookup-same}
use Rattle.tb_codegen.proofs.Namings.{every-at, times-append, times-in}

-- no mark
abbrev pub Same : ℕ → ℕ → Type 0
Same a b = a ≡ b

abbrev pub Fine : Value → Type 0
Fine v = AlikeValues Same ⊥ v v

abbrev pub FineList : List Value → Type 0
FineList vs = AlikeLists Same ⊥ vs vs

abbrev pub FineObject : Object → Type 0
FineObject o = AlikeObjects Same ⊥ o o

pub fine_or : (v : Value) → Fine v ⊎ (v ≡ Undefined)
fine_or (Fix n) = inl fix
fine_or (Char n) = inl char
fine_or (Truth n) = inl truth
fine_or Nil = inl nil
fine_or Unspecified = inl unspecified
fine_or Undefined = inr refl
fine_or EndObject = inl end_object
fine_or (At l) = inl (at refl)

not_marks : (v w : Value) → AlikeValues Same ⊥ v w → v ≡ Undefined → ⊥
not_marks v w (undefined u) e = u
not_marks v w fix e = cc
not_marks v w char e = cc
not_marks v w truth e = cc
not_marks v w nil e = cc
not_marks v w unspecified e = cc
not_marks v w end_object e = cc
not_marks v w (at h) e = cc

pub not_mark : (v : Value) → Fine v → v ≡ Undefined → ⊥
not_mark v f e = not_marks v v f e

pub fine_constant : (c : Const) → is_mark (Quote c) ≡ false → Fine (value_of c)
fine_constant (Const.Fix n) h = fix
fine_constant (Const.Char n) h = char
fine_constant (Const.Bool n) h = truth
fine_constant Const.Nil h = nil
fine_constant Const.Unspecified h = unspecified
fine_constant Const.Undefined h = cc
fine_constant (Const.Stat n) h = at refl

-- parts of static objects
fine_part : (n : ℕ) (c : Const) → PartKeeps n c → Fine (value_of c)
fine_part n (Const.Fix v) h = fix
fine_part n (Const.Char v) h = char
fine_part n (Const.Bool v) h = truth
fine_part n Const.Nil h = nil
fine_part n Const.Unspecified h = unspecified
fine_part n Const.Undefined h = absurd h
fine_part n (Const.Stat v) h = at refl

fine_parts : (n : ℕ) (cs : List Const) → Every (PartKeeps n) cs → FineList (map value_of cs)
fine_parts n [] h = nothing
fine_parts n (c ∷ cs) h = further (fine_part n c h.0) (fine_parts n cs h.1)

fine_static : (n : ℕ) (s : Static) → StaticKeeps n s → FineObject (static_object s)
fine_static n (Static.Pair a b) h = pair (fine_part n a h.0) (fine_part n b h.1)
fine_static n (Static.Vector cs) h = vec (fine_parts n cs h.1)
fine_static n (Static.Str bs) h = str
fine_static n (Static.Sym bs) h = symbol

-- lists
pub fine_take : (k : ℕ) (vs : List Value) → FineList vs → FineList (take k vs)
fine_take zero vs h = nothing
fine_take (suc k) [] h = nothing
fine_take (suc k) (v ∷ vs) (further r h) = further r (fine_take k vs h)

pub fine_drop : (k : ℕ) (vs : List Value) → FineList vs → FineList (drop k vs)
fine_drop zero vs h = h
fine_drop (suc k) [] h = nothing
fine_drop (suc k) (v ∷ vs) (further r h) = fine_drop k vs h

pub fine_append : (vs ws : List Value) → FineList vs → FineList ws → FineList (vs ++ ws)
fine_append [] ws h g = g
fine_append (v ∷ vs) ws (further r h) g = further r (fine_append vs ws h g)

pub fine_list_value : (vs : List Value) (l : ℕ) → Fine (list_value vs l)
fine_list_value [] l = nil
fine_list_value (v ∷ vs) l = at refl

pub fine_list_objects : (vs : List Value) (l : ℕ) → FineList vs → (o : Object) → IsIn o (list_objects vs l) → FineObject o
fine_list_objects [] l h o i = absurd i
fine_list_objects (v ∷ []) l (further r h) o (inl e) = subst FineObject e (pair r nil)
fine_list_objects (v ∷ []) l (further r h) o (inr i) = absurd i
fine_list_objects (v ∷ w ∷ ws) l (further r h) o (inl e) = subst FineObject e (pair r (at refl))
fine_list_objects (v ∷ w ∷ ws) l (further r h) o (inr i) = fine_list_objects (w ∷ ws) (suc l) h o i

-- blocks inside blocks
mutual
  inside_block : (b j k : Block) → IsIn k (blocks b) → IsIn j (blocks k) → IsIn j (blocks b)
  inside_block (Bind x op b) j k (inl e) h = subst (λ k. IsIn j (blocks k)) (sym e) h
  inside_block (Bind x op b) j k (inr i) h = inr (⊎_elim (λ i. in-left (blocks_in op) (blocks b) j (inside_op op j k i h)) (λ i. in-right (blocks_in op) (blocks b) j (inside_block b j k i h)) (in-cases (blocks_in op) (blocks b) k i))
  inside_block (CloseAll xs ls b) j k (inl e) h = subst (λ k. IsIn j (blocks k)) (sym e) h
  inside_block (CloseAll xs ls b) j k (inr i) h = inr (inside_block b j k i h)
  inside_block (Tail op) j k (inl e) h = subst (λ k. IsIn j (blocks k)) (sym e) h
  inside_block (Tail op) j k (inr i) h = inr (inside_op op j k i h)

  inside_op : (op : Op) (j k : Block) → IsIn k (blocks_in op) → IsIn j (blocks k) → IsIn j (blocks_in op)
  inside_op (Branch a b d) j k i h = ⊎_elim (λ i. in-left (blocks b) (blocks d) j (inside_block b j k i h)) (λ i. in-right (blocks b) (blocks d) j (inside_block d j k i h)) (in-cases (blocks b) (blocks d) k i)
  inside_op (Atom a) j k i h = absurd i
  inside_op (Global g q) j k i h = absurd i
  inside_op (SetGlobal g a q) j k i h = absurd i
  inside_op (DefGlobal g a) j k i h = absurd i
  inside_op (PrimUse q ds s) j k i h = absurd i
  inside_op (NewCell a) j k i h = absurd i
  inside_op (CellGet a q) j k i h = absurd i
  inside_op (CellSet a b) j k i h = absurd i
  inside_op (Close l) j k i h = absurd i
  inside_op (Call f ds q) j k i h = absurd i
  inside_op (Direct l ds) j k i h = absurd i
  inside_op (Apply f l q) j k i h = absurd i

pub self_block : (b : Block) → IsIn b (blocks b)
self_block (Bind x op b) = inl refl
self_block (CloseAll xs ls b) = inl refl
self_block (Tail op) = inl refl

pub inside_all : (qs : List ProcTree) (j k : Block) → IsIn k (blocks_of qs) → IsIn j (blocks k) → IsIn j (blocks_of qs)
inside_all [] j k i h = absurd i
inside_all (q ∷ qs) j k i h = ⊎_elim (λ i. in-left (blocks q.body) (blocks_of qs) j (inside_block q.body j k i h)) (λ i. in-right (blocks q.body) (blocks_of qs) j (inside_all qs j k i h)) (in-cases (blocks q.body) (blocks_of qs) k i)

-- cells are made of variables that are named
celled_less : (x : ℕ) (op : Op) → times x (celled op) ≤ times x (named op)
celled_less x (NewCell a) = omega arith
celled_less x (Atom a) = omega arith
celled_less x (Global g q) = omega arith
celled_less x (SetGlobal g a q) = omega arith
celled_less x (DefGlobal g a) = omega arith
celled_less x (PrimUse q ds s) = omega arith
celled_less x (CellGet a q) = omega arith
celled_less x (CellSet a b) = omega arith
celled_less x (Close l) = omega arith
celled_less x (Call f ds q) = omega arith
celled_less x (Direct l ds) = omega arith
celled_less x (Apply f l q) = omega arith
celled_less x (Branch a b d) = omega arith

all_less : (x : ℕ) (ops : List Op) → times x (of_each celled ops) ≤ times x (of_each named ops)
all_less x [] = omega arith
all_less x (op ∷ ops) =
    let a = celled_less x op in let b = all_less x ops in
    let c = times-append x (celled op) (of_each celled ops) in
    let d = times-append x (named op) (of_each named ops) in
    omega arith

tight : (x : ℕ) (ops : List Op) (op : Op) → times x (of_each named ops) ≡ times x (of_each celled ops) → IsIn op ops → times x (named op) ≡ times x (celled op)
tight x [] op e i = absurd i
tight x (o ∷ ops) op e i =
    let a = celled_less x o in let b = all_less x ops in
    let c = times-append x (celled o) (of_each celled ops) in
    let d = times-append x (named o) (of_each named ops) in
    ⊎_elim (λ q. subst (λ op. times x (named op) ≡ times x (celled op)) q (omega arith)) (λ i. tight x ops op (omega arith) i) i

module _ (p : AnfTree) (rules : KeepsRules p) where
  -- a variable that is bound to the mark
  pub record Marked (x : ℕ) : Type 0 where
    pub behind : Block
    pub bound : IsIn (Bind x (Atom (Quote Const.Undefined)) behind) (all_blocks p)

  -- it is named in cells alone
  pub not_named : (x : ℕ) (op : Op) → Marked x → IsIn op (operations p) → celled op ≡ [] → IsIn x (named op) → ⊥
  not_named x op m i e h =
      let k = every-at (BlockKeeps p) (all_blocks p) (Bind x (Atom (Quote Const.Undefined)) m.behind) rules.blocks m.bound in
      let t = tight x (operations p) op k.mark_is_bound i in
      let a = times-in x (named op) h in
      let b : times x (celled op) ≡ 0 = ap (times x) e in
      absurd (omega arith)

  -- variables that hold the mark are bound to it
  abbrev pub EnvFine : Env → Type 0
  EnvFine r = (x : ℕ) → lookup r x ≡ Some Undefined → Marked x

  pub fine_empty : EnvFine Empty
  fine_empty x e = cc

  pub fine_bind : (y : ℕ) (v : Value) (r : Env) → EnvFine r → (v ≡ Undefined → Marked y) → EnvFine (Env.Bind y v r)
  fine_bind y v r h g x e =
      ⊎_elim
      (λ (q : y ≡ x).
      let f : lookup (Env.Bind y v r) y ≡ Some Undefined = subst (λ x. lookup (Env.Bind y v r) x ≡ Some Undefined) (sym q) e in
      let s = lookup-same y v r in
      subst Marked q (g (cc (f, s))))
      (λ ne. h x (sym (lookup-other y x v r ne) ∙ e))
      (cases_eq y x)

  fine_found : (y : ℕ) (o : Option Value) (r : Env) → EnvFine r → (o ≡ Some Undefined → Marked y) → EnvFine (bind_found y o r)
  fine_found y None r h g = h
  fine_found y (Some v) r h g = fine_bind y v r h (λ e. g (ap Some e))

  pub fine_gather : (xs : List ℕ) (r : Env) → EnvFine r → EnvFine (gather xs r)
  fine_gather [] r h = fine_empty
  fine_gather (y ∷ xs) r h = fine_found y (lookup r y) (gather xs r) (fine_gather xs r h) (h y)

  pub fine_bind_all : (xs : List ℕ) (vs : List Value) (r : Env) → FineList vs → EnvFine r → EnvFine (bind_all xs vs r)
  fine_bind_all [] vs r f h = h
  fine_bind_all (x ∷ xs) [] r f h = h
  fine_bind_all (x ∷ xs) (v ∷ vs) r (further g f) h = fine_bind x v (bind_all xs vs r) (fine_bind_all xs vs r f h) (λ e. absurd (not_mark v g e))

  pub fine_located : (xs : List ℕ) (l : ℕ) (r : Env) → EnvFine r → EnvFine (bind_located xs l r)
  fine_located [] l r h = h
  fine_located (x ∷ xs) l r h = fine_bind x (At l) (bind_located xs (suc l) r) (fine_located xs (suc l) r h) (λ e. cc)

  -- items
  abbrev pub ItemFine : Item → Type 0
  ItemFine (Cell v) = Unit {0}
  ItemFine (Obj o) = FineObject o
  ItemFine (Clo m r) = EnvFine r

  abbrev pub StoreFine : List Item → Type 0
  StoreFine st = Every ItemFine st

  pub fine_at : (st : List Item) (l : ℕ) (i : Item) → StoreFine st → slice_get st l ≡ Some i → ItemFine i
  fine_at [] l i h e = cc
  fine_at (j ∷ st) zero i h e = let q : j ≡ i = cc (e) in subst ItemFine q h.0
  fine_at (j ∷ st) (suc l) i h e = fine_at st l i h.1 e

  pub store_more : (st us : List Item) → StoreFine st → StoreFine us → StoreFine (st ++ us)
  store_more [] us h g = g
  store_more (i ∷ st) us h g = (h.0, store_more st us h.1 g)

  pub store_set : (st : List Item) (l : ℕ) (i : Item) → StoreFine st → ItemFine i → StoreFine (slice_set st l i)
  store_set [] l i h g = h
  store_set (j ∷ st) zero i h g = (g, h.1)
  store_set (j ∷ st) (suc l) i h g = (h.0, store_set st l i h.1 g)

  pub store_closures : (captured : ℕ → List ℕ) (ls : List ℕ) (r : Env) → EnvFine r → StoreFine (closures captured ls r)
  store_closures captured [] r h = tt
  store_closures captured (l ∷ ls) r h = (fine_gather (captured l) r h, store_closures captured ls r h)

  store_objects : (os : List Object) → ((o : Object) → IsIn o os → FineObject o) → StoreFine (map Obj os)
  store_objects [] h = tt
  store_objects (o ∷ os) h = (h o (inl refl), store_objects os (λ o i. h o (inr i)))

  pub store_list : (vs : List Value) (l : ℕ) → FineList vs → StoreFine (map Obj (list_objects vs l))
  store_list vs l h = store_objects (list_objects vs l) (fine_list_objects vs l h)

  pub store_statics : (n : ℕ) (ss : List Static) → StaticsKeep n ss → StoreFine (map static_item ss)
  store_statics n [] h = tt
  store_statics n (s ∷ ss) h = (fine_static n s h.0, store_statics (suc n) ss h.1)

  -- a store is its own partner
  abbrev content_fine : (st : List Item) (l : ℕ) → StoreFine st → AlikeContents Same ⊥ (contents st l) (contents st l)
  content_fine [] l h = other
  content_fine (Cell v ∷ st) zero h = other
  content_fine (Obj o ∷ st) zero h = holds h.0
  content_fine (Clo m r ∷ st) zero h = procedure
  content_fine (i ∷ st) (suc l) h = content_fine st l h.1

  pub partnered : (st : List Item) → StoreFine st → Partnered Same ⊥ (contents st) (contents st)
  partnered st h = record {
    one_to_one = λ a b c d e f. cc (e, f);
    alike = λ a c e. subst (λ c. AlikeContents Same ⊥ (contents st a) (contents st c)) e (content_fine st a h);
  }

  -- atoms of an operation
  pub atom_fine : (op : Op) (r : Env) (d : Operand) (v : Value) → IsIn op (operations p) → celled op ≡ [] → EnvFine r → is_mark d ≡ false → ((x : ℕ) → IsIn x (free_of_atom d) → IsIn x (named op)) → atom_value r d ≡ Some v → Fine v
  atom_fine op r (Quote c) v i e h m n q = let s : value_of c ≡ v = cc (q) in subst Fine s (fine_constant c m)
  atom_fine op r (Var x) v i e h m n q = ⊎_elim (λ f. f) (λ u. absurd (not_named x op (h x (q ∙ ap Some u)) i e (n x (inl refl)))) (fine_or v)

  both_some : (a : Option Value) (b : Option (List Value)) (vs : List Value) → both a b ≡ Some vs → (v : Value) × (ws : List Value) × (a ≡ Some v) × (b ≡ Some ws) × (v ∷ ws ≡ vs)
  both_some None b vs e = cc
  both_some (Some v) None vs e = cc
  both_some (Some v) (Some ws) vs e = (v, ws, refl, refl, cc (e))

  pub atoms_fine : (op : Op) (r : Env) (ds : List Operand) (vs : List Value) → IsIn op (operations p) → celled op ≡ [] → EnvFine r → NoMark ds → ((x : ℕ) → IsIn x (free_of_atoms ds) → IsIn x (named op)) → atom_values r ds ≡ Some vs → FineList vs
  atoms_fine op r [] vs i e h m n q = let s : [] ≡ vs = cc (q) in subst FineList s nothing
  atoms_fine op r (d ∷ ds) vs i e h m n q =
      let t = both_some (atom_value r d) (atom_values r ds) vs q in
      let a = atom_fine op r d t.0 i e h m.0 (λ x j. n x (in-left (free_of_atom d) (free_of_atoms ds) x j)) t.2 in
      let b = atoms_fine op r ds t.1 i e h m.1 (λ x j. n x (in-right (free_of_atom d) (free_of_atoms ds) x j)) t.3 in
      subst FineList t.4 (further a b)
