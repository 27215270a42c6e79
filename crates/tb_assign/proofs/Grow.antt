-- What is related stays so when the world grows.
use Rattle.std.proofs.Common.{ℕ, Bool, true, false, IsTrue, List}
use Rattle.tb_semantics.proofs.Worlds.{Both, World, Grows, Items}
use Rattle.tb_core.specs.Tree.{Form, ProgramTree}
use Rattle.tb_core.specs.Store as S
use Rattle.tb_core.specs.Store.{Value, Object}
use Rattle.tb_core.specs.Reference as R
use Rattle.tb_core.specs.Partners as Like
use Rattle.tb_core.specs.Partners.{AlikeValues, AlikeLists, AlikeObjects}
use Rattle.tb_ir.specs.Machine as M
use Rattle.tb_ir.specs.TreeMachine as T
use Rattle.tb_assign.proofs.Rel as Rel
use Rattle.tb_assign.proofs.Rel.{Partner, Alike, VarRel, EnvRel, ValuesRel, WorkRel, FramesRel, ItemRel, Known}

module _ (P Q : ℕ → ℕ → Type 0) (U V : Type 0) (wider : (a b : ℕ) → P a b → Q a b) (marks : U → V) where
  pub values_wider : (v u : Value) → AlikeValues P U v u → AlikeValues Q V v u
  values_wider _ _ Like.fix = Like.fix
  values_wider _ _ Like.char = Like.char
  values_wider _ _ Like.truth = Like.truth
  values_wider _ _ Like.nil = Like.nil
  values_wider _ _ Like.unspecified = Like.unspecified
  values_wider _ _ (Like.undefined u) = Like.undefined (marks u)
  values_wider _ _ Like.end_object = Like.end_object
  values_wider _ _ (Like.at {a = a} {b = b} h) = Like.at (wider a b h)

  pub lists_wider : (vs us : List Value) → AlikeLists P U vs us → AlikeLists Q V vs us
  lists_wider _ _ Like.nothing = Like.nothing
  lists_wider _ _ (Like.further {v = v} {w = u} {vs = vs} {ws = us} h hs) = Like.further (values_wider v u h)
      (lists_wider vs us hs)

  pub objects_wider : (o n : Object) → AlikeObjects P U o n → AlikeObjects Q V o n
  objects_wider _ _ (Like.pair h k) = Like.pair (values_wider _ _ h) (values_wider _ _ k)
  objects_wider _ _ (Like.vec hs) = Like.vec (lists_wider _ _ hs)
  objects_wider _ _ Like.str = Like.str
  objects_wider _ _ Like.sym = Like.sym

module _ (w v : World Value) (g : Grows w v) where
  wide : (a b : ℕ) → Partner w a b → Partner v a b
  wide a b i = g (Both a b) i

  pub alike_grows : (b : Bool) (x y : Value) → Alike w b x y → Alike v b x y
  alike_grows b = values_wider (Partner w) (Partner v) (IsTrue b) (IsTrue b) (λ a c i. g (Both a c) i) (λ u. u)

  pub var_grows : (b : Bool) (x : Value) (s : ℕ) → VarRel w b x s → VarRel v b x s
  var_grows b _ _ (Rel.in_cell e i) = Rel.in_cell e (g _ i)
  var_grows b _ _ (Rel.plain e i) = Rel.plain e (g _ i)

  pub env_grows : (f : ℕ → Bool) (r : M.Env) (q : S.Env) → EnvRel f w r q → EnvRel f v r q
  env_grows f _ _ Rel.empty = Rel.empty
  env_grows f _ _ (Rel.bind {x = x} e h hs) = Rel.bind e (var_grows (f x) _ _ h) (env_grows f _ _ hs)

  module _ (p : ProgramTree) where
    pub args_grow : (f : Form) (ns : List ℕ) (vs us : List Value) → ValuesRel p w f ns vs us → ValuesRel p v f ns vs us
    args_grow f _ _ _ Rel.none_yet = Rel.none_yet
    args_grow f _ _ _ (Rel.one_more h hs) = Rel.one_more (alike_grows _ _ _ h) (args_grow f _ _ _ hs)

    pub work_grows : (a : M.Work T.TreeWork) (b : R.Work) → WorkRel p w a b → WorkRel p v a b
    work_grows _ _ Rel.top = Rel.top
    work_grows _ _ (Rel.sel n m j k c e) = Rel.sel n m j k c (env_grows _ _ _ e)
    work_grows _ _ Rel.set_global = Rel.set_global
    work_grows _ _ (Rel.set_cell i) = Rel.set_cell (g _ i)
    work_grows _ _ (Rel.rest n k c e) = Rel.rest n k c (env_grows _ _ _ e)
    work_grows _ _ (Rel.args o n m h lt c e) = Rel.args o n m (args_grow _ _ _ _ h) lt c (env_grows _ _ _ e)

    pub frames_grow : (fs : List (M.Frame T.TreeWork)) (hs : List R.Frame) → FramesRel p w fs hs → FramesRel p v fs hs
    frames_grow _ _ Rel.no_frame = Rel.no_frame
    frames_grow _ _ (Rel.frame h hs) = Rel.frame (work_grows _ _ h) (frames_grow _ _ hs)

    pub item_grows : (i : M.Item) (j : S.Item) → ItemRel p w i j → ItemRel p v i j
    item_grows _ _ (Rel.cell h) = Rel.cell (alike_grows true _ _ h)
    item_grows _ _ (Rel.object h) = Rel.object
        (objects_wider (Partner w) (Partner v) (IsTrue false) (IsTrue false) (λ a c i. g (Both a c) i) (λ u. u) _ _ h)
    item_grows _ _ (Rel.closure c e) = Rel.closure c (env_grows _ _ _ e)

    pub known_grows : (j : S.Item) (x : Value) → Known p w j x → Known p v j x
    known_grows _ _ (Rel.holds h) = Rel.holds (alike_grows false _ _ h)

-- the items of both stores
abbrev pub items : ProgramTree → Items M.Item S.Item Value
items p = record {
  Alike = ItemRel p;
  Known = Known p;
  alike_stays = λ w v g i j h. item_grows w v g p i j h;
  known_stays = λ w v g j x h. known_grows w v g p j x h;
}
