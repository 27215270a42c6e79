-- What is related stays so when the world grows.
use Rattle.std.proofs.Common.{ℕ, List, Option}
use Rattle.tb_semantics.proofs.Worlds.{Grows, Items}
use Rattle.tb_core.specs.Store.{Value, Object}
use Rattle.tb_core.specs.Partners as Like
use Rattle.tb_core.specs.Partners.{AlikeLists, AlikeObjects}
use Rattle.tb_ir.specs.Tree.{Form}
use Rattle.tb_ir.specs.Machine.{Env, Item, Work}
use Rattle.tb_ir.specs.TreeMachine.{TreeWork, Frames}
use Rattle.tb_lift.proofs.Rel as Rel
use Rattle.tb_lift.proofs.Rel.{Fact, World, Partner, Alike, AllAlike, Pass, Ready, Plain, Known, Scope, Justified, EnvRel, ItemRel, FactHolds, ValueRel, ValuesRel, CallRel, ArgsRel, WorkRel, FramesRel, LetFrames}

module _ (w v : World) (g : Grows w v) where
  pub alike-grows : {a b : Value} → Alike w a b → Alike v a b
  alike-grows Like.fix = Like.fix
  alike-grows Like.char = Like.char
  alike-grows Like.truth = Like.truth
  alike-grows Like.nil = Like.nil
  alike-grows Like.unspecified = Like.unspecified
  alike-grows (Like.undefined u) = Like.undefined u
  alike-grows Like.end_object = Like.end_object
  alike-grows (Like.at h) = Like.at (g _ h)

  pub all-grow : {vs us : List Value} → AllAlike w vs us → AllAlike v vs us
  all-grow Like.nothing = Like.nothing
  all-grow (Like.further h hs) = Like.further (alike-grows h) (all-grow hs)

  object_grows : {o n : Object} → AlikeObjects (Partner w) (Unit {0}) o n → AlikeObjects (Partner v) (Unit {0}) o n
  object_grows (Like.pair h k) = Like.pair (alike-grows h) (alike-grows k)
  object_grows (Like.vec hs) = Like.vec (all-grow hs)
  object_grows Like.str = Like.str
  object_grows Like.sym = Like.sym

  module _ (z : Pass) where
    pub ready-grows : {l c : ℕ} {m : Env} → Ready z w l c m → Ready z v l c m
    ready-grows r = record { lifts = r.lifts; old = r.old; fact = g _ r.fact; agree = r.agree }

    pub scope-grows : {xs : List ℕ} {q m : Env} → Scope z w xs q m → Scope z v xs q m
    scope-grows s = record {
      plain = λ x i e.
          let p = s.plain x i e in
          record { value = p.value; other = p.other; here = p.here; there = p.there; alike = alike-grows p.alike };
      known = λ f l i e.
          let k = s.known f l i e in
          record { location = k.location; there = k.there; ready = ready-grows k.ready };
    }

    justified_grows : {ls xs : List ℕ} {q m : Env} {a : Value} → Justified z w ls xs q m a → Justified z v ls xs q m a
    justified_grows (Rel.is_used y u e) = Rel.is_used y u e
    justified_grows (Rel.is_alike b i h) = Rel.is_alike b i (alike-grows h)

    pub env-grows : {ls xs ys : List ℕ} {q r m : Env} → EnvRel z w ls xs q ys r m → EnvRel z v ls xs q ys r m
    env-grows e = record { scope = scope-grows e.scope; agree = e.agree; within = λ a i. justified_grows (e.within a i) }

    pub item-grows : {i j : Item} → ItemRel z w i j → ItemRel z v i j
    item-grows (Rel.cell h) = Rel.cell (alike-grows h)
    item-grows (Rel.object h) = Rel.object (object_grows h)
    item-grows (Rel.closure d e) = Rel.closure d (env-grows e)

    pub fact-grows : {j : Item} {x : Fact} → FactHolds z w j x → FactHolds z v j x
    fact-grows (Rel.lifted_closure d s) = Rel.lifted_closure d (scope-grows s)

    value_grows : {m : Env} {o : Option ℕ} {a b : Value} → ValueRel z w m o a b → ValueRel z v m o a b
    value_grows (Rel.plain_value h) = Rel.plain_value (alike-grows h)
    value_grows (Rel.ready_value r) = Rel.ready_value (ready-grows r)

    values_grow : {m : Env} {f : Form} {ns : List ℕ} {vs us : List Value} → ValuesRel z w m f ns vs us →
        ValuesRel z v m f ns vs us
    values_grow Rel.none_yet = Rel.none_yet
    values_grow (Rel.one_more h hs) = Rel.one_more (value_grows h) (values_grow hs)

    call_grows : {m : Env} {l : ℕ} {ns : List ℕ} {vs us : List Value} → CallRel z w m l ns vs us → CallRel z v m l ns vs us
    call_grows Rel.no_value = Rel.no_value
    call_grows (Rel.own_value h hs) = Rel.own_value (alike-grows h) (call_grows hs)
    call_grows (Rel.operator_value r hs) = Rel.operator_value (ready-grows r) (call_grows hs)

    pub operands-grow : {m : Env} {o : Option ℕ} {a b : Work TreeWork} → ArgsRel z w m o a b → ArgsRel z v m o a b
    operands-grow (Rel.operand_next n done ns p f e k h r) = Rel.operand_next n done ns p f e k (values_grow h) (env-grows r)

    work_grows : {a b : Work TreeWork} → WorkRel z w a b → WorkRel z v a b
    work_grows Rel.top = Rel.top
    work_grows (Rel.select a b e) = Rel.select a b (env-grows e)
    work_grows Rel.set_global = Rel.set_global
    work_grows (Rel.rest a e) = Rel.rest a (env-grows e)
    work_grows (Rel.args h) = Rel.args (operands-grow h)
    work_grows (Rel.direct_args n done ns k l p b h e) = Rel.direct_args n done ns k l p b (call_grows h) (env-grows e)

    pub frames-grow : {fs hs : Frames} → FramesRel z w fs hs → FramesRel z v fs hs
    frames-grow Rel.no_frame = Rel.no_frame
    frames-grow (Rel.frame h hs) = Rel.frame (work_grows h) (frames-grow hs)

    pub let-frames-grow : {l : ℕ} {m : Env} {fs hs : Frames} → LetFrames z w l m fs hs → LetFrames z v l m fs hs
    let-frames-grow (Rel.let_frame h hs) = Rel.let_frame (operands-grow h) (frames-grow hs)

-- the items of both stores
abbrev pub items : Pass → Items Item Item Fact
items z = record {
  Alike = ItemRel z;
  Known = FactHolds z;
  alike_stays = λ w v g i j h. item-grows w v g z h;
  known_stays = λ w v g j x h. fact-grows w v g z h;
}
